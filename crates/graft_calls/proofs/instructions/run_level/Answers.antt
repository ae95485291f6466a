use Rattle.std.proofs.Common.{◌≡◌, false, ◌+◌, ◌*◌, ◌<◌, ◌==◌, ◌∷◌, ℕ, List, length, refl, ap, sym, subst, arith, ◌∙◌}
use Rattle.kernel_model.specs.declared.Kind.TheVariants.{Steps}
use Rattle.kernel_model.specs.declared.Cause.TheVariants.{SpentSteps}
use Rattle.kernel_model.specs.declared.Instr.{Instr}
use Rattle.kernel_model.specs.Boxed.{IsInside}
use Rattle.kernel_model.specs.Charges.{charge, funds}
use Rattle.kernel_model.specs.GraftStep.{after_machine, is_spent}
use Rattle.kernel_model.specs.Levels.{Level, base_of, body_in_segment, code_of, limit_in, drop_innermost}
use Rattle.kernel_model.specs.Machine.{Done, seg_step}
use Rattle.kernel_model.specs.Objects.{Objects, Accounts, with_accounts}
use Rattle.kernel_model.specs.Meaning.{Answer}
use Rattle.kernel_model.specs.Runs.{on_segment, segment_of}
use Rattle.kernel_model.specs.Sound.{ImagesAreLoaded}
use Rattle.graft_levels.specs.Masks.{held}
use Rattle.graft_levels.specs.UndoLevels.{innermost}
use Rattle.kernel_state.specs.Table.{accounts_of}
use Rattle.graft_levels.specs.Cpu.{Cpu, machine_of, done_of, by_place, goes_on}
use Rattle.kernel_state.specs.Stores.{world_of_store, objects_of, queue_of}
use Rattle.graft_levels.specs.Slots.{table_of}
use Rattle.graft_levels.specs.declared.GraftLevel.{GraftLevel}
use Rattle.graft_levels.specs.Chains.{put_back, came, level_of, outer_of, level_in, levels_in, outer}
use Rattle.graft_levels.specs.Calls.{AreInside, AllUndoable}
use Rattle.graft_levels.proofs.Beginning.{objects_over, same_objects, memory_fits}
use Rattle.graft_levels.proofs.Conditions.{loaded_charged}
use Rattle.graft_levels.proofs.Completing.{unanswered}
use Rattle.graft_levels.proofs.Memory.{same_segment}
use Rattle.graft_levels.proofs.Placing.{elsewhere_twice}
use Rattle.graft_levels.proofs.Sandbox.{stays_inside}
use Rattle.graft_calls.proofs.Stepping.{after_done, machine_inside, spent_step, paid_step}
use Rattle.graft_calls.proofs.Stepping.{done_alone, beyond_outside, frames_outside, count_rises}
use Rattle.graft_calls.proofs.Stepping.{stepped_sound, stepped_inside}
use Rattle.graft_levels.proofs.Views.{levels_alike}
use Rattle.graft_levels.proofs.Writing.{still_own}
use Rattle.graft_calls.proofs.instructions.run_level.Goals as goal

pub code_of-code-requires : goal.code_of-code-requires
code_of-code-requires g c = let h = c.requires.in_place.inside.0.inside c.args.store.now.ram in omega (arith, h.place)

pub returns-then-not-charge_step-clause-step : goal.returns-then-not-charge_step-clause-step
returns-then-not-charge_step-clause-step g c =
    let s = c.args.store.now in
    let v = world_of_store s in
    let w = objects_of s in
    let images = table_of c.args.images.now in
    let l = level_of s c.args.locks.now c.args.chain.now c.args.inner.process c.args.inner.level in
    let ls = outer_of s c.args.locks.now c.args.chain.now c.args.inner.process in
    let a = accounts_of c.charge_step.new.accounts in
    ap came (spent_step v images c.args.inner.process w l ls (is_spent w.accounts l) refl
    c.if-not-charge_step.ensures.answer)
    ∙ ap (λ (x : Accounts). came (drop_innermost v (with_accounts x w) l ls SpentSteps))
    (sym c.if-not-charge_step.ensures.accounts)
    ∙ ap (λ (x : GraftLevel). came (drop_innermost v (with_accounts a w)
    (level_of s c.args.locks.now c.args.chain.now c.args.inner.process x) ls SpentSteps))
    (sym c.if-not-charge_step.ensures.level)
    ∙ c.drop_innermost.ensures.step

pub returns-then-not-charge_step-clause-in_place : goal.returns-then-not-charge_step-clause-in_place
returns-then-not-charge_step-clause-in_place g c =
    let h = c.requires.in_place in
    let images = table_of c.args.images.now in
    record {
      placed = c.drop_innermost.ensures.kept.placed;
      inside = c.drop_innermost.ensures.kept.inside images
          (subst (λ (x : GraftLevel). AreInside images (accounts_of c.charge_step.new.accounts)
          c.args.inner.process (x ∷ c.args.chain.now.levels))
          (sym c.if-not-charge_step.ensures.level)
          (subst (λ (x : Accounts). AreInside images x c.args.inner.process (c.args.inner.level
          ∷ c.args.chain.now.levels)) (sym c.if-not-charge_step.ensures.accounts) h.inside));
      loaded =
          c.drop_innermost.ensures.kept.loaded images
          (subst (ImagesAreLoaded images) (sym c.if-not-charge_step.ensures.accounts) h.loaded);
    }

pub step-done-requires : goal.step-done-requires
step-done-requires g c =
    let h = c.requires.in_place.inside.0.inside c.args.store.now.ram in
    subst (λ (x : GraftLevel). x.machine.pc < length c.code_of-code.result.now) (sym c.if-not-charge_step.ensures.level)
    (subst (λ (x : List Instr). c.args.inner.level.machine.pc < length x) (sym c.code_of-code.ensures.value) h.place)

pub invariant_of-store-2-clause-fits : goal.invariant_of-store-2-clause-fits
invariant_of-store-2-clause-fits g c = memory_fits c.args.store.now c.step-done.new.ram

pub after_machine-requires : goal.after_machine-requires
after_machine-requires g c =
    let s = c.args.store.now in
    let p = c.args.inner.process in
    let gs = c.args.chain.now.levels in
    let n = length gs in
    let images = table_of c.args.images.now in
    let code = c.code_of-code.result.now in
    let now = c.charge_step.new.level in
    let cpu = c.step-done.new.self in
    let mem = c.step-done.new.ram in
    let inside : (ram : List ℕ) → IsInside code (4 * p + n) (machine_of now.machine ram) = λ ram.
    subst (λ (x : GraftLevel). IsInside code (4 * p + n) (machine_of x.machine ram))
    (sym c.if-not-charge_step.ensures.level)
    (subst (λ (x : List Instr). IsInside x (4 * p + n) (machine_of c.args.inner.level.machine ram))
    (sym c.code_of-code.ensures.value) (c.requires.in_place.inside.0.inside ram)) in
    let same : objects_over (record s { accounts = c.charge_step.new.accounts }) mem
    ≡ objects_of (record s { accounts = c.charge_step.new.accounts }) =
    same_objects (record s { accounts = c.charge_step.new.accounts }) mem
    c.stores_are_whole.ensures.frames c.stores_are_whole.ensures.memory
    (c.step-done.ensures.size c.stores_are_whole.ensures.memory)
    (λ a lt. c.step-done.ensures.contained (4 * p + n) a (inside s.ram) (frames_outside (4 * p + n) a lt)) in
    let h = c.requires.in_place in
    let w = objects_of s in
    record {
      in_place = record {
        placed = record {
          process = h.placed.process;
          few = h.placed.few;
          as_many = h.placed.as_many;
          unheld = h.placed.unheld;
          levels =
              stepped_sound (queue_of s) c.args.inner.level now cpu _ _ gs
              c.if-not-charge_step.ensures.level h.placed.levels;
          undoable = subst (λ (x : Objects). AllUndoable c.args.chain.now.undo x.things) (sym same) h.placed.undoable;
        };
        inside =
            stepped_inside images w.accounts (accounts_of c.charge_step.new.accounts)
            p c.args.inner.level now cpu _ _ gs c.if-not-charge_step.ensures.level
            c.if-not-charge_step.ensures.accounts
            (count_rises c.args.inner.level.count
            (limit_in (w.accounts.graft c.args.inner.level.owner c.args.inner.level.point))
            (funds w.accounts c.args.inner.level.owner c.args.inner.level.point Steps == 0)
            c.if-not-charge_step.ensures.answer h.inside.0.count)
            (λ ram. subst (λ (x : List Instr). IsInside x (4 * p + n) (machine_of cpu ram)) c.code_of-code.ensures.value
            (machine_inside code (4 * p + n) c.step-done.result now.machine cpu
            mem inside (c.step-done.ensures.inside (4 * p + n) (inside s.ram))
            c.step-done.ensures.ended ram))
            h.inside;
        loaded =
            subst (ImagesAreLoaded images) (sym c.if-not-charge_step.ensures.accounts)
            (loaded_charged images Steps c.args.inner.level.owner c.args.inner.level.point
            w.accounts h.loaded);
      };
    }

pub returns-clause-step : goal.returns-clause-step
returns-clause-step g c =
    let s = c.args.store.now in
    let p = c.args.inner.process in
    let gs = c.args.chain.now.levels in
    let n = length gs in
    let images = table_of c.args.images.now in
    let code = c.code_of-code.result.now in
    let now = c.charge_step.new.level in
    let cpu = c.step-done.new.self in
    let mem = c.step-done.new.ram in
    let inside : (ram : List ℕ) → IsInside code (4 * p + n) (machine_of now.machine ram) = λ ram.
    subst (λ (x : GraftLevel). IsInside code (4 * p + n) (machine_of x.machine ram))
    (sym c.if-not-charge_step.ensures.level)
    (subst (λ (x : List Instr). IsInside x (4 * p + n) (machine_of c.args.inner.level.machine ram))
    (sym c.code_of-code.ensures.value) (c.requires.in_place.inside.0.inside ram)) in
    let same : objects_over (record s { accounts = c.charge_step.new.accounts }) mem
    ≡ objects_of (record s { accounts = c.charge_step.new.accounts }) =
    same_objects (record s { accounts = c.charge_step.new.accounts }) mem
    c.stores_are_whole.ensures.frames c.stores_are_whole.ensures.memory
    (c.step-done.ensures.size c.stores_are_whole.ensures.memory)
    (λ a lt. c.step-done.ensures.contained (4 * p + n) a (inside s.ram) (frames_outside (4 * p + n) a lt)) in
    let v = world_of_store s in
    let w = objects_of s in
    let q = c.args.inner.level.owner in
    let pt = c.args.inner.level.point in
    let t = held c.args.locks.now in
    let log = c.args.chain.now.undo in
    let is = innermost log in
    let kept = put_back is w.things in
    let base = base_of p n in
    let l = level_of s c.args.locks.now c.args.chain.now p c.args.inner.level in
    let ls = outer_of s c.args.locks.now c.args.chain.now p in
    let one = level_in p n s.ram t now is kept in
    let u = with_accounts (charge Steps q pt w.accounts) w in
    let m = machine_of now.machine s.ram in
    let k = machine_of cpu mem in
    let done = c.step-done.result in
    let two = level_in p n mem t (record now { machine = cpu }) is kept in
    let state : objects_over (record s { accounts = c.charge_step.new.accounts }) mem ≡ u = same
    ∙ ap (λ (x : Accounts). with_accounts x w) c.if-not-charge_step.ensures.accounts in
    let alone = done_alone stays_inside code (4 * p + n) m k done c.code_of-code.ensures.boxed
    (inside s.ram) c.step-done.ensures.flat in
    let outside : ls ≡ levels_in p mem t gs (outer log) kept =
    sym (levels_alike p mem s.ram t t gs (outer log) kept (λ e lt. refl)
    (λ e x lt. same_segment p n e s.ram mem x
    (λ a out. c.step-done.ensures.contained (4 * p + n) a (inside s.ram) out) lt)) in
    paid_step v images p w l ls (is_spent w.accounts l) refl c.if-not-charge_step.ensures.answer
    ∙ ap (λ (x : GraftLevel). came (after_machine v images p u (level_in p n s.ram t x is kept) ls
    (seg_step (code_of images w.accounts q pt) (on_segment base (machine_of x.machine s.ram)))))
    (sym c.if-not-charge_step.ensures.level)
    ∙ ap (λ (x : List Instr). came (after_machine v images p u one ls
    (seg_step x (on_segment base m)))) (sym c.code_of-code.ensures.value)
    ∙ ap (λ (x : Done). came (after_machine v images p u one ls x)) alone
    ∙ ap came (after_done v images p u one ls base k done
    (λ id called. ap by_place (c.step-done.ensures.called id called))
    (λ ended. ap (λ (x : Cpu). on_segment base (machine_of x mem)) (c.step-done.ensures.ended ended)
    ∙ ap (λ (x : List ℕ). on_segment base (machine_of now.machine x))
    (c.step-done.ensures.memory ended)))
    ∙ ap (λ (x : List Level). came (after_machine v images p u two x (done_of done (on_segment base k)))) outside
    ∙ ap (λ (x : Objects). came (after_machine v images p x (level_in p n mem t
    (record now { machine = cpu }) is (put_back is x.things)) (levels_in p mem t gs (outer log)
    (put_back is x.things)) (done_of done (on_segment base k)))) (sym state)
    ∙ c.after_machine.ensures.step

pub returns-clause-elsewhere : goal.returns-clause-elsewhere
returns-clause-elsewhere g c =
    let s = c.args.store.now in
    let p = c.args.inner.process in
    let gs = c.args.chain.now.levels in
    let n = length gs in
    let images = table_of c.args.images.now in
    let code = c.code_of-code.result.now in
    let now = c.charge_step.new.level in
    let cpu = c.step-done.new.self in
    let mem = c.step-done.new.ram in
    let inside : (ram : List ℕ) → IsInside code (4 * p + n) (machine_of now.machine ram) = λ ram.
    subst (λ (x : GraftLevel). IsInside code (4 * p + n) (machine_of x.machine ram))
    (sym c.if-not-charge_step.ensures.level)
    (subst (λ (x : List Instr). IsInside x (4 * p + n) (machine_of c.args.inner.level.machine ram))
    (sym c.code_of-code.ensures.value) (c.requires.in_place.inside.0.inside ram)) in
    let same : objects_over (record s { accounts = c.charge_step.new.accounts }) mem
    ≡ objects_of (record s { accounts = c.charge_step.new.accounts }) =
    same_objects (record s { accounts = c.charge_step.new.accounts }) mem
    c.stores_are_whole.ensures.frames c.stores_are_whole.ensures.memory
    (c.step-done.ensures.size c.stores_are_whole.ensures.memory)
    (λ a lt. c.step-done.ensures.contained (4 * p + n) a (inside s.ram) (frames_outside (4 * p + n) a lt)) in
    elsewhere_twice s _ c.after_machine.new.store c.args.locks.now c.args.locks.now c.after_machine.new.locks p
    (record {
      world = refl;
      living = λ q. refl;
      others = λ q d apart. refl;
      memory =
          λ a beyond. c.step-done.ensures.contained (4 * p + n) a (inside s.ram)
          (beyond_outside p n a (omega (arith, c.requires.in_place.placed.few)) beyond);
    })
    c.after_machine.ensures.kept.elsewhere

pub returns-then-not-charge_step-clause-answer : goal.returns-then-not-charge_step-clause-answer
returns-then-not-charge_step-clause-answer g c =
    λ registers is. absurd (unanswered _ _ _ _ registers tt c.drop_innermost.ensures.step is)

pub returns-clause-answer : goal.returns-clause-answer
returns-clause-answer g c = λ registers is.
    let ended : goes_on c.step-done.result ≡ false = ap goes_on (c.after_machine.ensures.returned registers is) in
    let base = base_of c.args.inner.process (length c.args.chain.now.levels) in
    ap (λ (x : List ℕ). let a : Answer = record {
      registers = registers;
      body = body_in_segment registers (segment_of base (by_place x));
    } in a) (sym (c.step-done.ensures.memory ended))
    ∙ c.after_machine.ensures.answer registers is

pub returns-then-not-charge_step-clause-memory : goal.returns-then-not-charge_step-clause-memory
returns-then-not-charge_step-clause-memory g c =
    still_own c.args.inner.process
    (c.args.inner.level ∷ c.args.chain.now.levels) c.drop_innermost.new.chain.levels
    c.args.store.now.ram c.drop_innermost.new.store.ram c.drop_innermost.ensures.kept.memory

pub returns-clause-memory : goal.returns-clause-memory
returns-clause-memory g c =
    let s = c.args.store.now in
    let p = c.args.inner.process in
    let n = length c.args.chain.now.levels in
    let code = c.code_of-code.result.now in
    let now = c.charge_step.new.level in
    let inside : (ram : List ℕ) → IsInside code (4 * p + n) (machine_of now.machine ram) = λ ram.
    subst (λ (x : GraftLevel). IsInside code (4 * p + n) (machine_of x.machine ram))
    (sym c.if-not-charge_step.ensures.level)
    (subst (λ (x : List Instr). IsInside x (4 * p + n) (machine_of c.args.inner.level.machine ram))
    (sym c.code_of-code.ensures.value) (c.requires.in_place.inside.0.inside ram)) in
    λ a out apart. c.after_machine.ensures.kept.memory a apart
    ∙ c.step-done.ensures.contained (4 * p + n) a (inside s.ram) out
