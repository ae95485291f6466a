use Rattle.std.proofs.Common.{◌≡◌, ◌==◌, ◌||◌, ◌∷◌, ℕ, false, List, length, slice_index, ap, sym}
use Rattle.std.proofs.Common.{refl, subst, arith, ◌∙◌}
use Rattle.kernel_model.specs.declared.Kind.TheVariants.{Records}
use Rattle.kernel_model.specs.declared.Cause.TheVariants.{SpentRecords}
use Rattle.kernel_model.specs.Access.{access, undo, bare_found}
use Rattle.kernel_model.specs.Charges.{charge, funds}
use Rattle.kernel_model.specs.GraftStep.{is_record_spent}
use Rattle.kernel_model.specs.Levels.{drop_innermost}
use Rattle.kernel_model.specs.Objects.{Objects, Accounts, with_accounts, with_things}
use Rattle.kernel_model.specs.Sound.{ImagesAreLoaded}
use Rattle.graft_levels.specs.Masks.{held}
use Rattle.graft_levels.specs.UndoLevels.{bare, records_of}
use Rattle.kernel_state.specs.Table.{accounts_of}
use Rattle.graft_accessors.specs.Accesses.{things_after}
use Rattle.kernel_state.specs.Stores.{world_of_store, objects_of}
use Rattle.graft_levels.specs.Chains.{came, level_of, outer_of}
use Rattle.graft_levels.specs.Calls.{AreInside}
use Rattle.kernel_laws.proofs.Laws.{inverses_undo}
use Rattle.graft_calls.proofs.Charging.{not_recorded, is_recorded, uncharged}
use Rattle.graft_levels.proofs.Conditions.{inside_if, loaded_if}
use Rattle.graft_levels.proofs.Dropping.{pair, configs}
use Rattle.graft_calls.proofs.GoingOn.{recorded_on}
use Rattle.graft_calls.proofs.Looking.{change_is_bare, leads_back, stands_once, more_undoable}
use Rattle.graft_levels.proofs.Placing.{touched_placed, touched_elsewhere}
use Rattle.graft_calls.proofs.Recording.{record_count_is, record_length}
use Rattle.graft_levels.proofs.Undoing.{all_kept}
use Rattle.graft_calls.proofs.accessors.change.Goals as goal

pub returns-then-not-charge_record : goal.returns-then-not-charge_record
returns-then-not-charge_record g c =
    record {
      step = (let s = c.args.store.now in
          let v = world_of_store s in
          let w = objects_of s in
          let gs = c.args.inner.level ∷ c.args.chain.now.levels in
          let log = c.args.chain.now.undo in
          let l = level_of s c.args.locks.now c.args.chain.now c.args.inner.process c.args.inner.level in
          let ls = outer_of s c.args.locks.now c.args.chain.now c.args.inner.process in
          let spent = funds w.accounts l.owner l.point Records == 0 || length (records_of log) == 64 in
          let same : is_record_spent w.accounts l ls ≡ spent =
          ap (λ n. funds w.accounts l.owner l.point Records == 0 || n == 64)
          (record_count_is c.args.inner.process s.ram (held c.args.locks.now) gs log w.things
          c.requires.call.placed.as_many) in
          ap came (not_recorded v w l ls l.machine c.args.call.id c.args.changed.result
          c.args.changed.inverse _ spent same c.if-not-charge_record.ensures.answer)
          ∙ ap (λ a. came (drop_innermost v (with_accounts a w) l ls SpentRecords))
          (sym (uncharged false (accounts_of c.charge_record.new.accounts) (charge Records
          l.owner l.point w.accounts) w.accounts refl c.if-not-charge_record.ensures.accounts))
          ∙ c.drop_innermost.ensures.step);
      kept = (record {
        placed = c.drop_innermost.ensures.kept.placed;
        inside = (λ images h.
            c.drop_innermost.ensures.kept.inside images
            (inside_if _ images Records c.args.inner.level.owner c.args.inner.level.point
            c.args.inner.process (accounts_of c.args.store.now.accounts) (accounts_of
            c.charge_record.new.accounts) (c.args.inner.level ∷ c.args.chain.now.levels)
            c.charge_record.ensures.accounts h));
        loaded = (λ images h.
            c.drop_innermost.ensures.kept.loaded images
            (loaded_if _ images Records c.args.inner.level.owner c.args.inner.level.point
            (accounts_of c.args.store.now.accounts) (accounts_of c.charge_record.new.accounts)
            c.charge_record.ensures.accounts h));
        elsewhere =
            (let e = c.drop_innermost.ensures.kept.elsewhere in
            record { world = e.world; living = e.living; others = e.others; memory = e.memory });
        memory = c.drop_innermost.ensures.kept.memory;
      });
    }

pub returns : goal.returns
returns g c =
    record {
      step = (let s = c.args.store.now in
          let v = world_of_store s in
          let w = objects_of s in
          let u = objects_of c.apply.new.store in
          let gs = c.args.inner.level ∷ c.args.chain.now.levels in
          let log = c.args.chain.now.undo in
          let l = level_of s c.args.locks.now c.args.chain.now c.args.inner.process c.args.inner.level in
          let ls = outer_of s c.args.locks.now c.args.chain.now c.args.inner.process in
          let q = c.args.inner.level.owner in
          let a = access c.args.call.id (l.machine.regs 0) (l.machine.regs 1) (l.machine.regs 2) q w.things in
          let after = things_after a w.things in
          let spent = funds w.accounts l.owner l.point Records == 0 || length (records_of log) == 64 in
          let same : is_record_spent w.accounts l ls ≡ spent =
          ap (λ n. funds w.accounts l.owner l.point Records == 0 || n == 64)
          (record_count_is c.args.inner.process s.ram (held c.args.locks.now) gs log w.things
          c.requires.call.placed.as_many) in
          let state : u ≡ with_things after (with_accounts (accounts_of c.charge_record.new.accounts) w) =
          c.apply.ensures.changed.objects
          ∙ ap (λ (xs : List ℕ). with_things (things_after (access c.args.call.id (slice_index xs 0)
          (slice_index xs 1) (slice_index xs 2) q w.things) w.things)
          (with_accounts (accounts_of c.charge_record.new.accounts) w)) c.arguments.ensures in
          let charged : accounts_of c.charge_record.new.accounts ≡ charge Records l.owner l.point
          w.accounts = c.if-not-charge_record.ensures.accounts in
          let law = inverses_undo c.args.call.id (l.machine.regs 0)
          (l.machine.regs 1) (l.machine.regs 2) q w.things
          (stands_once q w.things.queue (c.stores_are_whole.ensures.processes.queue.once q)) in
          let back : undo (bare_found c.args.changed.inverse) u.things ≡ w.things =
          ap (λ (x : Objects). undo (bare_found c.args.changed.inverse) x.things) state ∙ leads_back
          a c.args.changed.result c.args.changed.inverse w.things c.requires.answer law in
          is_recorded v w l ls l.machine c.args.call.id c.args.changed.result c.args.changed.inverse
          after spent same c.if-not-charge_record.ensures.answer
          ∙ pair _ _ _ _ refl (configs _ u _ _
          (sym (state ∙ ap (λ (x : Accounts). with_things after (with_accounts x w)) charged))
          (sym (recorded_on c.args.call.id c.args.changed.result c.args.inner.process
          c.count.result c.args.call.object c.args.call.mode s.ram c.apply.new.store.ram
          (held c.args.locks.now) (held c.touch.new.self) c.args.inner.level
          c.args.chain.now.levels c.go_on.new.levels log c.record.new.undo c.args.changed.inverse
          w.things u.things c.go_on.ensures.levels c.apply.ensures.changed.memory
          (omega (arith, c.requires.call.placed.as_many)) c.record.ensures back
          c.count.ensures.value c.touch.ensures c.requires.call.access.object c.requires.call.access.mode))));
      kept = (record {
        placed = (let s = c.args.store.now in
            let log = c.args.chain.now.undo in
            touched_placed s c.apply.new.store c.args.locks.now c.touch.new.self
            c.args.inner.process c.count.result c.args.call.object c.args.call.mode
            c.args.inner.level c.args.chain.now.levels c.go_on.new.levels log c.record.new.undo c.requires.call.placed
            c.apply.ensures.changed.living c.go_on.ensures.count (c.go_on.ensures.sound _
            c.requires.call.placed.levels) c.touch.ensures c.count.ensures.value
            (ap length c.record.ensures ∙ record_length (bare c.args.changed.inverse) log)
            (more_undoable (bare c.args.changed.inverse) log c.record.new.undo _ c.record.ensures
            (c.apply.ensures.kept c.args.changed.inverse c.requires.undoable)
            (all_kept log _ _ c.apply.ensures.kept c.requires.call.placed.undoable)));
        inside = (λ images h.
            c.go_on.ensures.inside images (accounts_of c.apply.new.store.accounts) c.args.inner.process
            (subst (λ a. AreInside images a c.args.inner.process
            (c.args.inner.level ∷ c.args.chain.now.levels))
            (sym (ap (λ (x : Objects). x.accounts) c.apply.ensures.changed.objects))
            (inside_if _ images Records c.args.inner.level.owner c.args.inner.level.point
            c.args.inner.process (accounts_of c.args.store.now.accounts) (accounts_of
            c.charge_record.new.accounts) (c.args.inner.level ∷ c.args.chain.now.levels)
            c.charge_record.ensures.accounts h)));
        loaded = (λ images h.
            subst (ImagesAreLoaded images) (sym (ap (λ (x : Objects). x.accounts) c.apply.ensures.changed.objects))
            (loaded_if _ images Records c.args.inner.level.owner c.args.inner.level.point
            (accounts_of c.args.store.now.accounts) (accounts_of c.charge_record.new.accounts)
            c.charge_record.ensures.accounts h));
        elsewhere =
            touched_elsewhere c.args.store.now _ c.args.locks.now c.touch.new.self
            c.args.inner.process c.count.result c.args.call.object c.args.call.mode
            c.apply.ensures.changed.world c.apply.ensures.changed.living
            c.apply.ensures.changed.memory c.touch.ensures;
        memory = c.apply.ensures.changed.memory;
      });
    }

pub record-requires-clause-bare : goal.record-requires-clause-bare
record-requires-clause-bare g c =
    let regs = c.args.inner.level.machine.regs in
    change_is_bare c.args.call.id (slice_index regs 0) (slice_index regs 1) (slice_index regs 2)
    c.args.inner.level.owner (objects_of c.args.store.now).things c.args.changed.result
    c.args.changed.inverse c.requires.answer
