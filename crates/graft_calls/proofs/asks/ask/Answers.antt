use Rattle.std.proofs.Common.{◌≡◌, ◌∷◌, List, length, ap, sym, subst, arith, ◌∙◌}
use Rattle.std.proofs.lemmas.Bool.Decides.{nat_tests}
use Rattle.kernel_model.specs.Access.{asked_point, asked_objects, asked_graft}
use Rattle.kernel_model.specs.GraftStep.{ask_refusal, ask_answered, after_ask}
use Rattle.kernel_model.specs.Levels.{Level}
use Rattle.kernel_model.specs.declared.Mode.{Mode}
use Rattle.kernel_model.specs.Locks.{Touched, with_touch}
use Rattle.graft_levels.specs.Masks.{held}
use Rattle.kernel_state.specs.Table.{accounts_of}
use Rattle.kernel_state.specs.Stores.{world_of_store, objects_of}
use Rattle.graft_levels.specs.Slots.{table_of}
use Rattle.graft_levels.specs.declared.GraftLevel.{GraftLevel}
use Rattle.graft_levels.specs.Chains.{came, level_of, outer_of}
use Rattle.graft_levels.specs.Calls.{AreInside, HasWrittenBegun, needs_touched}
use Rattle.graft_calls.proofs.Asking.{asked_levels, asked_apart, asked_on}
use Rattle.graft_levels.proofs.Placing.{locks_placed, before_elsewhere}
use Rattle.graft_levels.proofs.Writing.{still_begun}
use Rattle.graft_calls.proofs.asks.ask.Goals as goal

pub returns-in-Some-clause-kept : goal.returns-in-Some-clause-kept
returns-in-Some-clause-kept g c =
    record {
      in_place = (let h = c.requires.in_place in
          record {
            placed = c.drop_innermost.ensures.kept.placed;
            inside = c.drop_innermost.ensures.kept.inside (table_of c.args.images.now) h.inside;
            loaded = c.drop_innermost.ensures.kept.loaded (table_of c.args.images.now) h.loaded;
          });
      elsewhere =
          (record {
            world = c.drop_innermost.ensures.kept.elsewhere.world;
            living = c.drop_innermost.ensures.kept.elsewhere.living;
            others = c.drop_innermost.ensures.kept.elsewhere.others;
            memory = c.drop_innermost.ensures.kept.elsewhere.memory;
          });
      memory =
          (still_begun c.args.inner.process _ c.drop_innermost.new.chain.levels c.args.store.now.ram
          c.drop_innermost.new.store.ram c.drop_innermost.ensures.kept.memory);
    }

pub answer_ask-requires-clause-in_place : goal.answer_ask-requires-clause-in_place
answer_ask-requires-clause-in_place g c =
    let h = c.requires.in_place in
    let gs = c.args.inner.level ∷ c.args.chain.now.levels in
    let count = c.count.ensures.value in
    record {
      placed =
          locks_placed c.args.store.now c.args.locks.now c.touch_asked.new.locks
          c.args.inner.process gs c.push.new.self c.args.chain.now.undo h.placed c.push.ensures
          (λ d o le. ap (λ (x : Touched). x o)
          (asked_apart c.args.id c.reg-r0.result c.args.inner.level.owner c.args.inner.process
          c.count.result c.args.inner.process d (held c.args.locks.now)
          (held c.touch_asked.new.locks) c.touch_asked.ensures
          (grind (arith, nat_tests, le)) (grind (arith, nat_tests, le, count)))
          ∙ h.placed.unheld d o le);
      inside =
          subst (λ (x : List GraftLevel). AreInside (table_of c.args.images.now)
          (accounts_of c.args.store.now.accounts) c.args.inner.process x)
          (sym c.push.ensures) h.inside;
      loaded = h.loaded;
    }

pub returns-clause-step : goal.returns-clause-step
returns-clause-step g c =
    let s = c.args.store.now in
    let v = world_of_store s in
    let w = objects_of s in
    let images = table_of c.args.images.now in
    let t = held c.args.locks.now in
    let p = c.args.inner.process in
    let id = c.args.id in
    let q = c.args.inner.level.owner in
    let l = level_of s c.args.locks.now c.args.chain.now p c.args.inner.level in
    let ls = outer_of s c.args.locks.now c.args.chain.now p in
    let pt = c.asked_point-pt.result in
    let point : pt ≡ asked_point id (l.machine.regs 0) = c.asked_point-pt.ensures.value
    ∙ ap (asked_point id) c.reg-r0.ensures in
    let held_is = c.touch_asked.ensures
    ∙ ap (λ x. with_touch p 0 (asked_graft id x q).object Mode.Exclusive
    (needs_touched p c.count.result (asked_objects id x q) t)) c.reg-r0.ensures in
    ap (λ x. came (after_ask v images w p l ls l.machine id x (ask_refusal w q x id (l ∷ ls)))) (sym point)
    ∙ asked_on v images w p l ls id pt (ask_refusal w q pt id (l ∷ ls)) (sym
    (c.ask_refusal.ensures.value p s.ram t c.args.chain.now.undo w.things) ∙ c.in_default.is)
    ∙ ap (λ (x : List Level). came (ask_answered v images w p q pt x (w.accounts.graft q pt)))
    (sym (asked_levels id (l.machine.regs 0) p c.count.result s.ram t (held c.touch_asked.new.locks)
    c.args.inner.level c.args.chain.now.levels c.push.new.self c.args.chain.now.undo w.things
    c.push.ensures
    c.count.ensures.value held_is))
    ∙ c.answer_ask.ensures.step

pub returns-clause-kept : goal.returns-clause-kept
returns-clause-kept g c =
    record {
      in_place = (c.answer_ask.ensures.in_place);
      elsewhere =
          (before_elsewhere c.args.store.now c.answer_ask.new.store c.args.locks.now
          c.touch_asked.new.locks c.args.inner.process c.answer_ask.ensures.elsewhere
          (λ q d apart. asked_apart c.args.id c.reg-r0.result c.args.inner.level.owner
          c.args.inner.process c.count.result q d (held c.args.locks.now)
          (held c.touch_asked.new.locks) c.touch_asked.ensures
          (grind (arith, nat_tests, apart)) (grind (arith, nat_tests, apart))));
      memory =
          (subst (λ (x : List GraftLevel). HasWrittenBegun c.args.inner.process (length x)
          c.answer_ask.new.chain.levels c.args.store.now.ram c.answer_ask.new.store.ram)
          c.push.ensures c.answer_ask.ensures.memory);
    }
