use Rattle.std.proofs.Common.{List, refl, subst, sym}
use Rattle.graft_levels.specs.declared.GraftLevel.{GraftLevel}
use Rattle.graft_levels.specs.Calls.{IsInPlace}
use Rattle.kernel_model.specs.Access.{early_refusal}
use Rattle.kernel_state.specs.Stores.{world_of_store, objects_of}
use Rattle.graft_levels.specs.Chains.{level_of, outer_of}
use Rattle.graft_levels.specs.Slots.{table_of}
use Rattle.graft_levels.proofs.Completing.{unanswered, call_unanswered}
use Rattle.graft_levels.proofs.Writing.{still_begun}
use Rattle.graft_calls.proofs.instructions.after_machine.Goals as goal

pub returns-in-Returned-clause-kept : goal.returns-in-Returned-clause-kept
returns-in-Returned-clause-kept g c =
    record {
      in_place = (let h = c.requires.in_place in
          record {
            placed = c.offer.ensures.comes.kept.placed;
            inside = c.offer.ensures.comes.kept.inside (table_of c.args.images.now) h.inside;
            loaded = c.offer.ensures.comes.kept.loaded (table_of c.args.images.now) h.loaded;
          });
      elsewhere =
          (record {
            world = c.offer.ensures.comes.kept.elsewhere.world;
            living = c.offer.ensures.comes.kept.elsewhere.living;
            others = c.offer.ensures.comes.kept.elsewhere.others;
            memory = c.offer.ensures.comes.kept.elsewhere.memory;
          });
      memory =
          (still_begun c.args.inner.process _ c.offer.new.chain.levels c.args.store.now.ram
          c.offer.new.store.ram c.offer.ensures.comes.kept.memory);
    }

pub returns-in-DividedByZero-clause-kept : goal.returns-in-DividedByZero-clause-kept
returns-in-DividedByZero-clause-kept g c =
    record {
      in_place = (let h = c.requires.in_place in
          record {
            placed = c.drop_innermost.ensures.kept.placed;
            inside = c.drop_innermost.ensures.kept.inside (table_of c.args.images.now) h.inside;
            loaded = c.drop_innermost.ensures.kept.loaded (table_of c.args.images.now) h.loaded;
          });
      elsewhere =
          (record {
            world = c.drop_innermost.ensures.kept.elsewhere.world;
            living = c.drop_innermost.ensures.kept.elsewhere.living;
            others = c.drop_innermost.ensures.kept.elsewhere.others;
            memory = c.drop_innermost.ensures.kept.elsewhere.memory;
          });
      memory =
          (still_begun c.args.inner.process _ c.drop_innermost.new.chain.levels c.args.store.now.ram
          c.drop_innermost.new.store.ram c.drop_innermost.ensures.kept.memory);
    }

pub returns-in-Trapped-clause-kept : goal.returns-in-Trapped-clause-kept
returns-in-Trapped-clause-kept g c =
    record {
      in_place = (let h = c.requires.in_place in
          record {
            placed = c.drop_innermost-in-Trapped.ensures.kept.placed;
            inside = c.drop_innermost-in-Trapped.ensures.kept.inside (table_of c.args.images.now) h.inside;
            loaded = c.drop_innermost-in-Trapped.ensures.kept.loaded (table_of c.args.images.now) h.loaded;
          });
      elsewhere =
          (record {
            world = c.drop_innermost-in-Trapped.ensures.kept.elsewhere.world;
            living = c.drop_innermost-in-Trapped.ensures.kept.elsewhere.living;
            others = c.drop_innermost-in-Trapped.ensures.kept.elsewhere.others;
            memory = c.drop_innermost-in-Trapped.ensures.kept.elsewhere.memory;
          });
      memory =
          (still_begun c.args.inner.process _ c.drop_innermost-in-Trapped.new.chain.levels
          c.args.store.now.ram c.drop_innermost-in-Trapped.new.store.ram
          c.drop_innermost-in-Trapped.ensures.kept.memory);
    }

pub returns-in-Called-clause-answer : goal.returns-in-Called-clause-answer
returns-in-Called-clause-answer g c = λ registers is.
    let s = c.args.store.now in
    let v = world_of_store s in
    let l = level_of s c.args.locks.now c.args.chain.now c.args.inner.process c.args.inner.level in
    let id = c.in-Called.id in
    let goes_on =
    call_unanswered v (table_of c.args.images.now) (objects_of s) c.args.inner.process l
    (outer_of s c.args.locks.now c.args.chain.now c.args.inner.process) l.machine id
    (early_refusal v.callable id (l.machine.regs 0) (l.machine.regs 1) l.owner) in
    absurd (unanswered _ _ _ _ registers goes_on c.call.ensures.step is)

pub returns-in-Called-clause-returned : goal.returns-in-Called-clause-returned
returns-in-Called-clause-returned g c = λ registers is.
    let s = c.args.store.now in
    let v = world_of_store s in
    let l = level_of s c.args.locks.now c.args.chain.now c.args.inner.process c.args.inner.level in
    let id = c.in-Called.id in
    let goes_on =
    call_unanswered v (table_of c.args.images.now) (objects_of s) c.args.inner.process l
    (outer_of s c.args.locks.now c.args.chain.now c.args.inner.process) l.machine id
    (early_refusal v.callable id (l.machine.regs 0) (l.machine.regs 1) l.owner) in
    absurd (unanswered _ _ _ _ registers goes_on c.call.ensures.step is)

pub returns-in-DividedByZero-clause-answer : goal.returns-in-DividedByZero-clause-answer
returns-in-DividedByZero-clause-answer g c =
    λ registers is. absurd (unanswered _ _ _ _ registers tt c.drop_innermost.ensures.step is)

pub returns-in-DividedByZero-clause-returned : goal.returns-in-DividedByZero-clause-returned
returns-in-DividedByZero-clause-returned g c =
    λ registers is. absurd (unanswered _ _ _ _ registers tt c.drop_innermost.ensures.step is)

pub returns-in-Trapped-clause-answer : goal.returns-in-Trapped-clause-answer
returns-in-Trapped-clause-answer g c =
    λ registers is.
    absurd (unanswered _ _ _ _ registers tt c.drop_innermost-in-Trapped.ensures.step is)

pub returns-in-Trapped-clause-returned : goal.returns-in-Trapped-clause-returned
returns-in-Trapped-clause-returned g c =
    λ registers is.
    absurd (unanswered _ _ _ _ registers tt c.drop_innermost-in-Trapped.ensures.step is)

pub returns-in-Went-clause-kept : goal.returns-in-Went-clause-kept
returns-in-Went-clause-kept g c =
    record {
      in_place =
          (subst (λ (x : List GraftLevel). IsInPlace c.args.store.now c.args.locks.now
          (table_of c.args.images.now) c.args.inner.process x c.args.chain.now.undo)
          (sym c.push.ensures) c.requires.in_place);
      elsewhere = (record { world = refl; living = λ q. refl; others = λ q d apart. refl; memory = λ a beyond. refl });
      memory = (λ a apart. refl);
    }
