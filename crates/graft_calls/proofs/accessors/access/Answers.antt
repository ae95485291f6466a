use Rattle.std.proofs.Common.{◌≡◌, ℕ, List, slice_index, ap, sym, ◌∙◌}
use Rattle.kernel_model.specs.Access.{access}
use Rattle.graft_accessors.specs.Accesses.{answer_of}
use Rattle.kernel_state.specs.Stores.{world_of_store, objects_of}
use Rattle.graft_levels.specs.Chains.{came, level_of, outer_of}
use Rattle.graft_calls.proofs.Looking.{is_refused, is_given, is_changing}
use Rattle.graft_calls.proofs.accessors.access.Goals as goal

pub returns-in-Err : goal.returns-in-Err
returns-in-Err g c =
    record {
      step = (let s = c.args.store.now in
          let v = world_of_store s in
          let w = objects_of s in
          let l = level_of s c.args.locks.now c.args.chain.now c.args.inner.process c.args.inner.level in
          let ls = outer_of s c.args.locks.now c.args.chain.now c.args.inner.process in
          let q = c.args.inner.level.owner in
          let a = access c.args.call.id (l.machine.regs 0) (l.machine.regs 1) (l.machine.regs 2) q w.things in
          let told : answer_of a ≡ c.answer.result =
          ap (λ (xs : List ℕ). answer_of (access c.args.call.id (slice_index xs 0)
          (slice_index xs 1) (slice_index xs 2) q w.things)) (sym c.arguments.ensures)
          ∙ sym c.answer.ensures.answer in
          ap came (is_refused v w l ls l.machine c.args.call.id a c.in-Err.cause
          (told ∙ c.in-Err.is)) ∙ c.drop_innermost.ensures.step);
      kept = (c.drop_innermost.ensures.kept);
    }

pub returns-in-Some : goal.returns-in-Some
returns-in-Some g c =
    record {
      step = (let s = c.args.store.now in
          let v = world_of_store s in
          let w = objects_of s in
          let l = level_of s c.args.locks.now c.args.chain.now c.args.inner.process c.args.inner.level in
          let ls = outer_of s c.args.locks.now c.args.chain.now c.args.inner.process in
          let q = c.args.inner.level.owner in
          let a = access c.args.call.id (l.machine.regs 0) (l.machine.regs 1) (l.machine.regs 2) q w.things in
          let told : answer_of a ≡ c.answer.result =
          ap (λ (xs : List ℕ). answer_of (access c.args.call.id (slice_index xs 0)
          (slice_index xs 1) (slice_index xs 2) q w.things)) (sym c.arguments.ensures)
          ∙ sym c.answer.ensures.answer in
          ap came (is_changing v w l ls l.machine c.args.call.id a c.in-Ok.answer c.in-Some.inverse
          (told ∙ c.in-Ok.is) c.in-Some.is) ∙ c.change.ensures.step);
      kept = (c.change.ensures.kept);
    }

pub returns-in-None : goal.returns-in-None
returns-in-None g c =
    record {
      step = (let s = c.args.store.now in
          let v = world_of_store s in
          let w = objects_of s in
          let l = level_of s c.args.locks.now c.args.chain.now c.args.inner.process c.args.inner.level in
          let ls = outer_of s c.args.locks.now c.args.chain.now c.args.inner.process in
          let q = c.args.inner.level.owner in
          let a = access c.args.call.id (l.machine.regs 0) (l.machine.regs 1) (l.machine.regs 2) q w.things in
          let told : answer_of a ≡ c.answer.result =
          ap (λ (xs : List ℕ). answer_of (access c.args.call.id (slice_index xs 0)
          (slice_index xs 1) (slice_index xs 2) q w.things)) (sym c.arguments.ensures)
          ∙ sym c.answer.ensures.answer in
          ap came (is_given v w l ls l.machine c.args.call.id a c.in-Ok.answer
          (told ∙ c.in-Ok.is) c.in-None.is) ∙ c.give.ensures.step);
      kept = (c.give.ensures.kept);
    }
