use Rattle.std.proofs.Common.{◌∙◌, ◌<◌, ℕ, ap, length, List, arith, rules}
use Rattle.kernel_model.specs.Locks.{merge_level}
use Rattle.lock_table.specs.declared.Holds.{Holds}
use Rattle.lock_table.specs.Masks.{held, levels_at, merged}
use Rattle.lock_table.proofs.Places.{element}
use Rattle.lock_table.proofs.Views.{merge_view}
use Rattle.lock_table.proofs.HoldingLemmas.{merged_holding}
use Rattle.lock_table.proofs.TakerLemmas.{merged_takers}
use Rattle.lock_table.proofs.table.LockTable.merge_level.Goals as goal

pub returns : goal.returns
returns c =
    let inside : c.args.by.process < length c.self.inside.calls.items =
    omega (arith, c.args.by.is_process, c.self.invariant.0) in
    let own = element c.self.inside.calls.items c.args.by.process c.index_mut-call.result.now inside
    c.index_mut-call.ensures.value in
    merge_view c.self.inside.calls.items c.merge_level.new.self c.args.by.process c.args.by.level
    c.args.by.is_process c.self.invariant.0
    (λ n e. c.merge_level.ensures n e ∙ ap (λ (xs : List Holds). merged c.args.by.level (levels_at xs n) e) own)
    ∙ ap (λ (xs : List (List Holds)). merge_level c.args.by.process c.args.by.level (held xs)) c.self.view_is

pub invariant_of-self : goal.invariant_of-self
invariant_of-self c =
    let inside : c.args.by.process < length c.self.inside.calls.items =
    omega (arith, c.args.by.is_process, c.self.invariant.0) in
    let own = element c.self.inside.calls.items c.args.by.process c.index_mut-call.result.now inside
    c.index_mut-call.ensures.value in
    let levels = λ (n e : ℕ). c.merge_level.ensures n e
    ∙ ap (λ (xs : List Holds). merged c.args.by.level (levels_at xs n) e) own in (
      search rules,
      merged_holding c.self.inside.holding c.self.inside.calls.items c.merge_level.new.self
          c.args.by.process c.args.by.level inside c.requires c.args.by.is_level
          c.self.invariant.1 levels,
      c.self.invariant.2,
      merged_takers c.self.inside.takers.items c.self.inside.calls.items c.merge_level.new.self
          c.args.by.process c.args.by.level inside c.requires c.args.by.is_level
          c.self.invariant.3 levels,
      c.self.invariant.4,
      c.self.invariant.5,
    )
