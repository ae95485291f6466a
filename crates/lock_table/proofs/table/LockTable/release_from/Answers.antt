use Rattle.std.proofs.Common.{◌∙◌, ◌<◌, ap, length, List, arith, rules}
use Rattle.kernel_model.specs.Locks.{release_from}
use Rattle.lock_table.specs.declared.Holds.{Holds}
use Rattle.lock_table.specs.Masks.{held, levels_at, released}
use Rattle.lock_table.proofs.Places.{element}
use Rattle.lock_table.proofs.Views.{release_view}
use Rattle.lock_table.proofs.HoldingLemmas.{released_holding}
use Rattle.lock_table.proofs.TakerLemmas.{own_taker, released_takers, whole_takers}
use Rattle.lock_table.proofs.table.LockTable.release_from.Goals as goal

pub release_from-requires-clause-taker : goal.release_from-requires-clause-taker
release_from-requires-clause-taker c =
    let inside : c.args.by.process < length c.self.inside.calls.items =
    omega (arith, c.args.by.is_process, c.self.invariant.0) in
    own_taker c.self.inside.takers.items c.deref_mut.result.now c.self.inside.calls.items
    c.index_mut-call.result.now c.args.by.process c.deref_mut.ensures.value
    (element c.self.inside.calls.items c.args.by.process c.index_mut-call.result.now inside
    c.index_mut-call.ensures.value) c.self.invariant.3

pub returns : goal.returns
returns c =
    let inside : c.args.by.process < length c.self.inside.calls.items =
    omega (arith, c.args.by.is_process, c.self.invariant.0) in
    let own = element c.self.inside.calls.items c.args.by.process c.index_mut-call.result.now inside
    c.index_mut-call.ensures.value in
    release_view c.self.inside.calls.items c.release_from.new.self c.args.by.process c.args.by.level
    c.args.by.is_process c.self.invariant.0
    (λ n e. c.release_from.ensures.released n e
    ∙ ap (λ (xs : List Holds). released c.args.by.level (levels_at xs n) e) own)
    ∙ ap (λ (xs : List (List Holds)). release_from c.args.by.process c.args.by.level (held xs)) c.self.view_is

pub invariant_of-self : goal.invariant_of-self
invariant_of-self c =
    let inside : c.args.by.process < length c.self.inside.calls.items =
    omega (arith, c.args.by.is_process, c.self.invariant.0) in
    let takers = whole_takers c.release_from.new.takers c.self.inside.takers.items _ _
    (c.release_from.auto.takers ∙ c.deref_mut.ensures.len)
    (c.release_from.auto.takers ∙ ap length c.deref_mut.ensures.value ∙ c.self.invariant.2)
    (released_takers c.self.inside.takers.items c.deref_mut.result.now c.release_from.new.takers
    c.self.inside.calls.items c.release_from.new.self c.args.by.process inside
    c.deref_mut.ensures.value
    c.self.invariant.3 c.release_from.ensures.taker c.release_from.ensures.others) in (
      search rules,
      released_holding c.self.inside.holding c.marked-self-inside.result c.is_free-holds_some.result
          c.self.inside.calls.items c.release_from.new.self c.args.by.process inside
          c.marked-self-inside.ensures
          c.is_free-holds_some.ensures.free c.is_free-holds_some.ensures.held c.self.invariant.1,
      takers.0,
      takers.1,
      c.self.invariant.4,
      c.self.invariant.5,
    )
