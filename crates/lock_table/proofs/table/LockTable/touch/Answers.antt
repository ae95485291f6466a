use Rattle.std.proofs.Common.{◌∙◌, ◌<◌, ◌==◌, ◌&&◌, ◌||◌, ℕ, cond, ap, length, List, arith, rules}
use Rattle.kernel_model.specs.declared.Mode.{Mode}
use Rattle.kernel_model.specs.Locks.{with_touch, stronger, held_as, conflicts}
use Rattle.lock_table.specs.declared.Holds.{Holds}
use Rattle.lock_table.specs.declared.Takers.{Takers}
use Rattle.lock_table.specs.Numbers.{number_of}
use Rattle.lock_table.specs.Masks.{held, levels_at}
use Rattle.lock_table.specs.Takers.{is_against, takers_at}
use Rattle.lock_table.proofs.Places.{element}
use Rattle.lock_table.proofs.Views.{touch_view}
use Rattle.lock_table.proofs.HoldingLemmas.{touched_holding}
use Rattle.lock_table.proofs.TakerLemmas.{touched_takers, whole_takers}
use Rattle.lock_table.proofs.table.LockTable.touch.Goals as goal

pub returns : goal.returns
returns c =
    let inside : c.args.by.process < length c.self.inside.calls.items =
    omega (arith, c.args.by.is_process, c.self.invariant.0) in
    let own = element c.self.inside.calls.items c.args.by.process c.index_mut-call.result.now inside
    c.index_mut-call.ensures.value in
    let now = λ (number : ℕ) (xs : List Holds) (n e : ℕ). cond (n == number && e == c.args.by.level)
    (stronger (levels_at xs n e) (held_as c.args.mode)) (levels_at xs n e) in
    touch_view c.self.inside.calls.items c.touch.new.self c.args.by.process c.args.by.level c.args.o
    c.args.mode c.args.by.is_process c.self.invariant.0 c.requires.range
    (λ n e. c.touch.ensures n e
    ∙ ap (λ (i : ℕ). now i c.index_mut-call.result.now n e) c.object_number-number.ensures.value
    ∙ ap (λ (xs : List Holds). now (number_of c.args.o) xs n e) own)
    ∙ ap (λ (xs : List (List Holds)). with_touch c.args.by.process c.args.by.level c.args.o
    c.args.mode (held xs)) c.self.view_is

pub invariant_of-self : goal.invariant_of-self
invariant_of-self c =
    let inside : c.args.by.process < length c.self.inside.calls.items =
    omega (arith, c.args.by.is_process, c.self.invariant.0) in
    let own = element c.self.inside.calls.items c.args.by.process c.index_mut-call.result.now inside
    c.index_mut-call.ensures.value in
    let now = λ (number : ℕ) (xs : List Holds) (n e : ℕ). cond (n == number && e == c.args.by.level)
    (stronger (levels_at xs n e) (held_as c.args.mode)) (levels_at xs n e) in
    let touched = λ (n e : ℕ). c.touch.ensures n e
    ∙ ap (λ (xs : List Holds). now c.object_number-number.result xs n e) own in
    let taken = λ (wanted : Mode) (n q : ℕ). c.take_at.ensures wanted n q
    ∙ ap (λ (xs : List Takers). is_against (takers_at xs n) wanted q
    || (n == c.object_number-number.result && q == c.args.by.process
    && conflicts (held_as c.args.mode) wanted)) c.deref_mut.ensures.value in
    let takers = whole_takers c.take_at.new.takers c.self.inside.takers.items
    _ _ (c.take_at.auto.takers ∙ c.deref_mut.ensures.len)
    (c.take_at.auto.takers ∙ ap length c.deref_mut.ensures.value ∙ c.self.invariant.2)
    (touched_takers c.self.inside.takers.items c.take_at.new.takers c.self.inside.calls.items
    c.touch.new.self c.args.by.process c.object_number-number.result c.args.by.level
    c.args.mode inside
    c.args.by.is_level c.self.invariant.3 touched taken) in (
      search rules,
      touched_holding c.self.inside.holding c.with-self-inside.result c.object_number-number.result
          c.args.by.level c.args.mode c.self.inside.calls.items c.touch.new.self
          c.args.by.process inside
          (c.object_number-number.ensures.below c.requires.range) c.args.by.is_level
          c.with-self-inside.ensures c.self.invariant.1 touched,
      takers.0,
      takers.1,
      c.self.invariant.4,
      c.self.invariant.5,
    )
