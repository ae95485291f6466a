use Rattle.std.proofs.Common.{◌≡◌, ◌<◌, ◌≤◌, List, length, get_or, Some, ap, subst, sym, ◌∙◌, arith}
use Rattle.kernel_model.specs.Settle.{entry_with}
use Rattle.placed_laws.specs.Placed.{placed_blocker}
use Rattle.running_kernel.specs.declared.order.Waiting.{Waiting}
use Rattle.running_kernel.specs.Orders.{blocker_of, entry_of}
use Rattle.running_kernel.specs.Rests.{KeepsBlocker}
use Rattle.running_kernel.specs.Views.{placed_of}
use Rattle.running_kernel.proofs.RestLemmas.{some_entry, first_later, goes_past, reordered, rested_here}
use Rattle.running_kernel.proofs.running.Running.+next_from.Goals as goal

pub returns-then-waits_still : goal.returns-then-waits_still
returns-then-waits_still g t c =
    let m = g.C.Meaning.Rules.meaning in
    let x = c.args.self.now in
    let ws = x.order in
    let i = c.args.i in
    let size : length c.entries-entries.result.now ≡ length ws = ap length c.entries-entries.ensures.value in
    let lt : i < length ws = omega (arith, c.if-i-entries.false, c.requires.place, size) in
    goes_past m i x c.next_from.new.self c.next_from.result lt
    (subst (λ (vs : List Waiting). KeepsBlocker m (placed_of x) (get_or vs i some_entry))
    c.entries-entries.ensures.value (c.waits_still.ensures c.if-waits_still.true)) c.next_from.ensures

pub returns : goal.returns
returns g t c =
    let m = g.C.Meaning.Rules.meaning in
    let x = placed_of c.args.self.now in
    let ws = c.args.self.now.order in
    let mid = c.next_from-2.new.self.order in
    let i = c.args.i in
    let size : length c.entries-entries.result.now ≡ length ws = ap length c.entries-entries.ensures.value in
    let lt : i < length ws = omega (arith, c.if-i-entries.false, c.requires.place, size) in
    let here : Some (blocker_of c.in-Some.blocker) ≡ placed_blocker m x
    (get_or c.entries-entries.result.now i some_entry).process = c.in-Some.ensures in
    let blocked : placed_blocker m x (get_or ws i some_entry).process ≡ Some (blocker_of c.in-Some.blocker) =
    sym (here ∙ ap (λ (vs : List Waiting). placed_blocker m x (get_or vs i some_entry).process)
    c.entries-entries.ensures.value) in
    let found = c.entries.result.now in
    let told : entry_of c.with_blocker.result ≡ entry_with (entry_of (get_or found i some_entry))
    (Some (blocker_of c.in-Some.blocker)) = c.with_blocker.ensures.value in
    let process : c.with_blocker.result.process ≡ (get_or found i some_entry).process =
    c.with_blocker.ensures.process in
    let count : c.with_blocker.result.count ≤ (get_or found i some_entry).count = c.with_blocker.ensures.count in
    let same_entry : get_or found i some_entry ≡ get_or mid i some_entry =
    ap (λ (vs : List Waiting). get_or vs i some_entry) c.entries.ensures.value in
    record {
      next =
          sym c.in_default-next_from.is ∙ c.next_from-2.ensures.next
          ∙ sym (first_later m x ws i (blocker_of c.in-Some.blocker) lt blocked);
      same = reordered c.args.self.now c.next_from-2.new.self c.put.new.self c.next_from-2.ensures.same;
      kept = tt;
      rested =
          rested_here m x ws mid c.put.new.self i c.with_blocker.result lt
          (rw c.in_default-next_from.is at c.next_from-2.ensures.rested) c.put.ensures
          (told ∙ ap (λ (w : Waiting). entry_with (entry_of w)
          (Some (blocker_of c.in-Some.blocker))) same_entry
          ∙ ap (entry_with (entry_of (get_or mid i some_entry))) (sym blocked))
          (process ∙ ap (λ (w : Waiting). w.process) same_entry)
          (subst (λ (w : Waiting). c.with_blocker.result.count ≤ w.count) same_entry count);
    }
