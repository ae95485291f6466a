-- One look at the order of waiting.
use Rattle.std.proofs.Common.{◌≡◌, ℕ, zero, suc, ◌+◌, ◌<◌, ◌≤◌, true, List, [], ◌∷◌, Option, Some}
use Rattle.std.proofs.Common.{None, length, take, drop, get_or, set, refl, ap, subst, sym, ◌∙◌}
use Rattle.std.proofs.Common.{IfSome, IfNone, arith}
use Rattle.std.proofs.lemmas.Bool.Decides.{nat_tests}
use Rattle.std.proofs.Math.ListN.{drop_of_length-le}
use Rattle.std.proofs.lemmas.List.{drop-set, drop_more, get_or-take, length-take, set-get_or, take-set}
use Rattle.std.proofs.lemmas.List.{take-take}
use Rattle.std.specs.Prelude.{is_some, option_map}
use Rattle.kernel_model.specs.Meaning.{Meaning}
use Rattle.kernel_model.specs.Kernel.{Blocker}
use Rattle.kernel_model.specs.Settle.{entry_with}
use Rattle.placed_laws.specs.Placed.{Placed, placed_blocker}
use Rattle.placed_laws.specs.PlacedSteps.{placed_first_free}
use Rattle.running_kernel.specs.declared.order.Waiting.{Waiting}
use Rattle.running_kernel.specs.Orders.{blocker_of, entry_of, order_of, are_processes}
use Rattle.running_kernel.specs.Orders.{counts_within, numbers_of, are_once, joined}
use Rattle.running_kernel.specs.declared.running.Running.{Running}
use Rattle.running_kernel.specs.Views.{placed_of, IsRunning}
use Rattle.running_kernel.specs.Rests.{AreRested, AreRestedFrom, GoesFrom, KeepsBlocker}

-- an entry that may stand at a place
abbrev pub some_entry : Waiting
some_entry = joined 0

-- one more, before others
rested_cons : (m : Meaning) (x : Placed) (v w : Waiting) (old new : List Waiting) → AreRested m x old new
    → entry_of w ≡ entry_with (entry_of v) (placed_blocker m x v.process) → w.process ≡ v.process → w.count ≤ v.count
    → AreRested m x (v ∷ old) (w ∷ new)
rested_cons m x v w old new h value process count = record {
  value =
      ap (λ e. e ∷ order_of new) value
      ∙ ap (λ es. entry_with (entry_of v) (placed_blocker m x v.process) ∷ es) h.value;
  counts = λ n k. grind (arith, nat_tests, h.counts n);
  processes = λ k. grind (arith, nat_tests, h.processes);
  numbers = ap (λ p. p ∷ numbers_of new) process ∙ ap (λ ps. v.process ∷ ps) h.numbers;
}

-- ---- the first that nothing blocks

-- an entry that is blocked
pub first_later : (m : Meaning) (x : Placed) (ws : List Waiting) (i : ℕ) (b : Blocker) →
    i < length ws → placed_blocker m x (get_or ws i some_entry).process ≡ Some b
    → placed_first_free m x (order_of (drop i ws)) ≡ placed_first_free m x (order_of (drop (i + 1) ws))
first_later m x ws i b lt blocked =
    ap (λ (vs : List Waiting). placed_first_free m x (order_of vs)) (drop_more ws i some_entry lt)
    ∙ ap (λ o. elim o as (λ _. Option ℕ) [
      | None ↦ Some (get_or ws i some_entry).process
      | Some b ↦ placed_first_free m x (order_of (drop (i + 1) ws))
    ]) blocked

-- ---- the entries from a place on

-- an entry is told its blocker, once all behind it rest
pub rested_here : (m : Meaning) (x : Placed) (ws mid new : List Waiting) (i : ℕ) (w : Waiting) →
    i < length ws → AreRestedFrom m x (i + 1) ws mid → new ≡ set mid i w
    → entry_of w ≡ entry_with (entry_of (get_or mid i some_entry))
    (placed_blocker m x (get_or ws i some_entry).process) →
    w.process ≡ (get_or mid i some_entry).process → w.count ≤ (get_or mid i some_entry).count
    → AreRestedFrom m x i ws new
rested_here m x ws mid new i w lt h is value process count =
    let within : i < length mid = omega (arith, length-take (i + 1) mid, length-take (i + 1) ws, ap length h.before) in
    let same : get_or mid i some_entry ≡ get_or ws i some_entry =
    sym (get_or-take (i + 1) mid i some_entry (omega arith))
    ∙ ap (λ (vs : List Waiting). get_or vs i some_entry) h.before
    ∙ get_or-take (i + 1) ws i some_entry (omega arith) in
    record {
      before = ap (take i) is ∙ take-set mid i w ∙ shorter ws mid i h.before;
      from =
          rw (ap (drop i) is ∙ drop-set mid i w within, drop_more ws i some_entry lt)
          (rested_cons m x (get_or ws i some_entry) w (drop (i + 1) ws) (drop (i + 1) mid) h.from
          (value ∙ ap (λ (v : Waiting). entry_with (entry_of v)
          (placed_blocker m x (get_or ws i some_entry).process)) same)
          (process ∙ ap (λ (v : Waiting). v.process) same) (rw same at count));
    }
  where
    shorter : (xs ys : List Waiting) (k : ℕ) → take (k + 1) ys ≡ take (k + 1) xs → take k ys ≡ take k xs
    shorter xs ys k e =
        sym (take-take k (k + 1) ys (omega arith)) ∙ ap (take k) e
        ∙ take-take k (k + 1) xs (omega arith)

-- an entry that keeps its blocker is passed
pub goes_past : {C B M : Type 0} {P : _} (m : Meaning) (i : ℕ) (x y : Running C B M P) (r : Option ℕ) →
    i < length x.order → KeepsBlocker m (placed_of x) (get_or x.order i some_entry)
    → GoesFrom m (i + 1) x y r → GoesFrom m i x y r
goes_past m i x y r lt kept h =
    let b = some_of (option_map blocker_of (get_or x.order i some_entry).blocker) kept.some in
    record {
      next = h.next ∙ sym (first_later m (placed_of x) x.order i b.0 lt (kept.blocker ∙ b.1));
      same = h.same;
      kept = h.kept;
      rested = by_result r h.rested;
    }
  where
    some_of : (o : Option Blocker) → is_some o ≡ true → (b : Blocker) × (o ≡ Some b)
    some_of None some = absurd cc
    some_of (Some b) some = (b, refl)

    by_result : (r : Option ℕ) → IfNone r (AreRestedFrom m (placed_of x) (i + 1) x.order y.order) →
        IfNone r (AreRestedFrom m (placed_of x) i x.order y.order)
    by_result (Some p) from = from
    by_result None from =
        let v = get_or x.order i some_entry in
        let w = get_or y.order i some_entry in
        let same : w ≡ v =
        sym (get_or-take (i + 1) y.order i some_entry (omega arith))
        ∙ ap (λ (vs : List Waiting). get_or vs i some_entry) from.before
        ∙ get_or-take (i + 1) x.order i some_entry (omega arith) in
        rested_here m (placed_of x) x.order y.order y.order i w lt from
        (sym (set-get_or y.order i some_entry))
        (ap entry_of same
        ∙ sym (ap (entry_with (entry_of v)) kept.blocker ∙ kept.stays)
        ∙ sym (ap (λ (z : Waiting). entry_with (entry_of z) (placed_blocker m (placed_of x) v.process)) same))
        refl (omega arith)

-- ---- the whole order

-- what always holds of an order
pub record IsOrder (clock : ℕ) (ws : List Waiting) : Type 0 where
  pub counts : counts_within clock ws ≡ true
  pub processes : are_processes ws ≡ true
  pub once : are_once (numbers_of ws) ≡ true

-- it holds after a look
pub order_stays :
    (m : Meaning) (x : Placed) (result : Option ℕ) (clock : ℕ) (ws new : List Waiting) →
    counts_within clock ws ≡ true → are_processes ws ≡ true → are_once (numbers_of ws) ≡ true
    → IfSome result (λ _. new ≡ ws) → IfNone result (AreRestedFrom m x 0 ws new) → IsOrder clock new
order_stays m x None clock ws new counts processes once kept rested = record {
  counts = rested.from.counts clock counts;
  processes = rested.from.processes processes;
  once = ap are_once rested.from.numbers ∙ once;
}
order_stays m x (Some p) clock ws new counts processes once kept rested = record {
  counts = ap (counts_within clock) kept ∙ counts;
  processes = ap are_processes kept ∙ processes;
  once = ap (λ (vs : List Waiting). are_once (numbers_of vs)) kept ∙ once;
}

-- another order takes the place of one that took another's place
pub reordered : {C B M : Type 0} {P : _} (x y : Running C B M P) (ws : List Waiting) →
    y ≡ record x { order = y.order } → record y { order = ws } ≡ record x { order = ws }
reordered {C} {B} {M} {P} x y ws e =
    ap (λ (z : Running C B M P). let after : Running C B M P = record z { order = ws } in after) e

-- a running kernel with another order
pub still_running : {C B M : Type 0} {P : _} (x y : Running C B M P) → IsRunning x →
    y ≡ record x { order = y.order } → IsOrder x.clock y.order → IsRunning y
still_running x y h same order = subst IsRunning (sym same) (record {
  sixteen = h.sixteen;
  callers = h.callers;
  placed = h.placed;
  inside = h.inside;
  counts = order.counts;
  order = order.processes;
  once = order.once;
  loaded = h.loaded;
  owner = h.owner;
  own = h.own;
})
