-- The order of waiting as lists of entries.
use Rattle.std.proofs.Common.{◌≡◌, ℕ, suc, ◌+◌, ◌≤◌, ◌<◌, ◌-◌, ◌==◌, true, not, List, [], ◌∷◌}
use Rattle.std.proofs.Common.{◌++◌, map, filter, refl, ap, append_assoc, ◌∙◌, arith}
use Rattle.std.specs.Prelude.{nat_le, nat_lt, ◌^◌, ◌||◌}
use Rattle.std.specs.List.{list_any}
use Rattle.kernel_model.specs.Kernel.{less_entry}
use Rattle.kernel_model.specs.Events.{counted, in_order}
use Rattle.running_kernel.specs.declared.order.Waiting.{Waiting}
use Rattle.running_kernel.specs.Orders.{entry_of, order_of, counts_within, are_processes, joined, later}
use Rattle.std.proofs.lemmas.Bool.Decides.{nat_tests}

-- the order less a process
pub less_entries : (p : ℕ) (ws : List Waiting) →
    order_of (filter (λ (w : Waiting). not (w.process == p)) ws) ≡ less_entry p (order_of ws)
less_entries p [] = refl
less_entries p (w ∷ ws) = grind (arith, less_entries p ws)

-- the order with one more at its end
pub order_joined : (ws : List Waiting) (w : Waiting) → order_of (ws ++ w ∷ []) ≡ order_of ws ++ entry_of w ∷ []
order_joined [] w = refl
order_joined (v ∷ ws) w = ap (λ es. entry_of v ∷ es) (order_joined ws w)

-- each entry later
pub counted_is : (n : ℕ) (ws : List Waiting) → counts_within n ws ≡ true → n < 2 ^ 32 - 1 →
    order_of (map later ws) ≡ counted (order_of ws)
counted_is n [] h small = refl
counted_is n (w ∷ ws) h small = grind (arith, nat_tests, counted_is n ws)

-- and within one more
pub counts_rise : (n : ℕ) (ws : List Waiting) → counts_within n ws ≡ true → counts_within (suc n) (map later ws) ≡ true
counts_rise n [] h = refl
counts_rise n (w ∷ ws) h = grind (arith, nat_tests, counts_rise n ws)

-- counts of a filtered list
pub counts_less : (n p : ℕ) (ws : List Waiting) → counts_within n ws ≡ true →
    counts_within n (filter (λ (w : Waiting). not (w.process == p)) ws) ≡ true
counts_less n p [] h = refl
counts_less n p (w ∷ ws) h = grind (arith, nat_tests, counts_less n p ws)

-- counts of a list with one more
pub counts_more : (n : ℕ) (ws : List Waiting) (w : Waiting) → counts_within n ws ≡ true →
    nat_le w.count n ≡ true → counts_within n (ws ++ w ∷ []) ≡ true
counts_more n [] w h k = grind (arith, nat_tests)
counts_more n (v ∷ ws) w h k = grind (arith, nat_tests, counts_more n ws w)

-- nothing is more than no tick
none_least : (n : ℕ) → nat_le 0 n ≡ true
none_least n = grind (arith, nat_tests)

-- counts with an entry that has just joined
pub counts_joined : (n p : ℕ) (ws : List Waiting) (w : Waiting) (new : List Waiting) →
    w ≡ joined p → new ≡ ws ++ w ∷ [] → counts_within n ws ≡ true → counts_within n new ≡ true
counts_joined n p ws w new w_is new_is h =
    ap (counts_within n) new_is
    ∙ counts_more n ws w h (ap (λ (u : Waiting). nat_le u.count n) w_is ∙ none_least n)

-- counts after a tick
pub rises : (n : ℕ) (ws new : List Waiting) → new ≡ map later ws → counts_within n ws ≡ true →
    counts_within (n + 1) new ≡ true
rises n ws new new_is h =
    ap (counts_within (n + 1)) new_is ∙ ap (λ k. counts_within k (map later ws)) (omega arith)
    ∙ counts_rise n ws h

-- ---- each entry's process can be

-- with one that has just joined
pub processes_joined : (p : ℕ) (ws : List Waiting) (w : Waiting) (new : List Waiting) →
    w ≡ joined p → new ≡ ws ++ w ∷ [] → p < 16 → are_processes ws ≡ true → are_processes new ≡ true
processes_joined p ws w new w_is new_is small h = ap are_processes new_is ∙ go ws h
  where
    own : nat_lt w.process 16 ≡ true
    own = ap (λ (u : Waiting). nat_lt u.process 16) w_is ∙ grind (arith, nat_tests, small)

    go : (vs : List Waiting) → are_processes vs ≡ true → are_processes (vs ++ w ∷ []) ≡ true
    go [] k = grind (arith, own)
    go (v ∷ vs) k = grind (arith, own, go vs)

-- without some
pub processes_less : (p : ℕ) (ws : List Waiting) → are_processes ws ≡ true →
    are_processes (filter (λ (w : Waiting). not (w.process == p)) ws) ≡ true
processes_less p [] h = refl
processes_less p (w ∷ ws) h = grind (arith, nat_tests, processes_less p ws)

-- after a tick
pub processes_later : (ws : List Waiting) → are_processes ws ≡ true → are_processes (map later ws) ≡ true
processes_later [] h = refl
processes_later (w ∷ ws) h = grind (arith, nat_tests, processes_later ws)

-- ---- an entry with its blocker

-- counts of one more that waits no longer than one did
pub counts_rested : (n : ℕ) (done d rest : List Waiting) (w new : Waiting) → d ≡ done ++ new ∷ [] →
    new.count ≤ w.count → counts_within n done ≡ true → counts_within n (w ∷ rest) ≡ true →
    counts_within n d ≡ true
counts_rested n done d rest w new d_is less h k =
    ap (counts_within n) d_is
    ∙ counts_more n done new h (within n w new less (head_within n w rest k))
  where
    head_within : (n : ℕ) (w : Waiting) (rest : List Waiting) → counts_within n (w ∷ rest) ≡ true →
        nat_le w.count n ≡ true
    head_within n w rest k = grind (arith, k)

    within : (n : ℕ) (w new : Waiting) → new.count ≤ w.count → nat_le w.count n ≡ true → nat_le new.count n ≡ true
    within n w new less k = grind (arith, nat_tests, less, k)

-- counts of all but the first
pub counts_tail : (n : ℕ) (w : Waiting) (rest : List Waiting) → counts_within n (w ∷ rest) ≡ true →
    counts_within n rest ≡ true
counts_tail n w rest h = grind (arith, h)

-- one more of a process that can be
pub processes_rested : (done d rest : List Waiting) (w new : Waiting) → d ≡ done ++ new ∷ [] →
    new.process ≡ w.process → are_processes done ≡ true → are_processes (w ∷ rest) ≡ true →
    are_processes d ≡ true
processes_rested done d rest w new d_is same h k = ap are_processes d_is ∙ go done h
  where
    own : nat_lt new.process 16 ≡ true
    own = ap (λ p. nat_lt p 16) same ∙ grind (arith, k)

    go : (vs : List Waiting) → are_processes vs ≡ true → are_processes (vs ++ new ∷ []) ≡ true
    go [] j = grind (arith, own)
    go (v ∷ vs) j = grind (arith, own, go vs)
