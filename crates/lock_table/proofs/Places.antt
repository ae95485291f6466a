-- Lemmas on lists of masks.
use Rattle.std.proofs.Common.{◌≡◌, ℕ, ◌<◌, List, [], ◌∷◌, length, get_or, replicate, take, drop}
use Rattle.std.proofs.Common.{◌++◌, refl, arith, sym, suc, zero}
use Rattle.std.proofs.Math.Seq.{take-append_seam}
use Rattle.kernel_model.specs.declared.Held.{Held}
use Rattle.lock_table.specs.declared.Holds.{Holds}
use Rattle.lock_table.specs.Masks.{masks_of, levels_at, holds_at, no_holds}
use Rattle.lock_table.proofs.Used.{free_levels, no_holds-unused}

-- a list of one thing alone
pub get_or-alike : {X : Type 0} (n i : ℕ) (x : X) → get_or (replicate n x) i x ≡ x
get_or-alike zero i x = refl
get_or-alike (suc n) zero x = refl
get_or-alike (suc n) (suc i) x = get_or-alike n i x

pub alike : (n : ℕ) (xs : List Holds) → xs ≡ replicate n no_holds → (i : ℕ) → holds_at xs i ≡ no_holds
alike n xs h i = rw h (get_or-alike n i no_holds)

-- what is written through a list's own slice
pub written : {X : Type 0} (new old : List X) (n : ℕ) → length new ≡ n → take n (new ++ drop (length new) old) ≡ new
written new old n h = rw (sym h) (take-append_seam new (drop (length new) old))

-- calls of which each holds nothing
pub record IsFree (calls : List (List Holds)) : Type 0 where
  pub free : (p n e : ℕ) → levels_at (masks_of calls p) n e ≡ Held.Free

nothing_there : (n e : ℕ) → levels_at [] n e ≡ Held.Free
nothing_there n e = free_levels no_holds no_holds-unused e

pub none_free : IsFree []
none_free = record { free = λ p n e. nothing_there n e }

pub one_more_free : (calls : List (List Holds)) (masks : List Holds) → IsFree calls →
    ((n e : ℕ) → levels_at masks n e ≡ Held.Free) → IsFree (calls ++ masks ∷ [])
one_more_free calls masks free h = record { free = go calls free.free }
  where
    go : (xs : List (List Holds)) → ((p n e : ℕ) → levels_at (masks_of xs p) n e ≡ Held.Free) →
        (p n e : ℕ) → levels_at (masks_of (xs ++ masks ∷ []) p) n e ≡ Held.Free
    go [] none zero n e = h n e
    go [] none (suc p) n e = nothing_there n e
    go (x ∷ xs) none zero n e = none 0 n e
    go (x ∷ xs) none (suc p) n e = go xs (λ q. none (suc q)) p n e

-- an element of a list, whatever the default
pub element : (xs : List (List Holds)) (p : ℕ) (x : List Holds) → p < length xs → x ≡ get_or xs p x → x ≡ masks_of xs p
element [] p x lt is = absurd (omega (arith, lt))
element (y ∷ xs) zero x lt is = is
element (y ∷ xs) (suc p) x lt is = element xs p x (omega (arith, lt)) is
