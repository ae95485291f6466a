-- Lemmas on the table of images and its bits.
use Rattle.std.proofs.Common.{◌≡◌, ◌≢◌, ℕ, ◌*◌, ◌^◌, ◌%◌, ◌<◌, ◌==◌, ◌||◌, Bool, true, false, cond}
use Rattle.std.proofs.Common.{List, [], ◌∷◌, length, map, replicate, slice_set, Option, Some, None}
use Rattle.std.proofs.Common.{is_some, bit_or, refl, arith, ◌∙◌, sym, ap, zero, suc}
use Rattle.std.proofs.Common.{slice_index_or}
use Rattle.std.proofs.lemmas.Bool.Decides.{nat_tests}
use Rattle.std.proofs.Math.Path.{fun_ext}
use Rattle.std.specs.Int.{w32}
use Rattle.std.proofs.lemmas.List.{get_or-set_same, get_or-set_other, get_or-replicate, length-set}
use Rattle.std.proofs.lemmas.Nat.Bits.{bit_at_set_same, bit_at_set_other, bit_at-zero}
use Rattle.graft_code.specs.World.{Image}
use Rattle.graft_code.specs.ImageMask.{TellsImages, has_bit}
use Rattle.graft_code.specs.Objects.{at}
use Rattle.graft_loader.specs.Slots.{IsTable, table_of, no_slots, no_images, free_in_place}

-- each slot is free
pub all_free : (xs : List (Option Image)) → map free_in_place xs ≡ replicate (length xs) None
all_free [] = refl
all_free (x ∷ xs) = ap (λ (t : List (Option Image)). None ∷ t) (all_free xs)

-- one bit more is set
pub has_with : (m k j : ℕ) → k < 32 → has_bit j (bit_or m (1 * 2 ^ k % 4294967296)) ≡ (j == k || has_bit j m)
has_with m k j lt = go (j == k) refl
  where
    go : (b : Bool) → (j == k) ≡ b → has_bit j (bit_or m (1 * 2 ^ k % 4294967296)) ≡ (j == k || has_bit j m)
    go true h =
        let is : j ≡ k = grind (arith, nat_tests, h) in
        let one = bit_at_set_same w32 m k (omega (arith, lt)) in
        rw is (ap (λ n. n == 1) one ∙ grind (arith, nat_tests))
    go false h =
        let other : j ≢ k = λ is. grind (arith, nat_tests, h, is) in
        rw h (ap (λ n. n == 1) (bit_at_set_other w32 m k (omega (arith, lt)) j other))

-- the table where one slot has another image
pub one_changed : (xs : List (Option Image)) (k : ℕ) (v : Option Image) (j : ℕ) → k < length xs →
    table_of (slice_set xs k v) j ≡ at k v (table_of xs) j
one_changed xs k v j lt = go (j == k) refl
  where
    go : (b : Bool) → (j == k) ≡ b → table_of (slice_set xs k v) j ≡ cond (j == k) v (table_of xs j)
    go true h =
        let is : j ≡ k = grind (arith, nat_tests, h) in
        rw h (rw is (get_or-set_same xs k v None lt))
    go false h =
        let other : j ≢ k = λ is. grind (arith, nat_tests, h, is) in
        rw h (get_or-set_other xs k j v None other)

pub table_changed : (xs ys : List (Option Image)) (k : ℕ) (v : Option Image) → xs ≡ ys →
    k < length xs → table_of (slice_set xs k v) ≡ at k v (table_of ys)
table_changed xs ys k v same lt =
    fun_ext (λ j. one_changed xs k v j lt)
    ∙ ap (λ (zs : List (Option Image)). at k v (table_of zs)) same

-- as many slots
pub same_size : (xs : List (Option Image)) (k : ℕ) (v : Option Image) → length xs ≡ 32 → length (slice_set xs k v) ≡ 32
same_size xs k v size = length-set xs k v ∙ size

-- the bits tell of the table where one slot has another image, and its bit is set
pub told_changed : (xs : List (Option Image)) (m n k : ℕ) (i : Image) → k < length xs → TellsImages m (table_of xs) →
    ((j : ℕ) → j < 32 → has_bit j n ≡ (j == k || has_bit j m)) → TellsImages n (table_of (slice_set xs k (Some i)))
told_changed xs m n k i lt told bits =
    λ j near. ap (λ (o : Option Image). is_some o) (one_changed xs k (Some i) j lt)
    ∙ go (j == k) j near refl
  where
    go : (b : Bool) (j : ℕ) → j < 32 → (j == k) ≡ b → is_some (at k (Some i) (table_of xs) j) ≡ has_bit j n
    go true j near h = rw h (sym (bits j near ∙ ap (λ b. b || has_bit j m) h))
    go false j near h = rw h (told j near ∙ sym (bits j near ∙ ap (λ b. b || has_bit j m) h))

-- no bit tells of free slots
pub none_told : TellsImages 0 (table_of no_slots)
none_told =
    λ j near. ap (λ (o : Option Image). is_some o) (get_or-replicate 32 j None None near)
    ∙ sym (ap (λ n. n == 1) (bit_at-zero j))

-- a table of free slots has no image
free_from : (n slot : ℕ) → slice_index_or (replicate n (let i : Option Image = None in i)) slot None ≡ None
free_from zero slot = refl
free_from (suc n) zero = refl
free_from (suc n) (suc slot) = free_from n slot

pub none_there : (xs : List (Option Image)) → xs ≡ no_slots → table_of xs ≡ no_images
none_there xs is = rw is (fun_ext (λ slot. free_from 32 slot))

-- free slots, and no bit set, are a table
pub free_table : (xs : List (Option Image)) → xs ≡ no_slots → IsTable xs 0
free_table xs is = rw is (record { size = refl; told = none_told })
