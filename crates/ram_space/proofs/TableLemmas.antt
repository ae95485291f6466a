-- One segment among those of flags and bytes: how it is found, and how it is put.
use Rattle.std.proofs.Common.{◌≡◌, ℕ, zero, suc, ◌+◌, ◌-◌, ◌*◌, ◌<◌, ◌≤◌, Bool, true, false, List}
use Rattle.std.proofs.Common.{[], ◌∷◌, ◌++◌, length, take, drop, replicate, None, Some, refl}
use Rattle.std.proofs.Common.{arith, sym, ◌∙◌, ap}
use Rattle.std.specs.Prelude.{slice_range, slice_set, slice_index_or}
use Rattle.std.proofs.lemmas.List.{append_assoc, length-take-le, length-drop, drop-drop, drop-take}
use Rattle.std.proofs.lemmas.List.{take-take, take-append-le, drop-append-le}
use Rattle.std.proofs.Math.Seq.{take-append_seam, drop-append_seam}
use Rattle.ram_space.specs.Tables.{bytes_if, table_of}

-- there are as many segments as flags
pub table_length : (flags : List Bool) (bytes : List ℕ) → length (table_of flags bytes) ≡ length flags
table_length [] bytes = refl
table_length (flag ∷ flags) bytes = ap suc (table_length flags (drop 4096 bytes))

-- the place of the next segment
next_place : (i : ℕ) → 4096 * suc i ≡ 4096 + 4096 * i
next_place i = omega arith

-- a range behind the first k
range_behind : (k m n : ℕ) (xs : List ℕ) → slice_range (drop k xs) m n ≡ slice_range xs (k + m) (k + n)
range_behind k m n xs =
    ap (take (n - m)) (drop-drop m k xs)
    ∙ ap (λ j. take j (drop (k + m) xs)) (let e : n - m ≡ k + n - (k + m) = omega arith in e)

next_range : (bytes : List ℕ) (i : ℕ) → slice_range (drop 4096 bytes) (4096 * i)
    (4096 * i + 4096) ≡ slice_range bytes (4096 * suc i) (4096 * suc i + 4096)
next_range bytes i =
    range_behind 4096 (4096 * i) (4096 * i + 4096) bytes
    ∙ ap (λ n. slice_range bytes n (4096 + (4096 * i + 4096))) (sym (next_place i))
    ∙ ap (slice_range bytes (4096 * suc i)) (let e : 4096 + (4096 * i + 4096) ≡ 4096 * suc i + 4096 = omega arith in e)

-- a segment is found by its flag and its place
pub table_at : (flags : List Bool) (bytes : List ℕ) (i : ℕ) → i < length flags →
    slice_index_or (table_of flags bytes) i None ≡ bytes_if (slice_index_or flags i false)
    (slice_range bytes (4096 * i) (4096 * i + 4096))
table_at [] bytes i inside = absurd (let never : ⊥ = omega arith in never)
table_at (flag ∷ flags) bytes zero inside = refl
table_at (flag ∷ flags) bytes (suc i) inside =
    table_at flags (drop 4096 bytes) i (omega arith)
    ∙ ap (bytes_if (slice_index_or flags i false)) (next_range bytes i)

-- a segment is taken out by its flag
pub table_unset : (flags : List Bool) (bytes : List ℕ) (i : ℕ) →
    table_of (slice_set flags i false) bytes ≡ slice_set (table_of flags bytes) i None
table_unset [] bytes i = refl
table_unset (flag ∷ flags) bytes zero = refl
table_unset (flag ∷ flags) bytes (suc i) =
    ap (λ t. bytes_if flag (take 4096 bytes) ∷ t) (table_unset flags (drop 4096 bytes) i)

-- the bytes before those that are put
first_stays : (k n : ℕ) (xs from : List ℕ) → k ≤ n → n ≤ length xs → take k (take n xs ++ from) ≡ take k xs
first_stays k n xs from before inside =
    take-append-le k (take n xs) from (let e = length-take-le n xs inside in omega (arith, e)) ∙ take-take k n xs before

-- what lies behind the first k
rest_stays : (k m : ℕ) (xs from : List ℕ) → k + m ≤ length xs →
    drop k (take (k + m) xs ++ from) ≡ take m (drop k xs) ++ from
rest_stays k m xs from inside =
    drop-append-le k (take (k + m) xs) from (let e = length-take-le (k + m) xs inside in
    omega (arith, e)) ∙ ap (λ ys. ys ++ from) (drop-take k m xs)

-- bytes put in the place of the first
put_first : (k : ℕ) (xs from : List ℕ) → length from ≡ k →
    (take k (from ++ drop k xs) ≡ from) × (drop k (from ++ drop k xs) ≡ drop k xs)
put_first k xs from e = (
  ap (λ n. take n (from ++ drop k xs)) (sym e) ∙ take-append_seam from (drop k xs),
  ap (λ n. drop n (from ++ drop k xs)) (sym e) ∙ drop-append_seam from (drop k xs),
)

-- bytes put behind the first k
put_behind : (k m : ℕ) (xs from : List ℕ) → k + m ≤ length xs →
    drop k (take (k + m) xs ++ (from ++ drop (k + m + k) xs)) ≡ take m (drop k xs) ++ (from ++ drop (m + k) (drop k xs))
put_behind k m xs from inside =
    rest_stays k m xs (from ++ drop (k + m + k) xs) inside
    ∙ ap (λ ys. take m (drop k xs) ++ (from ++ ys))
    (ap (λ n. drop n xs) (let e : k + m + k ≡ k + (m + k) = omega arith in e) ∙ sym (drop-drop (m + k) k xs))

-- bytes put in the place of a segment whose flag is set are that segment
put_there : (flags : List Bool) (bytes from : List ℕ) (i : ℕ) → i < length flags →
    length bytes ≡ 4096 * length flags → length from ≡ 4096 →
    table_of (slice_set flags i true) (take (4096 * i) bytes
    ++ (from ++ drop (4096 * i + 4096) bytes)) ≡ slice_set (table_of flags bytes) i (Some from)
put_there [] bytes from i inside size whole = absurd (let never : ⊥ = omega arith in never)
put_there (flag ∷ flags) bytes from zero inside size whole =
    let p = put_first 4096 bytes from whole in
    ap (λ xs. Some xs ∷ table_of flags (drop 4096 (from ++ drop 4096 bytes))) p.0
    ∙ ap (λ xs. Some from ∷ table_of flags xs) p.1
put_there (flag ∷ flags) bytes from (suc i) inside size whole =
    let room : 4096 + 4096 * i ≤ length bytes = omega arith in
    let behind = from ++ drop (4096 + 4096 * i + 4096) bytes in
    ap (λ n. table_of (flag ∷ slice_set flags i true) (take n bytes ++ (from ++ drop (n + 4096) bytes))) (next_place i)
    ∙ ap (λ xs. bytes_if flag xs ∷ table_of (slice_set flags i true)
    (drop 4096 (take (4096 + 4096 * i) bytes ++ behind)))
    (first_stays 4096 (4096 + 4096 * i) bytes behind (omega arith) room)
    ∙ ap (λ xs. bytes_if flag (take 4096 bytes) ∷ table_of (slice_set flags i true) xs)
    (put_behind 4096 (4096 * i) bytes from room)
    ∙ ap (λ t. bytes_if flag (take 4096 bytes) ∷ t)
    (put_there flags (drop 4096 bytes) from i (omega arith) (length-drop 4096 bytes
    ∙ (let e : length bytes - 4096 ≡ 4096 * length flags = omega arith in e)) whole)

pub table_put : (flags : List Bool) (bytes from : List ℕ) (i : ℕ) → i < length flags →
    length bytes ≡ 4096 * length flags → length from ≡ 4096 →
    table_of (slice_set flags i true) (take (4096 * i) bytes ++ from
    ++ drop (4096 * i + 4096) bytes) ≡ slice_set (table_of flags bytes) i (Some from)
table_put flags bytes from i inside size whole =
    ap (table_of (slice_set flags i true)) (append_assoc (take (4096 * i) bytes) from
    (drop (4096 * i + 4096) bytes)) ∙ put_there flags bytes from i inside size whole

-- without flags there is none
pub table_clear : (n : ℕ) (bytes : List ℕ) → table_of (replicate n false) bytes ≡ replicate n None
table_clear zero bytes = refl
table_clear (suc n) bytes = ap (λ t. None ∷ t) (table_clear n (drop 4096 bytes))
