-- Segments over the bytes that were needed so far: zeros stand for those behind them.
use Rattle.std.proofs.Common.{◌≡◌, ℕ, zero, suc, ◌+◌, ◌-◌, ◌*◌, ◌<◌, ◌≤◌, ◌==◌, Bool, true, false}
use Rattle.std.proofs.Common.{List, ◌∷◌, ◌++◌, length, take, drop, replicate, None, Some, refl}
use Rattle.std.proofs.Common.{arith, sym, ◌∙◌, ap}
use Rattle.std.proofs.lemmas.Bool.Decides.{nat_tests}
use Rattle.std.specs.Prelude.{slice_range, slice_set, slice_index_or}
use Rattle.std.proofs.lemmas.List.{append_assoc, length-append, length-replicate, length-take-le}
use Rattle.std.proofs.lemmas.List.{length-drop, length-set, get_or-set_same, get_or-set_other}
use Rattle.std.proofs.lemmas.List.{take-append-le, drop-append-le}
use Rattle.ram_space.specs.Tables.{bytes_if, table_of, padded, segments_of, AreSegments}
use Rattle.ram_space.proofs.TableLemmas.{table_length, table_at, table_unset, table_put, table_clear}

-- so many, and more of the same
pub more_alike : (m n x : ℕ) → replicate m x ++ replicate n x ≡ replicate (m + n) x
more_alike zero n x = ap (λ k. replicate k x) (let e : n ≡ zero + n = omega arith in e)
more_alike (suc m) n x =
    ap (λ xs. x ∷ xs) (more_alike m n x)
    ∙ ap (λ k. replicate k x) (let e : suc (m + n) ≡ suc m + n = omega arith in e)

-- so many bytes, and zeros behind them
with_zeros : (xs : List ℕ) (m : ℕ) → length (xs ++ replicate m 0) ≡ length xs + m
with_zeros xs m = length-append xs (replicate m 0) ∙ ap (λ k. length xs + k) (length-replicate m 0)

-- bytes with zeros behind them, and these with more behind, are padded alike
padded_more : (n m : ℕ) (xs : List ℕ) → length xs + m ≤ n → padded n (xs ++ replicate m 0) ≡ padded n xs
padded_more n m xs room =
    ap (λ k. xs ++ replicate m 0 ++ replicate (n - k) 0) (with_zeros xs m)
    ∙ append_assoc xs (replicate m 0) (replicate (n - (length xs + m)) 0)
    ∙ ap (λ zs. xs ++ zs) (more_alike m (n - (length xs + m)) 0)
    ∙ ap (λ k. xs ++ replicate k 0) (let e : m + (n - (length xs + m)) ≡ n - length xs = omega arith in e)

-- padding reaches so far
padded_length : (n : ℕ) (xs : List ℕ) → length xs ≤ n → length (padded n xs) ≡ n
padded_length n xs room =
    length-append xs (replicate (n - length xs) 0)
    ∙ ap (λ k. length xs + k) (length-replicate (n - length xs) 0)
    ∙ (let e : length xs + (n - length xs) ≡ n = omega arith in e)

-- a range within the first bytes
pub range_within : (xs ys : List ℕ) (a b : ℕ) → a ≤ b → b ≤ length xs → slice_range (xs ++ ys) a b ≡ slice_range xs a b
range_within xs ys a b order inside =
    ap (take (b - a)) (drop-append-le a xs ys (omega arith))
    ∙ take-append-le (b - a) (drop a xs) ys (let e = length-drop a xs in omega (arith, e))

-- bytes that are put in place of others leave as many
put_length : (k e : ℕ) (ys from : List ℕ) → k + length from ≡ e → e ≤ length ys →
    length (take k ys ++ from ++ drop e ys) ≡ length ys
put_length k e ys from step inside =
    length-append (take k ys ++ from) (drop e ys)
    ∙ ap (λ n. n + length (drop e ys)) (length-append (take k ys) from
    ∙ ap (λ n. n + length from) (length-take-le k ys (omega arith)))
    ∙ ap (λ n. k + length from + n) (length-drop e ys)
    ∙ (let done : k + length from + (length ys - e) ≡ length ys = omega arith in done)

-- they are put so too where zeros stand behind
put_padded : (n k e : ℕ) (xs from : List ℕ) → k + length from ≡ e → e ≤ n → length xs ≤ n →
    let ys = xs ++ replicate (e - length xs) 0 in
    padded n (take k ys ++ from ++ drop e ys) ≡ take k (padded n xs) ++ from ++ drop e (padded n xs)
put_padded n k e xs from step room small =
    let m = e - length xs in
    let ys = xs ++ replicate m 0 in
    let long : e ≤ length ys = (let is = with_zeros xs m in omega (arith, is)) in
    let zeros : List ℕ = replicate (n - length ys) 0 in
    let same : padded n ys ≡ padded n xs = padded_more n m xs (omega arith) in
    ap (λ j. take k ys ++ from ++ drop e ys ++ replicate (n - j) 0) (put_length k e ys from step long)
    ∙ append_assoc (take k ys ++ from) (drop e ys) zeros
    ∙ ap (λ zs. take k ys ++ from ++ zs) (sym (drop-append-le e ys zeros long))
    ∙ ap (λ zs. zs ++ from ++ drop e (padded n ys)) (sym (take-append-le k ys zeros (omega arith)))
    ∙ ap (λ zs. take k zs ++ from ++ drop e zs) same

-- ---- segments

-- the bytes of a segment, where its flag is set, are there
flagged_range : (flag : Bool) (bytes zeros : List ℕ) (i : ℕ) → (flag ≡ true → 4096 * i + 4096 ≤ length bytes) →
    bytes_if flag (slice_range (bytes ++ zeros) (4096 * i) (4096 * i + 4096))
    ≡ bytes_if flag (slice_range bytes (4096 * i) (4096 * i + 4096))
flagged_range false bytes zeros i reached = refl
flagged_range true bytes zeros i reached =
    ap Some (range_within bytes zeros (4096 * i) (4096 * i + 4096) (omega arith) (reached refl))

-- a segment is found by its flag and its place
pub segment_at : (flags : List Bool) (bytes : List ℕ) (i : ℕ) → i < length flags → AreSegments flags bytes →
    slice_index_or (segments_of flags bytes) i None ≡ bytes_if (slice_index_or flags i false)
    (slice_range bytes (4096 * i) (4096 * i + 4096))
segment_at flags bytes i inside sound =
    table_at flags (padded (4096 * length flags) bytes) i inside
    ∙ flagged_range (slice_index_or flags i false) bytes
    (replicate (4096 * length flags - length bytes) 0) i (sound.reached i)

-- there are as many segments as flags
pub segments_length : (flags : List Bool) (bytes : List ℕ) → length (segments_of flags bytes) ≡ length flags
segments_length flags bytes = table_length flags (padded (4096 * length flags) bytes)

-- a flag more or less leaves the number of flags
as_padded : (flags : List Bool) (i : ℕ) (flag : Bool) (bytes : List ℕ) →
    padded (4096 * length (slice_set flags i flag)) bytes ≡ padded (4096 * length flags) bytes
as_padded flags i flag bytes = ap (λ n. padded (4096 * n) bytes) (length-set flags i flag)

-- a segment is put
pub segment_put : (flags : List Bool) (bytes from : List ℕ) (i : ℕ) → i < length flags →
    AreSegments flags bytes → length from ≡ 4096 →
    let ys = bytes ++ replicate (4096 * i + 4096 - length bytes) 0 in
    segments_of (slice_set flags i true) (take (4096 * i) ys ++ from ++ drop (4096 * i + 4096) ys)
    ≡ slice_set (segments_of flags bytes) i (Some from)
segment_put flags bytes from i inside sound whole =
    let ys = bytes ++ replicate (4096 * i + 4096 - length bytes) 0 in
    let size = sound.size in
    ap (table_of (slice_set flags i true))
    (as_padded flags i true (take (4096 * i) ys ++ from ++ drop (4096 * i + 4096) ys))
    ∙ ap (table_of (slice_set flags i true))
    (put_padded (4096 * length flags) (4096 * i) (4096 * i + 4096) bytes from
    (ap (λ n. 4096 * i + n) whole) (omega arith) size)
    ∙ table_put flags (padded (4096 * length flags) bytes) from i inside
    (padded_length (4096 * length flags) bytes size) whole

-- a segment is taken out
pub segment_unset : (flags : List Bool) (bytes : List ℕ) (i : ℕ) →
    segments_of (slice_set flags i false) bytes ≡ slice_set (segments_of flags bytes) i None
segment_unset flags bytes i =
    ap (table_of (slice_set flags i false)) (as_padded flags i false bytes)
    ∙ table_unset flags (padded (4096 * length flags) bytes) i

-- all are taken out
pub segments_clear : (flags : List Bool) (bytes : List ℕ) → segments_of (replicate (length flags)
    false) bytes ≡ replicate (length (segments_of flags bytes)) None
segments_clear flags bytes =
    table_clear (length flags) (padded (4096 * length (replicate (length flags) false)) bytes)
    ∙ ap (λ n. replicate n None) (sym (segments_length flags bytes))

-- ---- what always holds

contrary : true ≡ false → ⊥
contrary h = cc

-- of flags that aren't set none is
none_set : (n j : ℕ) → slice_index_or (replicate n false) j false ≡ false
none_set zero j = refl
none_set (suc n) zero = refl
none_set (suc n) (suc j) = none_set n j

-- a flag that is set was set before, or is this one
set_before : (flags : List Bool) (i j : ℕ) (flag same : Bool) → (j == i) ≡ same →
    slice_index_or (slice_set flags i flag) j false ≡ true → same ≡ false →
    slice_index_or flags j false ≡ true
set_before flags i j flag same test set other =
    sym (get_or-set_other flags i j flag false
    (λ e. let t : (j == i) ≡ false = test ∙ other in grind (arith, nat_tests, t, e))) ∙ set

-- where the bytes of a put segment are there, so are those of each other one
put_reached : (flags : List Bool) (bytes : List ℕ) (i j n : ℕ) (same : Bool) → (j == i) ≡ same →
    AreSegments flags bytes → 4096 * i + 4096 ≤ n → length bytes ≤ n →
    slice_index_or (slice_set flags i true) j false ≡ true → 4096 * j + 4096 ≤ n
put_reached flags bytes i j n true test sound here more set =
    let e : j ≡ i = grind (arith, nat_tests, test) in
    omega (arith, e, here)
put_reached flags bytes i j n false test sound here more set =
    let before = sound.reached j (set_before flags i j true false test set refl) in omega (arith, before, more)

pub put_sound : (flags : List Bool) (bytes from : List ℕ) (i : ℕ) → i < length flags →
    AreSegments flags bytes → length from ≡ 4096 →
    let ys = bytes ++ replicate (4096 * i + 4096 - length bytes) 0 in
    AreSegments (slice_set flags i true) (take (4096 * i) ys ++ from ++ drop (4096 * i + 4096) ys)
put_sound flags bytes from i inside sound whole =
    let m = 4096 * i + 4096 - length bytes in
    let ys = bytes ++ replicate m 0 in
    let long = with_zeros bytes m in
    let size = sound.size in
    let many = length-set flags i true in
    let as_long = put_length (4096 * i) (4096 * i + 4096) ys from (ap (λ n. 4096 * i + n) whole)
    (omega (arith, long)) in
    record {
      size = omega (arith, as_long, long, size, many, inside);
      few = (let few = sound.few in omega (arith, few, many));
      reached =
          λ j set. put_reached flags bytes i j
          (length (take (4096 * i) ys ++ from ++ drop (4096 * i + 4096) ys)) (j == i) refl sound
          (omega (arith, as_long, long)) (omega (arith, as_long, long)) set;
    }

unset_reached : (flags : List Bool) (bytes : List ℕ) (i j : ℕ) (same : Bool) → (j == i) ≡ same →
    i < length flags → AreSegments flags bytes →
    slice_index_or (slice_set flags i false) j false ≡ true → 4096 * j + 4096 ≤ length bytes
unset_reached flags bytes i j true test inside sound set =
    absurd (let e : j ≡ i = grind (arith, nat_tests, test) in
    let off : slice_index_or (slice_set flags i false) j false ≡ false =
    ap (λ k. slice_index_or (slice_set flags i false) k false) e
    ∙ get_or-set_same flags i false false inside in
    contrary (sym set ∙ off))
unset_reached flags bytes i j false test inside sound set =
    sound.reached j (set_before flags i j false false test set refl)

pub unset_sound : (flags : List Bool) (bytes : List ℕ) (i : ℕ) → i < length flags →
    AreSegments flags bytes → AreSegments (slice_set flags i false) bytes
unset_sound flags bytes i inside sound =
    let many = length-set flags i false in
    record {
      size = (let size = sound.size in omega (arith, size, many));
      few = (let few = sound.few in omega (arith, few, many));
      reached = λ j set. unset_reached flags bytes i j (j == i) refl inside sound set;
    }

-- without flags nothing has to be there
pub clear_sound : (flags : List Bool) (bytes : List ℕ) → AreSegments flags bytes →
    AreSegments (replicate (length flags) false) bytes
clear_sound flags bytes sound =
    let many = length-replicate (length flags) false in
    record {
      size = (let size = sound.size in omega (arith, size, many));
      few = (let few = sound.few in omega (arith, few, many));
      reached = λ j set. absurd (contrary (sym set ∙ none_set (length flags) j));
    }
