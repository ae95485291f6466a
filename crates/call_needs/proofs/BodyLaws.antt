-- What an answer gives is a range of memory.
use Rattle.std.proofs.Common.{◌≡◌, ℕ, ◌+◌, ◌-◌, ◌*◌, ◌<◌, ◌≤◌, true, List, [], Option, None, Some}
use Rattle.std.proofs.Common.{min, length, get_or, take, drop, map, sym, ap, ◌∙◌, refl, arith}
use Rattle.std.proofs.Common.{length-append, length-drop, length-take-le, zero, suc, ◌∷◌, ◌++◌}
use Rattle.std.specs.List.{range_with_len, slice_index, slice_range}
use Rattle.std.proofs.lemmas.Bool.Decides.{nat_tests}
use Rattle.std.proofs.lemmas.Grind.{same_number_lists}
use Rattle.std.proofs.lemmas.List.{get_or-take, get_or-drop, take-take, drop-take, drop-drop}
use Rattle.std.proofs.lemmas.List.FromFn.{length-map-range_with_len, get_or-map-range_with_len}
use Rattle.kernel_model.specs.declared.FrameRow.{FrameRow}
use Rattle.kernel_model.specs.Fetch.{bytes_of}
use Rattle.kernel_model.specs.Levels.{base_of}
use Rattle.kernel_model.specs.Runs.{segment_of}
use Rattle.kernel_state.specs.Frames.{Frames, in_use, row_at}
use Rattle.kernel_state.specs.CacheViews.{cache_value, frame_bytes, frame_value}
use Rattle.kernel_state.specs.Stores.{body_at}
use Rattle.std.specs.Option.{is_some}

-- a byte of a segment
of_segment : (base i : ℕ) (memory : ℕ → ℕ) → i < 4096 → segment_of base memory i ≡ memory (base + i)
of_segment base i memory less = grind (arith, nat_tests)

-- a range has as many bytes as lie between its places
pub range_long : (xs : List ℕ) (a n : ℕ) → a + n ≤ length xs → length (slice_range xs a (a + n)) ≡ n
range_long xs a n inside =
    let count : (a + n) - a ≡ n = omega arith in
    let behind : n ≤ length (drop a xs) = omega (arith, length-drop a xs) in
    ap (λ k. length (take k (drop a xs))) count ∙ length-take-le n (drop a xs) behind

-- and each of them is the list's
of_range : (xs : List ℕ) (a n k : ℕ) → k < n → get_or (slice_range xs a (a + n)) k 0 ≡ get_or xs (a + k) 0
of_range xs a n k less =
    let among : k < (a + n) - a = omega arith in
    get_or-take ((a + n) - a) (drop a xs) k 0 among ∙ get_or-drop a xs k 0

segment_bytes : (ram : List ℕ) (base place n : ℕ) → place + n ≤ 4096 → base + 4096 ≤ length ram
    → map (segment_of base (λ a. slice_index ram a)) (range_with_len place n)
    ≡ slice_range ram (base + place) (base + place + n)
segment_bytes ram base place n few inside =
    let bytes = segment_of base (λ a. slice_index ram a) in
    let long = length-map-range_with_len bytes place n in
    let room : base + place + n ≤ length ram = omega arith in
    same_number_lists (map bytes (range_with_len place n)) (slice_range ram (base + place) (base + place + n))
    (long ∙ sym (range_long ram (base + place) n room))
    (λ k less.
    let among : k < n = omega (arith, long, less) in
    let low : place + k < 4096 = omega arith in
    let same : base + (place + k) ≡ base + place + k = omega arith in
    get_or-map-range_with_len bytes place n k (place + k) 0 among refl
    ∙ of_segment base (place + k) (λ a. slice_index ram a) low
    ∙ ap (λ j. get_or ram j 0) same
    ∙ sym (of_range ram (base + place) n k among))

-- the bytes that an answer of process p gives
pub body_is : (ram : List ℕ) (p : ℕ) (registers : List ℕ) → length ram ≡ 524288 → p < 16
    → body_at ram p registers ≡ slice_range ram
    (base_of p 0 + 2048) (base_of p 0 + 2048 + min (slice_index registers 0) 512)
body_is ram p registers size process =
    segment_bytes ram (base_of p 0) 2048 (min (slice_index registers 0) 512) (omega arith) (omega arith)

-- a part of a range is a range
pub part_of_range : (xs : List ℕ) (a n off len : ℕ) → off + len ≤ n
    → slice_range (slice_range xs a (a + n)) off (off + len) ≡ slice_range xs (a + off) (a + off + len)
part_of_range xs a n off len inside =
    let whole : (a + n) - a ≡ off + (n - off) = omega arith in
    let part : (off + len) - off ≡ len = omega arith in
    let last : (a + off + len) - (a + off) ≡ len = omega arith in
    let few : len ≤ n - off = omega arith in
    ap (λ k. take k (drop off (take ((a + n) - a) (drop a xs)))) part
    ∙ ap (λ k. take len (drop off (take k (drop a xs)))) whole
    ∙ ap (take len) (drop-take off (n - off) (drop a xs))
    ∙ take-take len (n - off) (drop off (drop a xs)) few
    ∙ ap (take len) (drop-drop off a xs)
    ∙ ap (λ k. take k (drop (a + off) xs)) (sym last)

-- the bytes of a frame in use
row_bytes : (ram : List ℕ) (f : ℕ) (row : Option FrameRow) → is_some row ≡ true
    → (elim (frame_value ram f row) [ None ↦ [] | Some r ↦ r.bytes ]) ≡ frame_bytes ram f
row_bytes ram f None used = cc
row_bytes ram f (Some r) used = refl

-- they are 512 bytes of memory
pub bytes_of_frame : (c : Frames) (ram : List ℕ) (f : ℕ) → in_use f c ≡ true →
    bytes_of (cache_value c ram) f ≡ slice_range ram (512 * f) (512 * f + 512)
bytes_of_frame c ram f used = row_bytes ram f (row_at c.rows f) used

-- bytes off to off + len of it
pub bytes_in_frame : (c : Frames) (ram : List ℕ) (f off len : ℕ) → in_use f c ≡ true → off + len ≤ 512
    → slice_range (bytes_of (cache_value c ram) f) off (off + len)
    ≡ slice_range ram (512 * f + off) (512 * f + off + len)
bytes_in_frame c ram f off len used inside =
    ap (λ (x : List ℕ). slice_range x off (off + len)) (row_bytes ram f (row_at c.rows f) used)
    ∙ part_of_range ram (512 * f) 512 off len inside

-- the front of a front
take_twice : (m n : ℕ) (xs : List ℕ) → n ≤ m → take n (take m xs) ≡ take n xs
take_twice m zero xs less = refl
take_twice zero (suc n) xs less = absurd (omega arith)
take_twice (suc m) (suc n) [] less = refl
take_twice (suc m) (suc n) (x ∷ xs) less = ap (λ ys. x ∷ ys) (take_twice m n xs (omega arith))

-- some of the bytes behind others, of which more were put there
pub take_behind : (m n : ℕ) (xs ys : List ℕ) → n ≤ m → take (length xs + n) (xs ++ take m ys) ≡ xs ++ take n ys
take_behind m n [] ys less =
    let none : length (let e : List ℕ = [] in e) + n ≡ n = omega arith in
    ap (λ k. take k (take m ys)) none ∙ take_twice m n ys less
take_behind m n (x ∷ xs) ys less =
    let one : length (x ∷ xs) + n ≡ suc (length xs + n) = omega arith in
    ap (λ k. take k (x ∷ (xs ++ take m ys))) one ∙ ap (λ zs. x ∷ zs) (take_behind m n xs ys less)

-- the front of two lists
take_front : (n : ℕ) (xs ys : List ℕ) → n ≤ length xs → take n (xs ++ ys) ≡ take n xs
take_front zero xs ys h = refl
take_front (suc n) [] ys h = absurd (omega (arith, h))
take_front (suc n) (x ∷ xs) ys h = ap (λ zs. x ∷ zs) (take_front n xs ys (omega (arith, h)))

-- some of the bytes in place of those from a place on, of which more were put there
pub put_front : (at n m : ℕ) (old new block from : List ℕ) → at + 512 ≤ length old →
    length block ≡ 512 → n ≤ m → m ≤ 512 → from ≡ take m block →
    new ≡ take at old ++ from ++ drop (at + length from) old →
    take (at + n) new ≡ take at old ++ take n block
put_front at n m old new block from fits whole less most is put =
    let kept : length (take at old) ≡ at = length-take-le at old (omega (arith, fits)) in
    let long : length (take m block) ≡ m = length-take-le m block (omega (arith, whole, most)) in
    let both = length-append (take at old) (take m block) in
    ap (take (at + n)) put
    ∙ ap (λ xs. take (at + n) (take at old ++ xs ++ drop (at + length from) old)) is
    ∙ take_front (at + n) (take at old ++ take m block) (drop (at + length from) old)
    (omega (arith, kept, long, both, less))
    ∙ ap (λ k. take (k + n) (take at old ++ take m block)) (sym kept)
    ∙ take_behind m n (take at old) block less
