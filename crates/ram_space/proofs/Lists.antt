-- Bytes that are put in place of others in a list.
use Rattle.std.proofs.Common.{◌≡◌, ℕ, ◌+◌, ◌-◌, ◌<◌, ◌≤◌, ◌&&◌, Bool, true, false, List}
use Rattle.std.proofs.Common.{[], ◌∷◌, ◌++◌, length, take, drop, replicate, arith, sym, ◌∙◌, ap}
use Rattle.std.specs.Cmp.Lexicographic.{pointwise}
use Rattle.std.specs.Prelude.{nat_eq, slice_range, slice_set}
use Rattle.std.proofs.lemmas.List.{append_assoc, length-append, length-replicate, length-take-le}
use Rattle.std.proofs.lemmas.List.{length-drop, drop-drop, drop-take, take-take, take-append-le}
use Rattle.std.proofs.lemmas.List.{drop-append-le, take-append-drop, take_all, take-set, drop-set}
use Rattle.ram_space.specs.Pages.{put, cleared}
use Rattle.std.proofs.Math.Seq.{take-append-add, drop-append-add, take-add}
use Rattle.ram_space.proofs.Padded.{more_alike}
use Rattle.ram_space.proofs.Padded.{range_within}

-- a range of the bytes behind the first
pub range_behind : (xs ys : List ℕ) (k a b : ℕ) → length xs ≡ k →
    slice_range (xs ++ ys) (k + a) (k + b) ≡ slice_range ys a b
range_behind xs ys k a b e =
    ap (λ j. take (k + b - (k + a)) (drop (j + a) (xs ++ ys))) (sym e)
    ∙ ap (take (k + b - (k + a))) (drop-append-add xs ys a)
    ∙ ap (λ j. take j (drop a ys)) (let d : k + b - (k + a) ≡ b - a = omega arith in d)

-- a range of a range
pub range_of_range : (xs : List ℕ) (s m o n : ℕ) → o + n ≤ m →
    slice_range (slice_range xs s (s + m)) o (o + n) ≡ slice_range xs (s + o) (s + o + n)
range_of_range xs s m o n inside =
    ap (λ j. take (o + n - o) (drop o (take j (drop s xs)))) (let d : s + m - s ≡ o + (m - o) = omega arith in d)
    ∙ ap (take (o + n - o)) (drop-take o (m - o) (drop s xs))
    ∙ take-take (o + n - o) (m - o) (drop o (drop s xs)) (omega arith)
    ∙ ap (take (o + n - o)) (drop-drop o s xs)
    ∙ ap (λ j. take j (drop (s + o) xs)) (let d : o + n - o ≡ s + o + n - (s + o) = omega arith in d)

pub range_length : (xs : List ℕ) (a n : ℕ) → a + n ≤ length xs → length (slice_range xs a (a + n)) ≡ n
range_length xs a n inside =
    length-take-le (a + n - a) (drop a xs) (let e = length-drop a xs in omega (arith, e))
    ∙ (let d : a + n - a ≡ n = omega arith in d)

-- they leave as many
pub put_length : (a : ℕ) (from xs : List ℕ) → a + length from ≤ length xs → length (put a from xs) ≡ length xs
put_length a from xs inside =
    length-append (take a xs ++ from) (drop (a + length from) xs)
    ∙ ap (λ n. n + length (drop (a + length from) xs)) (length-append (take a xs) from
    ∙ ap (λ n. n + length from) (length-take-le a xs (omega arith)))
    ∙ ap (λ n. a + length from + n) (length-drop (a + length from) xs)
    ∙ (let done : a + length from + (length xs - (a + length from)) ≡ length xs = omega arith in done)

-- a range before them
pub range_before_put : (a : ℕ) (from xs : List ℕ) (x y : ℕ) → x ≤ y → y ≤ a → a ≤ length xs →
    slice_range (put a from xs) x y ≡ slice_range xs x y
range_before_put a from xs x y order before inside =
    let long = length-take-le a xs inside in
    ap (λ zs. slice_range zs x y) (append_assoc (take a xs) from (drop (a + length from) xs))
    ∙ range_within (take a xs) (from ++ drop (a + length from) xs) x y order (omega (arith, long))
    ∙ ap (λ j. take (y - x) (drop x (take j xs))) (let d : a ≡ x + (a - x) = omega arith in d)
    ∙ ap (take (y - x)) (drop-take x (a - x) xs)
    ∙ take-take (y - x) (a - x) (drop x xs) (omega arith)

-- a range behind them
pub range_behind_put : (a : ℕ) (from xs : List ℕ) (x y : ℕ) → a + length from ≤ x →
    a + length from ≤ length xs → slice_range (put a from xs) x y ≡ slice_range xs x y
range_behind_put a from xs x y behind inside =
    let e = a + length from in
    let first = take a xs ++ from in
    let long : length first ≡ e = length-append (take a xs) from
    ∙ ap (λ n. n + length from) (length-take-le a xs (omega arith)) in
    let m = x - e in
    ap (λ j. take (y - x) (drop j (first ++ drop e xs))) (let d : x ≡ length first + m = omega (arith, long) in d)
    ∙ ap (take (y - x)) (drop-append-add first (drop e xs) m)
    ∙ ap (take (y - x)) (drop-drop m e xs)
    ∙ ap (λ j. take (y - x) (drop j xs)) (let d : e + m ≡ x = omega arith in d)

-- a range that they lie in
pub range_around_put : (s m o : ℕ) (from xs : List ℕ) → o + length from ≤ m → s + m ≤ length xs →
    slice_range (put (s + o) from xs) s (s + m) ≡ put o from (slice_range xs s (s + m))
range_around_put s m o from xs inside room =
    let n = length from in
    let rest = drop (s + o + n) xs in
    let front = take o (drop s xs) ++ from in
    let r = m - (o + n) in
    let size : s + m - s ≡ m = omega arith in
    let long : length front ≡ o + n = length-append (take o (drop s xs)) from ∙ ap (λ j. j + n)
    (length-take-le o (drop s xs) (let e = length-drop s xs in omega (arith, e))) in
    ap (λ zs. take (s + m - s) (drop s zs)) (append_assoc (take (s + o) xs) from rest)
    ∙ ap (take (s + m - s)) (drop-append-le s (take (s + o) xs)
    (from ++ rest) (let e = length-take-le (s + o) xs (omega arith) in omega (arith, e)))
    ∙ ap (λ zs. take (s + m - s) (zs ++ (from ++ rest))) (drop-take s o xs)
    ∙ ap (take (s + m - s)) (sym (append_assoc (take o (drop s xs)) from rest))
    ∙ ap (λ j. take j (front ++ rest)) (let d : s + m - s ≡ length front + r = omega (arith, long) in d)
    ∙ take-append-add front rest r
    ∙ ap (λ zs. front ++ take r zs) (ap (λ j. drop j xs)
    (let d : s + o + n ≡ s + (o + n) = omega arith in d) ∙ sym (drop-drop (o + n) s xs))
    ∙ ap (λ zs. front ++ zs) (sym (drop-take (o + n) r (drop s xs)))
    ∙ ap (λ j. front ++ drop (o + n) (take j (drop s xs))) (let d : o + n + r ≡ s + m - s = omega arith in d)
    ∙ ap (λ zs. zs ++ from ++ drop (o + n) (take (s + m - s) (drop s xs)))
    (sym (take-take o (s + m - s) (drop s xs) (omega arith)))

-- bytes put among the first
pub put_within : (a : ℕ) (from xs ys : List ℕ) → a + length from ≤ length xs →
    put a from (xs ++ ys) ≡ put a from xs ++ ys
put_within a from xs ys inside =
    ap (λ zs. zs ++ from ++ drop (a + length from) (xs ++ ys)) (take-append-le a xs ys (omega arith))
    ∙ ap (λ zs. take a xs ++ from ++ zs) (drop-append-le (a + length from) xs ys inside)
    ∙ sym (append_assoc (take a xs ++ from) (drop (a + length from) xs) ys)

-- bytes put behind the first
pub put_behind : (k a : ℕ) (from xs ys : List ℕ) → length xs ≡ k → put (k + a) from (xs ++ ys) ≡ xs ++ put a from ys
put_behind k a from xs ys e =
    ap (λ j. take (j + a) (xs ++ ys) ++ from ++ drop (k + a + length from) (xs ++ ys)) (sym e)
    ∙ ap (λ zs. zs ++ from ++ drop (k + a + length from) (xs ++ ys)) (take-append-add xs ys a)
    ∙ ap (λ j. xs ++ take a ys ++ from ++ drop j (xs ++ ys))
    (let d : k + a + length from ≡ length xs + (a + length from) = omega (arith, e) in d)
    ∙ ap (λ zs. xs ++ take a ys ++ from ++ zs) (drop-append-add xs ys (a + length from))
    ∙ ap (λ zs. zs ++ drop (a + length from) ys) (append_assoc xs (take a ys) from)
    ∙ append_assoc xs (take a ys ++ from) (drop (a + length from) ys)

-- a list is what stands before a range, the range, and what stands behind it
pub around : (xs : List ℕ) (a n : ℕ) → xs ≡ take a xs ++ slice_range xs a (a + n) ++ drop (a + n) xs
around xs a n =
    sym (take-append-drop (a + n) xs)
    ∙ ap (λ zs. zs ++ drop (a + n) xs) (take-add a n xs)
    ∙ ap (λ j. take a xs ++ take j (drop a xs) ++ drop (a + n) xs) (let d : n ≡ a + n - a = omega arith in d)

-- bytes that stand there already
pub put_same : (a n : ℕ) (from xs : List ℕ) → length from ≡ n → slice_range xs a (a + n) ≡ from → put a from xs ≡ xs
put_same a n from xs e there =
    ap (λ j. take a xs ++ from ++ drop (a + j) xs) e
    ∙ ap (λ zs. take a xs ++ zs ++ drop (a + n) xs) (sym there)
    ∙ sym (around xs a n)

-- bytes put in two parts, the second behind the first
pub put_twice : (a : ℕ) (first second xs : List ℕ) → a + length first + length second ≤ length xs →
    put (a + length first) second (put a first xs) ≡ put a (first ++ second) xs
put_twice a first second xs inside =
    let m = length first in
    let n = length second in
    let front = take a xs ++ first in
    let rest = drop (a + m) xs in
    let long : length front ≡ a + m = length-append (take a xs) first
    ∙ ap (λ j. j + m) (length-take-le a xs (omega arith)) in
    ap (λ j. put j second (front ++ rest)) (let d : a + m ≡ a + m + 0 = omega arith in d)
    ∙ put_behind (a + m) 0 second front rest long
    ∙ ap (λ j. front ++ (second ++ drop j rest)) (let d : 0 + n ≡ n = omega arith in d)
    ∙ ap (λ zs. front ++ (second ++ zs)) (drop-drop n (a + m) xs
    ∙ ap (λ j. drop j xs) (let d : a + m + n ≡ a + length (first ++ second) =
    (let e = length-append first second in omega (arith, e)) in d))
    ∙ sym (append_assoc front second (drop (a + length (first ++ second)) xs))
    ∙ ap (λ zs. zs ++ drop (a + length (first ++ second)) xs) (append_assoc (take a xs) first second)

-- a range of all
take_whole : (n : ℕ) (xs : List ℕ) → length xs ≡ n → slice_range xs 0 n ≡ xs
take_whole n xs e =
    ap (λ j. take j xs) (let d : n - 0 ≡ length xs = omega (arith, e) in d) ∙ take_all (length xs) xs (omega arith)

-- a range of the same
pub range_of_alike : (o n m x : ℕ) → o + n ≤ m → slice_range (replicate m x) o (o + n) ≡ replicate n x
range_of_alike o n m x inside =
    let r = m - o - n in
    ap (λ zs. slice_range zs o (o + n)) (ap (λ k. replicate k x)
    (let d : m ≡ o + (n + r) = omega arith in d) ∙ sym (more_alike o (n + r) x))
    ∙ ap (λ j. slice_range (replicate o x ++ replicate (n + r) x) j (o + n)) (let d : o ≡ o + 0 = omega arith in d)
    ∙ range_behind (replicate o x) (replicate (n + r) x) o 0 n (length-replicate o x)
    ∙ ap (λ zs. slice_range zs 0 n) (sym (more_alike n r x))
    ∙ range_within (replicate n x) (replicate r x) 0 n (omega arith) (let e = length-replicate n x in omega (arith, e))
    ∙ take_whole n (replicate n x) (length-replicate n x)

-- one byte put in place of another
pub put_one : (a v : ℕ) (xs : List ℕ) → a < length xs → put a (v ∷ []) xs ≡ slice_set xs a v
put_one a v xs inside =
    append_assoc (take a xs) (v ∷ []) (drop (a + 1) xs)
    ∙ ap (λ zs. zs ++ v ∷ drop (a + 1) xs) (sym (take-set xs a v))
    ∙ ap (λ zs. take a (slice_set xs a v) ++ zs) (sym (drop-set xs a v inside))
    ∙ take-append-drop a (slice_set xs a v)

-- no byte put
pub put_none : (a : ℕ) (from xs : List ℕ) → length from ≡ 0 → put a from xs ≡ xs
put_none a [] xs e =
    append_assoc (take a xs) [] (drop (a + 0) xs)
    ∙ ap (λ j. take a xs ++ drop j xs) (let d : a + 0 ≡ a = omega arith in d)
    ∙ take-append-drop a xs
put_none a (v ∷ from) xs e = absurd (let never : ⊥ = omega (arith, e) in never)

pub alike_length : (n x : ℕ) → length (replicate n x) ≡ n
alike_length n x = length-replicate n x

-- zeros put in two parts
zeros_twice : (a m n : ℕ) (xs : List ℕ) → a + m + n ≤ length xs →
    put (a + m) (replicate n 0) (put a (replicate m 0) xs) ≡ put a (replicate (m + n) 0) xs
zeros_twice a m n xs inside =
    let e = alike_length m 0 in
    let f = alike_length n 0 in
    ap (λ j. put (a + j) (replicate n 0) (put a (replicate m 0) xs)) (sym e)
    ∙ put_twice a (replicate m 0) (replicate n 0) xs (omega (arith, e, f, inside))
    ∙ ap (λ zs. put a zs xs) (more_alike m n 0)

-- zeros are put where bytes are cleared
pub cleared_put : (from to : ℕ) (xs : List ℕ) → from ≤ to → put from (replicate (to - from) 0) xs ≡ cleared from to xs
cleared_put from to xs order =
    let e = alike_length (to - from) 0 in
    ap (λ j. take from xs ++ replicate (to - from) 0 ++ drop j xs)
    (let d : from + length (replicate (to - from) 0) ≡ to = omega (arith, e, order) in d)

pub cleared_twice : (from mid to : ℕ) (xs : List ℕ) → from ≤ mid → mid ≤ to → to ≤ length xs →
    cleared mid to (cleared from mid xs) ≡ cleared from to xs
cleared_twice from mid to xs first second inside =
    ap (cleared mid to) (sym (cleared_put from mid xs first))
    ∙ sym (cleared_put mid to (put from (replicate (mid - from) 0) xs) second)
    ∙ ap (λ j. put j (replicate (to - mid) 0) (put from (replicate (mid - from) 0) xs))
    (let d : mid ≡ from + (mid - from) = omega (arith, first) in d)
    ∙ zeros_twice from (mid - from) (to - mid) xs (omega arith)
    ∙ ap (λ j. put from (replicate j 0) xs)
    (let d : mid - from + (to - mid) ≡ to - from = omega (arith, first, second) in d)
    ∙ cleared_put from to xs (omega arith)

pub cleared_none : (from : ℕ) (xs : List ℕ) → cleared from from xs ≡ xs
cleared_none from xs =
    sym (cleared_put from from xs (omega arith))
    ∙ put_none from (replicate (from - from) 0) xs (alike_length (from - from) 0
    ∙ (let e : from - from ≡ 0 = omega arith in e))

-- ---- bytes compared

-- a range in two parts
range_parts : (a m n : ℕ) (xs : List ℕ) →
    slice_range xs a (a + (m + n)) ≡ slice_range xs a (a + m) ++ slice_range xs (a + m) (a + m + n)
range_parts a m n xs =
    ap (λ j. take j (drop a xs)) (let d : a + (m + n) - a ≡ m + n = omega arith in d)
    ∙ take-add m n (drop a xs)
    ∙ ap (λ j. take j (drop a xs) ++ take n (drop m (drop a xs))) (let d : m ≡ a + m - a = omega arith in d)
    ∙ ap (λ zs. slice_range xs a (a + m) ++ take n zs) (drop-drop m a xs)
    ∙ ap (λ j. slice_range xs a (a + m) ++ take j (drop (a + m) xs))
    (let d : n ≡ a + m + n - (a + m) = omega arith in d)

and_assoc : (p q r : Bool) → (p && (q && r)) ≡ (p && q && r)
and_assoc true q r = cc
and_assoc false q r = cc

-- lists compared in two parts
same_parts : (xs ys zs ws : List ℕ) → length xs ≡ length zs →
    pointwise nat_eq (xs ++ ys) (zs ++ ws) ≡ (pointwise nat_eq xs zs && pointwise nat_eq ys ws)
same_parts [] ys [] ws e = cc
same_parts [] ys (z ∷ zs) ws e = absurd (let never : ⊥ = omega (arith, e) in never)
same_parts (x ∷ xs) ys [] ws e = absurd (let never : ⊥ = omega (arith, e) in never)
same_parts (x ∷ xs) ys (z ∷ zs) ws e =
    ap (λ t. nat_eq x z && t) (same_parts xs ys zs ws (let d : length xs ≡ length zs = omega (arith, e) in d))
    ∙ and_assoc (nat_eq x z) (pointwise nat_eq xs zs) (pointwise nat_eq ys ws)

pub has_parts : (a : ℕ) (first rest xs : List ℕ) → a + length first + length rest ≤ length xs →
    pointwise nat_eq (slice_range xs a (a + length (first ++ rest))) (first ++ rest)
    ≡ (pointwise nat_eq (slice_range xs a (a + length first)) first && pointwise nat_eq
    (slice_range xs (a + length first) (a + length first + length rest)) rest)
has_parts a first rest xs inside =
    ap (λ n. pointwise nat_eq (slice_range xs a (a + n)) (first ++ rest)) (length-append first rest)
    ∙ ap (λ zs. pointwise nat_eq zs (first ++ rest)) (range_parts a (length first) (length rest) xs)
    ∙ same_parts (slice_range xs a (a + length first))
    (slice_range xs (a + length first) (a + length first + length rest)) first rest
    (range_length xs a (length first) (omega arith))

-- no byte stands anywhere
pub has_none : (a : ℕ) (wanted xs : List ℕ) → length wanted ≡ 0 →
    true ≡ pointwise nat_eq (slice_range xs a (a + length wanted)) wanted
has_none a [] xs e = ap (λ n. pointwise nat_eq (take n (drop a xs)) []) (let d : 0 ≡ a + 0 - a = omega arith in d)
has_none a (v ∷ wanted) xs e = absurd (let never : ⊥ = omega (arith, e) in never)
