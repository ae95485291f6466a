-- The bytes of a frame, once bytes were written into the memory.
use Rattle.std.proofs.Common.{◌≡◌, ℕ, ◌+◌, ◌-◌, ◌*◌, ◌<◌, ◌≤◌, List, ◌++◌, length, take, drop}
use Rattle.std.proofs.Common.{slice_range, refl, arith, sym, ◌∙◌, ap, append_assoc, add_assoc}
use Rattle.std.proofs.Common.{length-append, length-drop, inl, inr}
use Rattle.std.proofs.lemmas.Bool.{cases_lt}
use Rattle.std.proofs.lemmas.List.{take-append-drop, take-append-le, take-take, take_at, drop_at}
use Rattle.std.proofs.lemmas.List.{drop-append-le, length-take-le}
use Rattle.std.proofs.lemmas.List.Folds.{drop_split}
use Rattle.std.proofs.lemmas.Slice.{between_is, drop-append-drop}
use Rattle.std.proofs.Math.Seq.{take-append-add, drop-append-add}
use Rattle.kernel_model.specs.Fetch.{bytes_with}
use Rattle.kernel_state.specs.CacheViews.{frame_bytes}

-- a list with others put in from a place on
abbrev pub written : (place : ℕ) → (new old : List ℕ) → List ℕ
written place new old = take place old ++ new ++ drop (place + length new) old

-- a range before the place
before : (old new : List ℕ) (place lo hi : ℕ) → hi ≤ place → place ≤ length old →
    slice_range (written place new old) lo hi ≡ slice_range old lo hi
before old new place lo hi le inside =
    let front : hi ≤ length (take place old) = omega (arith, length-take-le place old inside) in
    let both : hi ≤ length (take place old ++ new) = omega (arith, length-append (take place old) new) in
    between_is (written place new old) lo hi
    ∙ ap (λ w. drop lo w) (take-append-le hi (take place old ++ new) (drop (place + length new) old)
    both ∙ take-append-le hi (take place old) new front ∙ take-take hi place old le)
    ∙ sym (between_is old lo hi)

-- a range behind what was put in
behind : (old new : List ℕ) (place lo hi : ℕ) → place + length new ≤ lo → place ≤ length old →
    slice_range (written place new old) lo hi ≡ slice_range old lo hi
behind old new place lo hi le inside =
    ap (λ w. take (hi - lo) w)
    (drop-append-drop (place + length new) old (take place old ++ new) lo le
    (omega (arith, length-append (take place old) new, length-take-le place old inside)))

-- another frame
pub frame_same : (memory new : List ℕ) (place f g : ℕ) → length memory ≡ 524288 → f < 64 → g < 64 →
    (g ≡ f → ⊥) → 512 * f ≤ place → place + length new ≤ 512 * f + 512
    → frame_bytes (written place new memory) g ≡ frame_bytes memory g
frame_same memory new place f g size f-less g-less other from to =
    elim (cases_lt g f) [
      | inl less ↦ before memory new place (512 * g) (512 * g + 512) (omega arith) (omega arith)
      | inr more ↦
          let above : f < g = omega arith in
          behind memory new place (512 * g) (512 * g + 512) (omega arith) (omega arith)
    ]

-- a piece in the middle
middle : (p x s : List ℕ) (n : ℕ) → length x ≡ n → take n (drop (length p) (p ++ (x ++ s))) ≡ x
middle p x s n len = ap (λ w. take n w) (drop_at p (x ++ s) (length p) refl) ∙ take_at x s n len

-- bytes put into a piece in the middle
into : (p x s new : List ℕ) (off : ℕ) → off + length new ≤ length x →
    written (length p + off) new (p ++ (x ++ s)) ≡ p ++ (bytes_with off new x ++ s)
into p x s new off fits =
    let front : take (length p + off) (p ++ (x ++ s)) ≡ p ++ take off x =
    take-append-add p (x ++ s) off ∙ ap (λ w. p ++ w) (take-append-le off x s (omega arith)) in
    let back : drop (length p + off + length new) (p ++ (x ++ s)) ≡ drop (off + length new) x ++ s =
    ap (λ n. drop n (p ++ (x ++ s))) (add_assoc (length p) off (length new))
    ∙ drop-append-add p (x ++ s) (off + length new)
    ∙ drop-append-le (off + length new) x s fits in
    ap (λ w. w ++ new ++ drop (length p + off + length new) (p ++ (x ++ s))) front
    ∙ ap (λ w. p ++ take off x ++ new ++ w) back ∙ simp append_assoc

-- how long a piece with bytes put in is
long_with : (x new : List ℕ) (off : ℕ) → off + length new ≤ length x → length (bytes_with off new x) ≡ length x
long_with x new off fits =
    omega (
      arith,
      length-append (take off x ++ new) (drop (off + length new) x),
      length-append (take off x) new,
      length-take-le off x (omega arith),
      length-drop (off + length new) x,
    )

-- bytes put into a range
within_split : (p x s new : List ℕ) (off : ℕ) → off + length new ≤ length x
    → take (length x) (drop (length p) (written (length p + off) new (p ++ (x ++ s)))) ≡ bytes_with off new x
within_split p x s new off fits =
    ap (λ w. take (length x) (drop (length p) w)) (into p x s new off fits)
    ∙ middle p (bytes_with off new x) s (length x) (long_with x new off fits)

-- bytes put into a frame
pub frame_patched : (memory new : List ℕ) (f off : ℕ) → length memory ≡ 524288 → f < 64 → off + length new ≤ 512
    → frame_bytes (written (512 * f + off) new memory) f ≡ bytes_with off new (frame_bytes memory f)
frame_patched memory new f off size less fits =
    let p = take (512 * f) memory in
    let x = frame_bytes memory f in
    let s = drop (512 * f + 512) memory in
    let front : length p ≡ 512 * f = length-take-le (512 * f) memory (omega arith) in
    let gap : 512 * f + 512 - 512 * f ≡ 512 = omega arith in
    let long : length x ≡ 512 =
    length-take-le (512 * f + 512 - 512 * f) (drop (512 * f) memory)
    (omega (arith, length-drop (512 * f) memory)) ∙ gap in
    let whole : p ++ (x ++ s) ≡ memory =
    ap (λ w. p ++ w) (sym (drop_split memory (512 * f) (512 * f + 512) (omega arith)))
    ∙ take-append-drop (512 * f) memory in
    let fit : off + length new ≤ length x = omega arith in
    let step = within_split p x s new off fit in
    let named = ap (λ n. take (length x) (drop n (written (n + off) new (p ++ (x ++ s))))) (sym front) ∙ step in
    let sized = ap (λ n. take n (drop (512 * f) (written (512 * f + off) new (p ++ (x ++ s))))) (gap
    ∙ sym long) ∙ named in
    ap (λ w. take (512 * f + 512 - 512 * f) (drop (512 * f) (written (512 * f + off) new w))) (sym whole) ∙ sized

-- a frame filled with a block
pub frame_filled : (memory new : List ℕ) (f : ℕ) → length memory ≡ 524288 → f < 64 → length new ≡ 512
    → frame_bytes (take (512 * f) memory ++ new ++ drop (512 * f + 512) memory) f ≡ new
frame_filled memory new f size less long =
    let front : length (take (512 * f) memory) ≡ 512 * f = length-take-le (512 * f) memory (omega arith) in
    let gap : 512 * f + 512 - 512 * f ≡ 512 = omega arith in
    ap (λ w. take (512 * f + 512 - 512 * f) (drop (512 * f) w))
    (append_assoc (take (512 * f) memory) new (drop (512 * f + 512) memory))
    ∙ ap (λ w. take (512 * f + 512 - 512 * f) w)
    (drop_at (take (512 * f) memory) (new ++ drop (512 * f + 512) memory) (512 * f) front)
    ∙ take_at new (drop (512 * f + 512) memory) (512 * f + 512 - 512 * f) (long ∙ sym gap)
