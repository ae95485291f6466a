-- The order of use.
use Rattle.std.proofs.Common.{◌≡◌, ℕ, zero, suc, ◌+◌, ◌<◌, ◌≤◌, ◌==◌, Bool, true, false, cond, not}
use Rattle.std.proofs.Common.{List, [], ◌∷◌, ◌++◌, length, filter, map, get_or, remove, set, take}
use Rattle.std.proofs.Common.{drop, refl, arith, sym, ◌∙◌, ap}
use Rattle.std.proofs.lemmas.Bool.Decides.{nat_tests}
use Rattle.std.proofs.lemmas.Grind.{common_steps}
use Rattle.std.proofs.lemmas.List.{append-nil, take_all}
use Rattle.std.proofs.Math.ListN.{drop_of_length-le}
use Rattle.std.specs.List.{refill}
use Rattle.std.proofs.lemmas.List.Edits.{map_over_more}
use Rattle.buffer_cache.specs.Frames.{newest, exchanged, uses}

-- one step of a map in place
pub map_step : {X : Type 0} (f : X → X) (xs ys : List X) (i : ℕ) (d y : X) → i < length xs →
    ys ≡ map f (take i xs) ++ drop i xs → y ≡ f (get_or ys i d)
    → set ys i y ≡ map f (take (i + 1) xs) ++ drop (i + 1) xs
map_step f xs ys i d y lt h is =
    let same : get_or ys i d ≡ get_or ys i (get_or ys i d) = grind (arith, common_steps) in
    rw is (map_over_more f xs ys i (get_or ys i d) lt h same)

-- uses once a frame was taken out
pub uses-without : (f g : ℕ) (order : List ℕ) →
    uses g (filter (λ h. not (h == f)) order) ≡ cond (g == f) 0 (uses g order)
uses-without f g [] = grind (arith, nat_tests)
uses-without f g (h ∷ order) = grind (arith, nat_tests, uses-without f g order)

-- uses of two lists together
uses-append : (g : ℕ) (xs ys : List ℕ) → uses g (xs ++ ys) ≡ uses g xs + uses g ys
uses-append g [] ys = grind arith
uses-append g (x ∷ xs) ys = grind (arith, nat_tests, uses-append g xs ys)

-- a frame that is the newest stands once in the order of use
pub uses-newest : (f g : ℕ) (order : List ℕ) → uses g (newest f order) ≡ cond (g == f) 1 (uses g order)
uses-newest f g order =
    let parts = uses-append g (filter (λ h. not (h == f)) order) (f ∷ []) in
    let rest = uses-without f g order in
    grind (arith, nat_tests, parts, rest)

-- the frames but one, and its uses
pub length-without : (f : ℕ) (order : List ℕ) → length (filter (λ h. not (h == f)) order) + uses f order ≡ length order
length-without f [] = refl
length-without f (h ∷ order) = grind (arith, nat_tests, length-without f order)

-- how long the order of use is with a frame as the newest
pub length-newest : (f : ℕ) (order : List ℕ) → length (newest f order) + uses f order ≡ length order + 1
length-newest f order = grind (arith, common_steps, length-without f order)

-- two frames that change places: who looks for one finds the other
exchanged-test : (f g x h : ℕ) → (exchanged f g x == h) ≡ (x == exchanged f g h)
exchanged-test f g x h = grind (arith, nat_tests)

-- uses of a list by its first element
uses-cons : (h x : ℕ) (xs : List ℕ) → uses h (x ∷ xs) ≡ cond (x == h) 1 0 + uses h xs
uses-cons h x xs = grind (arith, nat_tests)

-- uses once two frames changed places
pub uses-exchanged : (f g h : ℕ) (order : List ℕ) → uses h (map (exchanged f g) order) ≡ uses (exchanged f g h) order
uses-exchanged f g h [] = refl
uses-exchanged f g h (x ∷ order) =
    uses-cons h (exchanged f g x) (map (exchanged f g) order) ∙ ap (λ (b : Bool). cond b 1
    0 + uses h (map (exchanged f g) order)) (exchanged-test f g x h)
    ∙ ap (λ n. cond (x == exchanged f g h) 1 0 + n) (uses-exchanged f g h order)
    ∙ sym (uses-cons (exchanged f g h) x order)

pub exchanged-first : (f g : ℕ) → exchanged f g f ≡ g
exchanged-first f g = grind (arith, nat_tests)

pub exchanged-second : (f g : ℕ) → exchanged f g g ≡ f
exchanged-second f g = grind (arith, nat_tests)

pub exchanged-neither : (f g k : ℕ) → (k ≡ f → ⊥) → (k ≡ g → ⊥) → exchanged f g k ≡ k
exchanged-neither f g k not-f not-g = grind (arith, nat_tests)

-- a frame of the order of use has a use
pub uses-at : (order : List ℕ) (i : ℕ) → i < length order → 1 ≤ uses (get_or order i 0) order
uses-at [] i inside = absurd (omega arith)
uses-at (x ∷ order) zero inside = grind (arith, nat_tests)
uses-at (x ∷ order) (suc i) inside =
    let rest = uses-at order i (omega arith) in
    let one = uses-cons (get_or order i 0) x order in
    omega (arith, rest, one)

-- a frame changes places with itself
pub exchanged-same : (f g : ℕ) (order : List ℕ) → f ≡ g → map (exchanged f g) order ≡ order
exchanged-same f g [] e = refl
exchanged-same f g (h ∷ order) e = grind (arith, nat_tests, exchanged-same f g order e)

-- a frame without uses is in no place
pub without-unused : (f : ℕ) (order : List ℕ) → uses f order ≡ 0 → filter (λ g. not (g == f)) order ≡ order
without-unused f [] none = refl
without-unused f (h ∷ order) none = grind (arith, nat_tests, without-unused f order)

-- the frame at its first place goes behind all others, and so it is the newest
pub newest-placed : (f : ℕ) (order : List ℕ) (at : ℕ) → at < length order →
    uses f (take at order) ≡ 0 → get_or order at 0 ≡ f → uses f order ≤ 1 →
    remove order at ++ get_or order at 0 ∷ [] ≡ newest f order
newest-placed f [] at lt none here once = absurd (omega arith)
newest-placed f (h ∷ order) zero lt none here once =
    let rest : uses f order ≡ 0 = grind (arith, nat_tests) in
    grind (arith, nat_tests, without-unused f order rest)
newest-placed f (h ∷ order) (suc at) lt none here once =
    let other : (h == f) ≡ false = grind (arith, nat_tests) in
    let fewer : uses f (take at order) ≡ 0 = grind (arith, nat_tests) in
    let few : uses f order ≤ 1 = grind (arith, nat_tests) in
    let rest = newest-placed f order at (omega arith) fewer here few in
    rw other (ap (λ (xs : List ℕ). h ∷ xs) rest)

-- a frame that stands nowhere is put last, and so it is the newest
pub newest-pushed : (f : ℕ) (order : List ℕ) (at : ℕ) → length order ≤ at →
    uses f (take at order) ≡ 0 → order ++ f ∷ [] ≡ newest f order
newest-pushed f order at le none =
    let unused : uses f order ≡ 0 = ap (uses f) (sym (take_all at order le)) ∙ none in
    ap (λ (xs : List ℕ). xs ++ f ∷ []) (sym (without-unused f order unused))

-- and it is one more than those without it
pub length-pushed : (f : ℕ) (order : List ℕ) (at : ℕ) → length order ≤ at →
    uses f (take at order) ≡ 0 → length (filter (λ g. not (g == f)) order) ≡ length order
length-pushed f order at le none = ap length (without-unused f order (ap (uses f) (sym (take_all at order le)) ∙ none))

-- a list that is written over one as long
pub refilled : (xs ws : List ℕ) → length ws ≡ length xs → refill (length xs) xs ws ≡ ws
refilled xs ws e =
    ap (λ (zs : List ℕ). take (length xs) (ws ++ zs)) (drop_of_length-le xs (omega (arith, e)))
    ∙ ap (take (length xs)) (append-nil ws) ∙ take_all (length xs) ws (omega (arith, e))

-- a frame has a use or none
pub uses-most : (b : Bool) (n : ℕ) → n ≡ cond b 1 0 → n ≤ 1
uses-most true n e = omega (arith, e)
uses-most false n e = omega (arith, e)
