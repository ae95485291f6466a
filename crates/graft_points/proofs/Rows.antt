-- The candidates of a list of rows.
use Rattle.std.proofs.Common.{◌≡◌, ℕ, suc, zero, ◌<◌, Bool, true, false, cond, ◌==◌, nat_lt, List}
use Rattle.std.proofs.Common.{[], ◌∷◌, length, map, Option, Some, None, option_map, slice_index_or}
use Rattle.std.proofs.Common.{refl, sym, subst, ◌∙◌, ap, arith}
use Rattle.std.specs.List.{list_any, All}
use Rattle.std.proofs.lemmas.Bool.Decides.{nat_tests}
use Rattle.kernel_model.specs.declared.FrameRow.{FrameRow}
use Rattle.kernel_model.specs.declared.QueueRow.{QueueRow}
use Rattle.kernel_model.specs.Objects.{PolValue, CacheValue}
use Rattle.kernel_model.specs.Policies.{least, or_zero, process_in, next_process, turn_key, victim_key, victim_among}
use Rattle.graft_points.specs.Views.{row_key, frame_in, victim_of, MarksOf}
use Rattle.graft_points.proofs.Firsts.{better}

-- something is there, and P holds of it
pub record Has {A : Type 0} (P : A → Type 0) (o : Option A) : Type 0 where
  pub value : A
  pub is : o ≡ Some value
  pub holds : P value

has_better : {A : Type 0} (P : A → Type 0) (x y : A) (b : Bool) → P x → P y → Has P (cond b (Some y) (Some x))
has_better P x y true px py = record { value = y; is = refl; holds = py }
has_better P x y false px py = record { value = x; is = refl; holds = px }

tail_of_all : {A : Type 0} (P : A → Type 0) (x : A) (xs : List A) → All P (x ∷ xs) → All P xs
tail_of_all P x xs all = λ k d h. all (suc k) d (omega arith)

-- what holds of all holds of the first with the least key
pub least_has : {A : Type 0} (P : A → Type 0) (key : A → ℕ) (xs : List A) → All P xs →
    0 < length xs → Has P (least key xs)
least_has P key [] all h = absurd (omega arith)
least_has P key (x ∷ []) all h = record { value = x; is = refl; holds = all 0 x (omega arith) }
least_has {A} P key (x ∷ y ∷ ys) all h =
    let found = least_has P key (y ∷ ys) (tail_of_all P x (y ∷ ys) all) (omega arith) in
    let Q : Option A → Type 0 = λ o. Has P (better key x o) in
    subst Q (sym found.is) (has_better P x found.value (nat_lt (key found.value) (key x))
    (all 0 x (omega arith)) found.holds)

better_of_image : {A B : Type 0} (key : B → ℕ) (f : A → B) (x : A) (o : Option A) →
    better key (f x) (option_map f o) ≡ option_map f (better (λ a. key (f a)) x o)
better_of_image key f x None = refl
better_of_image key f x (Some y) =
    elim (nat_lt (key (f y)) (key (f x)))
    as (λ b. cond b (Some (f y)) (Some (f x)) ≡ option_map f (cond b (Some y) (Some x)))
    [ true ↦ refl | false ↦ refl ]

-- the least of images is the image of the least
pub least_map : {A B : Type 0} (key : B → ℕ) (f : A → B) (xs : List A) →
    least key (map f xs) ≡ option_map f (least (λ x. key (f x)) xs)
least_map key f [] = refl
least_map key f (x ∷ xs) =
    ap (better key (f x)) (least_map key f xs) ∙ better_of_image key f x (least (λ a. key (f a)) xs)

-- keys that are the same on a list find the same
pub least_alike : {A : Type 0} (k l : A → ℕ) (xs : List A) → All (λ x. k x ≡ l x) xs → least k xs ≡ least l xs
least_alike k l [] all = refl
least_alike k l (x ∷ []) all = refl
least_alike k l (x ∷ y ∷ ys) all =
    let rest = tail_of_all (λ a. k a ≡ l a) x (y ∷ ys) all in
    let found = least_has (λ a. k a ≡ l a) l (y ∷ ys) rest (omega arith) in
    let here : k x ≡ l x = all 0 x (omega arith) in
    ap (better k x) (least_alike k l (y ∷ ys) rest ∙ found.is)
    ∙ rw (here, found.holds) refl
    ∙ ap (better l x) (sym found.is)

-- the candidate for eviction is the same, found among frames or among their rows
pub victim_among_rows : (pol : PolValue) (c : CacheValue) (rows : List FrameRow) → MarksOf c rows →
    victim_among pol c (map (λ (r : FrameRow). r.frame) rows) ≡ victim_of pol rows
victim_among_rows pol c rows marks =
    least_map (victim_key pol c) (λ (r : FrameRow). r.frame) rows
    ∙ ap frame_in (least_alike (λ (r : FrameRow). victim_key pol c r.frame) (row_key pol) rows
    (λ k d h. rw (marks.marked k d h) refl))

any_at : {A : Type 0} (p : A → Bool) (xs : List A) (k : ℕ) (d : A) → k < length xs →
    p (slice_index_or xs k d) ≡ true → list_any p xs ≡ true
any_at p [] k d h e = absurd (omega arith)
any_at p (x ∷ xs) zero d h e = rw e refl
any_at p (x ∷ xs) (suc k) d h e = rw (any_at p xs k d (omega arith) e) (grind (arith, nat_tests))

pub same_number : (n : ℕ) → (n == n) ≡ true
same_number n = grind (arith, nat_tests)

-- each of a list stands there by its number
each_stands : {A : Type 0} (f : A → ℕ) (xs : List A) → All (λ x. list_any (λ y. f y == f x) xs ≡ true) xs
each_stands f xs =
    λ k d h. any_at (λ y. f y == f (slice_index_or xs k d)) xs k d h
    (same_number (f (slice_index_or xs k d)))

-- ---- the frame and the process that are named

-- the number n names the first of the rows with the least key
pub record IsNamed {A : Type 0} (f : A → ℕ) (xs : List A) (o : Option ℕ) (n : ℕ) : Type 0 where
  pub is : o ≡ Some n
  pub stands : list_any (λ x. f x == n) xs ≡ true

named_of : {A : Type 0} (f : A → ℕ) (key : A → ℕ) (xs : List A) → 0 < length xs → (o : Option A) → o ≡ least key xs →
    (n : ℕ) → n ≡ or_zero (option_map f o) → IsNamed f xs (option_map f o) n
named_of f key xs h o e n m =
    let found = least_has (λ x. list_any (λ y. f y == f x) xs ≡ true) key xs (each_stands f xs) h in
    let here : o ≡ Some found.value = e ∙ found.is in
    let number : n ≡ f found.value = m ∙ ap (λ p. or_zero (option_map f p)) here in
    record {
      is = ap (option_map f) here ∙ ap Some (sym number);
      stands = let P : ℕ → Type 0 = λ k. list_any (λ x. f x == k) xs ≡ true in subst P (sym number) found.holds;
    }

pub victim_named : (pol : PolValue) (rows : List FrameRow) (n : ℕ) → 0 < length rows →
    n ≡ or_zero (victim_of pol rows) →
    IsNamed (λ (r : FrameRow). r.frame) rows (victim_of pol rows) n
victim_named pol rows n h m =
    named_of (λ (r : FrameRow). r.frame) (row_key pol) rows h (least (row_key pol) rows) refl n m

process_in_map : (o : Option QueueRow) → process_in o ≡ option_map (λ (r : QueueRow). r.process) o
process_in_map None = refl
process_in_map (Some r) = refl

pub next_named : (pol : PolValue) (rows : List QueueRow) (n : ℕ) → 0 < length rows →
    n ≡ or_zero (next_process pol rows) →
    IsNamed (λ (r : QueueRow). r.process) rows (next_process pol rows) n
next_named pol rows n h m =
    let first = least (turn_key pol) rows in
    let same = process_in_map first in
    let P : Option ℕ → Type 0 = λ o. IsNamed (λ (r : QueueRow). r.process) rows o n in
    subst P (sym same) (named_of (λ (r : QueueRow). r.process) (turn_key pol) rows h first refl n (m ∙ ap or_zero same))
