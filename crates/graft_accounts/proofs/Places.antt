-- One changed place of a list, and functions of places.
use Rattle.std.proofs.Common.{◌≡◌, ◌≢◌, ℕ, ◌<◌, ◌==◌, ◌&&◌, Bool, true, false, cond, List, length}
use Rattle.std.proofs.Common.{slice_index, slice_set, refl, subst, arith}
use Rattle.std.proofs.Math.Path.{fun_ext}
use Rattle.std.proofs.lemmas.Bool.Decides.{nat_tests}
use Rattle.std.proofs.lemmas.List.{get_or-set_same, get_or-set_other}
use Rattle.kernel_model.specs.declared.Kind.{Kind}
use Rattle.kernel_model.specs.declared.Kind.TheVariants.{Steps, Records, Locks}
use Rattle.kernel_model.specs.Objects.{at, at2, at_kind}

-- the changed place
pub set_here : (xs : List ℕ) (i v : ℕ) → i < length xs → slice_index (slice_set xs i v) i ≡ v
set_here xs i v h = get_or-set_same xs i v 0 h

-- the other places
pub set_other : (xs : List ℕ) (i j v : ℕ) → j ≢ i → slice_index (slice_set xs i v) j ≡ slice_index xs j
set_other xs i j v h = get_or-set_other xs i j v 0 h

place_by : (P : ℕ → Type 0) (i : ℕ) → P i → ((j : ℕ) → j ≢ i → P j) → (j : ℕ) (b : Bool) → (j == i) ≡ b → P j
place_by P i here other j true e = let same : i ≡ j = grind (arith, nat_tests) in subst P same here
place_by P i here other j false e = let apart : j ≢ i = grind (arith, nat_tests) in other j apart

-- what holds of a place and of all others holds of each
pub each_place : (P : ℕ → Type 0) (i : ℕ) → P i → ((j : ℕ) → j ≢ i → P j) → (j : ℕ) → P j
each_place P i here other j = place_by P i here other j (j == i) refl

at_one : {A : Type 0} (f g : ℕ → A) (i : ℕ) (v : A) → f i ≡ v → ((j : ℕ) → j ≢ i → f j ≡ g j) →
    (j : ℕ) (b : Bool) → (j == i) ≡ b →
    f j ≡ cond b v (g j)
at_one {A} f g i v here other j true e =
    let same : i ≡ j = grind (arith, nat_tests) in
    let P : ℕ → Type 0 = λ n. f n ≡ v in subst P same here
at_one f g i v here other j false e = let apart : j ≢ i = grind (arith, nat_tests) in other j apart

-- a function that is another one but at one number
pub at_by : {A : Type 0} (f g : ℕ → A) (i : ℕ) (v : A) → f i ≡ v → ((j : ℕ) → j ≢ i → f j ≡ g j) → f ≡ at i v g
at_by f g i v here other = fun_ext (λ j. at_one f g i v here other j (j == i) refl)

at2_one : {A : Type 0} (f g : ℕ → ℕ → A) (i k : ℕ) (v : A) → f i k ≡ v →
    ((j l : ℕ) → (j == i && l == k) ≡ false → f j l ≡ g j l) →
    (j l : ℕ) (b : Bool) → (j == i && l == k) ≡ b → f j l ≡ cond b v (g j l)
at2_one f g i k v here other j l true e =
    let first : i ≡ j = grind (arith, nat_tests) in
    let second : k ≡ l = grind (arith, nat_tests) in
    let P : ℕ → Type 0 = λ n. f n l ≡ v in
    let Q : ℕ → Type 0 = λ n. f i n ≡ v in subst P first (subst Q second here)
at2_one f g i k v here other j l false e = other j l e

-- a function of two numbers that is another one but at one pair
pub at2_by : {A : Type 0} (f g : ℕ → ℕ → A) (i k : ℕ) (v : A) → f i k ≡ v →
    ((j l : ℕ) → (j == i && l == k) ≡ false → f j l ≡ g j l) → f ≡ at2 i k v g
at2_by f g i k v here other = fun_ext (λ j. fun_ext (λ l. at2_one f g i k v here other j l (j == i && l == k) refl))

kind_same : (k j : Kind) (f : Kind → ℕ) → at_kind k (f k) f j ≡ f j
kind_same Steps Steps f = refl
kind_same Steps Records f = refl
kind_same Steps Locks f = refl
kind_same Records Steps f = refl
kind_same Records Records f = refl
kind_same Records Locks f = refl
kind_same Locks Steps f = refl
kind_same Locks Records f = refl
kind_same Locks Locks f = refl

-- a function of kinds, changed at one kind to what it is
pub at_kind_same : (k : Kind) (f : Kind → ℕ) → at_kind k (f k) f ≡ f
at_kind_same k f = fun_ext (λ j. kind_same k j f)
