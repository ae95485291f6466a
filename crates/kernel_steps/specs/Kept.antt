-- The notes that are kept.
use Rattle.std.proofs.Common.{◌≡◌, ℕ, zero, suc, ◌≤◌, ◌<◌, List, [], ◌∷◌, ◌++◌, take, length, refl}
use Rattle.std.proofs.Common.{ap, sym, subst, ◌∙◌, arith}
use Rattle.kernel_model.specs.declared.Note.{Note}
use Rattle.kernel_steps.specs.Refines.{first_notes}

take_none : {A : Type 0} (n : ℕ) → take {A = A} n [] ≡ []
take_none zero = refl
take_none (suc n) = refl

-- the first few of a list and one more, where there is room
take_room : {A : Type 0} (n : ℕ) (xs : List A) (x : A) → length (take n xs) < n →
    take n xs ++ x ∷ [] ≡ take n (xs ++ x ∷ [])
take_room zero xs x h = absurd (omega (arith, h))
take_room (suc n) [] x h = ap (λ zs. x ∷ zs) (sym (take_none n))
take_room (suc n) (y ∷ ys) x h = ap (λ zs. y ∷ zs) (take_room n ys x (omega (arith, h)))

-- and where there is none
take_full : {A : Type 0} (n : ℕ) (xs : List A) (x : A) → n ≤ length (take n xs) →
    take n xs ≡ take n (xs ++ x ∷ [])
take_full zero xs x h = refl
take_full (suc n) [] x h = absurd (omega (arith, h))
take_full (suc n) (y ∷ ys) x h = ap (λ zs. y ∷ zs) (take_full n ys x (omega (arith, h)))

-- a short list is kept whole
take_short : {A : Type 0} (n : ℕ) (xs : List A) → length xs ≤ n → take n xs ≡ xs
take_short zero [] h = refl
take_short zero (x ∷ xs) h = absurd (omega (arith, h))
take_short (suc n) [] h = refl
take_short (suc n) (x ∷ xs) h = ap (λ zs. x ∷ zs) (take_short n xs (omega (arith, h)))

pub kept_more : (old : List Note) (all : List Note) (note : Note) → old ≡ first_notes all →
    length old < 530 → old ++ note ∷ [] ≡ first_notes (all ++ note ∷ [])
unfolding first_notes
kept_more old all note is room = ap (λ ns. ns ++ note ∷ []) is
    ∙ take_room 530 all note (subst (λ ns. length ns < 530) is room)

pub kept_full : (old : List Note) (all : List Note) (note : Note) → old ≡ first_notes all →
    530 ≤ length old → old ≡ first_notes (all ++ note ∷ [])
unfolding first_notes
kept_full old all note is full = is ∙ take_full 530 all note (subst (λ ns. 530 ≤ length ns) is full)

-- few notes are all kept
pub kept_whole : (all : List Note) → length all ≤ 530 → first_notes all ≡ all
unfolding first_notes
kept_whole all few = take_short 530 all few
