-- Where a script is parted from a claim.
use Rattle.std.proofs.Common.{◌≡◌, ℕ, suc, ◌+◌, Bool, true, false, ◌&&◌, ◌==◌, List, [], ◌∷◌, ◌++◌, take, drop}
use Rattle.std.proofs.Common.{Option, Some, None, refl, sym, ap, ◌∙◌, append_assoc, append-nil}
use Rattle.std.specs.Prelude.{option_map}
use Rattle.std.proofs.lemmas.List.{drop-drop}
use Rattle.script_model.specs.World.{same_bytes}
use Rattle.script_model.specs.Audits.{PARTING, parted, parted_from}

-- bytes before the first part
abbrev pub put_before : List ℕ → Option (List ℕ × List ℕ) → Option (List ℕ × List ℕ)
put_before xs o = option_map (λ r. (xs ++ r.0, r.1)) o

-- one more byte before it
before_more : (xs : List ℕ) (b : ℕ) (o : Option (List ℕ × List ℕ)) →
    put_before xs (option_map (λ r. (b ∷ r.0, r.1)) o) ≡ put_before (xs ++ b ∷ []) o
before_more xs b None = refl
before_more xs b (Some r) = ap (λ (ys : List ℕ). Some (ys, r.1)) (sym (append_assoc xs (b ∷ []) r.0))

-- by whether the line stands here
abbrev by_test : (t : Bool) → Bool → ℕ → List ℕ → Option (List ℕ × List ℕ)
by_test t fresh b bs = elim t as (λ _. Option (List ℕ × List ℕ)) [
  | true ↦ Some ([], drop 3 (b ∷ bs))
  | false ↦ option_map (λ r. (b ∷ r.0, r.1)) (parted_from (b == 10) bs)
]

-- how far the input was looked at: what is left to be parted comes behind what was passed
abbrev pub IsPassed : (input : List ℕ) → (at : ℕ) → (fresh : Bool) → Type 0
IsPassed input at fresh = parted input ≡ put_before (take at input) (parted_from fresh (drop at input))

pub passed_none : (input : List ℕ) → IsPassed input 0 true
passed_none input = by (parted_from true input)
  where
    by : (o : Option (List ℕ × List ℕ)) → o ≡ put_before [] o
    by None = refl
    by (Some r) = refl

-- the line stands here
pub found : (input : List ℕ) (at b : ℕ) (rest : List ℕ) (fresh : Bool) → drop at input ≡ b ∷ rest →
    (fresh && same_bytes (take 3 (drop at input)) PARTING) ≡ true → IsPassed input at fresh →
    parted input ≡ Some (take at input, drop (at + 3) input)
found input at b rest fresh front test passed =
    passed
    ∙ ap (λ (xs : List ℕ). put_before (take at input) (parted_from fresh xs)) front
    ∙ ap (λ (t : Bool). put_before (take at input) (by_test t fresh b rest))
    (ap (λ (xs : List ℕ). fresh && same_bytes (take 3 xs) PARTING) (sym front) ∙ test)
    ∙ ap (λ (xs : List ℕ). Some (xs, drop 3 (b ∷ rest))) (append-nil (take at input))
    ∙ ap (λ (xs : List ℕ). Some (take at input, drop 3 xs)) (sym front)
    ∙ ap (λ (xs : List ℕ). Some (take at input, xs)) (drop-drop 3 at input)

-- it doesn't
pub passed_more : (input : List ℕ) (at b : ℕ) (rest : List ℕ) (fresh : Bool) → drop at input ≡ b ∷ rest →
    take (at + 1) input ≡ take at input ++ b ∷ [] → drop (at + 1) input ≡ rest →
    (fresh && same_bytes (take 3 (drop at input)) PARTING) ≡ false → IsPassed input at fresh →
    IsPassed input (at + 1) (b == 10)
passed_more input at b rest fresh front more next test passed =
    passed
    ∙ ap (λ (xs : List ℕ). put_before (take at input) (parted_from fresh xs)) front
    ∙ ap (λ (t : Bool). put_before (take at input) (by_test t fresh b rest))
    (ap (λ (xs : List ℕ). fresh && same_bytes (take 3 xs) PARTING) (sym front) ∙ test)
    ∙ before_more (take at input) b (parted_from (b == 10) rest)
    ∙ ap (λ (xs : List ℕ). put_before xs (parted_from (b == 10) rest)) (sym more)
    ∙ ap (λ (xs : List ℕ). put_before (take (at + 1) input) (parted_from (b == 10) xs)) (sym next)

-- it stands nowhere
pub passed_all : (input : List ℕ) (at : ℕ) (fresh : Bool) → drop at input ≡ [] → IsPassed input at fresh →
    parted input ≡ None
passed_all input at fresh none passed =
    passed ∙ ap (λ (xs : List ℕ). put_before (take at input) (parted_from fresh xs)) none
