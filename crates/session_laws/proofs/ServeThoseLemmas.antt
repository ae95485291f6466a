-- Values by number, and what notes say that a call gave.
use Rattle.std.specs.Prelude.{◌≡◌, ◌≢◌, ℕ, ◌==◌, false, cond, List, [], ◌∷◌, ◌++◌, map, filter}
use Rattle.std.proofs.Common.{refl, ap, ◌∙◌, arith}
use Rattle.std.proofs.lemmas.Bool.Decides.{nat_tests}
use Rattle.std.proofs.lemmas.List.{map-append}
use Rattle.std.proofs.lemmas.List.Concat.{flat_map-append}
use Rattle.std.proofs.lemmas.List.Elements.{filter-append}
use Rattle.script_model.specs.declared.Note.{Note}
use Rattle.script_model.specs.declared.Note.TheVariants.{Gave}
use Rattle.script_model.specs.Meaning.{Answer}
use Rattle.session_laws.specs.Sent.{those, numbered, sent, given, given_by}
use Rattle.session_laws.proofs.AnsweringLemmas.{is_itself}

-- two are apart
other_number : (k n : ℕ) → k ≢ n → (k == n) ≡ false
other_number k n ne = grind (arith, nat_tests)

-- ---- lists one behind the other

pub those_append : {A : Type 0} (n : ℕ) (xs ys : List (ℕ × A)) → those n (xs ++ ys) ≡ those n xs ++ those n ys
those_append n xs ys =
    ap (map (λ x. x.1)) (filter-append (λ x. x.0 == n) xs ys)
    ∙ map-append (λ x. x.1) (filter (λ x. x.0 == n) xs) (filter (λ x. x.0 == n) ys)

pub sent_append : (n : ℕ) (xs ys : List (ℕ × Answer)) → sent n (xs ++ ys) ≡ sent n xs ++ sent n ys
sent_append n xs ys =
    ap (map (λ (a : Answer). a.body)) (those_append n xs ys)
    ∙ map-append (λ (a : Answer). a.body) (those n xs) (those n ys)

pub given_append : (n : ℕ) (xs ys : List Note) → given n (xs ++ ys) ≡ given n xs ++ given n ys
given_append n xs ys = flat_map-append (given_by n) xs ys

-- ---- values that all have one number

-- all are those of that number
pub those_numbered : {A : Type 0} (k n : ℕ) (xs : List A) → k ≡ n → those n (numbered k xs) ≡ xs
those_numbered k n [] e = refl
those_numbered k n (x ∷ xs) e =
    ap (λ b. map (λ y. y.1) (cond b ((k, x) ∷ filter (λ y. y.0 == n) (numbered k xs))
    (filter (λ y. y.0 == n) (numbered k xs))))
    (ap (λ i. i == n) e ∙ is_itself n)
    ∙ ap (λ ys. x ∷ ys) (those_numbered k n xs e)

-- and none of another
pub none_numbered : {A : Type 0} (k n : ℕ) (xs : List A) → k ≢ n → those n (numbered k xs) ≡ []
none_numbered k n [] ne = refl
none_numbered k n (x ∷ xs) ne =
    ap (λ b. map (λ y. y.1) (cond b ((k, x) ∷ filter (λ y. y.0 == n) (numbered k xs))
    (filter (λ y. y.0 == n) (numbered k xs))))
    (other_number k n ne)
    ∙ none_numbered k n xs ne

-- ---- one note of bytes

-- those of this number
pub given_one : (k n : ℕ) (bytes : List ℕ) → k ≡ n → given n (Gave k bytes ∷ []) ≡ bytes ∷ []
given_one k n bytes e =
    ap (λ b. cond b (bytes ∷ []) [] ++ []) (ap (λ i. i == n) e ∙ is_itself n)

-- and of no other
pub given_none : (k n : ℕ) (bytes : List ℕ) → k ≢ n → given n (Gave k bytes ∷ []) ≡ []
given_none k n bytes ne = ap (λ b. cond b (bytes ∷ []) [] ++ []) (other_number k n ne)
