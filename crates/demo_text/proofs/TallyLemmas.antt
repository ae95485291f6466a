-- What passes a test, among elements and more of them.
use Rattle.std.proofs.Common.{◌≡◌, ◌≤◌, ◌<◌, ◌+◌, ◌++◌, ◌^◌, ℕ, Bool, List, length, filter, not}
use Rattle.std.proofs.Common.{true, false, cond, [], ◌∷◌, suc, take, ap, refl, arith}
use Rattle.std.proofs.Common.{length-append}
use Rattle.std.specs.Prelude.{drop}
use Rattle.script_model.specs.declared.BareNote.{BareNote}
use Rattle.script_model.specs.declared.BareNote.TheVariants as bare
use Rattle.script_model.specs.declared.Note.{Note}
use Rattle.script_model.specs.Bare.{given_count, note_with, notes_with}
use Rattle.script_model.specs.Demo.{is_ended, is_refused, is_dropped}
use Rattle.std.proofs.lemmas.List.Filters.{length-filter_both}
use Rattle.std.proofs.lemmas.List.Elements.{filter-append}

-- no more pass than there are
few_pass : {X : Type 0} (p : X → Bool) (xs : List X) → length (filter p xs) ≤ length xs
few_pass p xs = let both = length-filter_both p (λ x. not (p x)) (λ x. refl) xs in omega (arith, both)

-- a count and what more there is fit a number of 64 bits
pub both_fit : {X : Type 0} (p : X → Bool) (xs ys : List X) (count more : ℕ) →
    count ≡ length (filter p xs) → more ≡ length (filter p ys) →
    length xs + length ys < 2 ^ 64 → count + more < 2 ^ 64
both_fit p xs ys count more count_is more_is few = omega (arith, few_pass p xs, few_pass p ys, count_is, more_is, few)

-- the count of all
pub counts_all : {X : Type 0} (p : X → Bool) (xs ys : List X) (count more : ℕ) →
    count ≡ length (filter p xs) → more ≡ length (filter p ys) →
    count + more ≡ length (filter p (xs ++ ys))
counts_all p xs ys count more count_is more_is =
    rw (filter-append p xs ys, length-append (filter p xs) (filter p ys)) (omega (arith, count_is, more_is))

-- notes have as many rows
pub as_many : (notes : List BareNote) (given : List ℕ) → length (notes_with notes given) ≡ length notes
as_many [] given = refl
as_many (n ∷ notes) given = ap suc (as_many notes (drop (given_count n) given))

-- a test that doesn't look at bytes
pub same_count : (p : Note → Bool) → ((n : BareNote) (given : List ℕ) → p (note_with n given) ≡ p (note_with n [])) →
    (notes : List BareNote) (given : List ℕ) →
    length (filter (λ n. p (note_with n [])) notes) ≡ length (filter p (notes_with notes given))
same_count p blind [] given = refl
same_count p blind (n ∷ notes) given =
    let more = same_count p blind notes (drop (given_count n) given) in
    by_test (p (note_with n [])) (p (note_with n (take (given_count n) given)))
    (blind n (take (given_count n) given)) more
  where
    by_test : (a b : Bool) → b ≡ a → length (filter (λ m. p (note_with m [])) notes)
        ≡ length (filter p (notes_with notes (drop (given_count n) given))) →
        length (cond a (n ∷ filter (λ m. p (note_with m [])) notes) (filter (λ m. p (note_with m [])) notes))
        ≡ length (cond b (note_with n (take (given_count n) given)
        ∷ filter p (notes_with notes (drop (given_count n) given)))
        (filter p (notes_with notes (drop (given_count n) given))))
    by_test true true is h = ap suc h
    by_test false false is h = h
    by_test true false is h = absurd (cc)
    by_test false true is h = absurd (cc)

pub blind_ended : (n : BareNote) (given : List ℕ) → is_ended (note_with n given) ≡ is_ended (note_with n [])
blind_ended (bare.Ended m r) given = refl
blind_ended _ given = refl

pub blind_refused : (n : BareNote) (given : List ℕ) → is_refused (note_with n given) ≡ is_refused (note_with n [])
blind_refused (bare.Refused m r) given = refl
blind_refused _ given = refl

pub blind_dropped : (n : BareNote) (given : List ℕ) → is_dropped (note_with n given) ≡ is_dropped (note_with n [])
blind_dropped (bare.Dropped m q pt why) given = refl
blind_dropped _ given = refl

-- there is room for them
pub few_more : (told : List Note) (notes : List BareNote) → length told + length notes < 2 ^ 64 →
    length told + length (notes_with notes []) < 2 ^ 64
few_more told notes few = let many = as_many notes [] in omega (arith, few, many)
