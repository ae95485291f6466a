-- Lists whose values are some of those of another.
use Rattle.std.specs.Prelude.{◌≡◌, List, [], ◌∷◌, ◌++◌}
use Rattle.std.proofs.Common.{refl, subst, inl, inr}
use Rattle.std.proofs.lemmas.List.{append-nil}
use Rattle.session_laws.specs.Served.{AreSomeOf}

-- those of a list are some of a longer one
some_of_more : {A : Type 0} (xs ys : List A) (y : A) → AreSomeOf xs ys → AreSomeOf xs (y ∷ ys)
some_of_more [] ys y h = tt
some_of_more (x ∷ xs) ys y h = inr h

-- a list is some of itself
pub all_are_some : {A : Type 0} (xs : List A) → AreSomeOf xs xs
all_are_some [] = refl
all_are_some (x ∷ xs) = inl (refl, all_are_some xs)

-- without the first
some_without_first : {A : Type 0} (x : A) (xs ys : List A) → AreSomeOf (x ∷ xs) ys → AreSomeOf xs ys
some_without_first x xs [] h = absurd (no h)
  where
    no : x ∷ xs ≡ [] → ⊥
    no h = cc
some_without_first x xs (y ∷ ys) (inl h) = some_of_more xs ys y h.1
some_without_first x xs (y ∷ ys) (inr h) = some_of_more xs ys y (some_without_first x xs ys h)

-- without one
pub some_without : {A : Type 0} (xs : List A) (z : A) (zs ys : List A) → AreSomeOf (xs ++ z ∷ zs) ys →
    AreSomeOf (xs ++ zs) ys
some_without [] z zs ys h = some_without_first z zs ys h
some_without (x ∷ xs) z zs [] h = absurd (no h)
  where
    no : x ∷ (xs ++ z ∷ zs) ≡ [] → ⊥
    no h = cc
some_without (x ∷ xs) z zs (y ∷ ys) (inl h) = inl (h.0, some_without xs z zs ys h.1)
some_without (x ∷ xs) z zs (y ∷ ys) (inr h) = inr (some_without (x ∷ xs) z zs ys h)

-- the front of a list that is some of another
pub front_is_some : {A : Type 0} (xs zs ys : List A) → AreSomeOf (xs ++ zs) ys → AreSomeOf xs ys
front_is_some xs [] ys h = subst (λ us. AreSomeOf us ys) (append-nil xs) h
front_is_some xs (z ∷ zs) ys h = front_is_some xs zs ys (some_without xs z zs ys h)
