-- What `retain` leaves, where no call changes the test.
use Rattle.std.proofs.Common.{◌≡◌, Bool, true, false, cond, List, [], ◌∷◌, filter, length, refl, ap, ◌∙◌, subst, arith}
use Rattle.std.specs.List.{items_where_true}
use Rattle.std.specs.List.Retain.{IsFiltered, ReturnsInTurn}

module _ {X P : Type 0} (R : P → X → Bool → P → Type 0) (test : X → Bool) (f : P) where
  -- what the test says of an element, and that it stays as it is
  abbrev pub Tells : Type 0
  Tells = (x : X) (b : Bool) (g : P) → R f x b g → (b ≡ test x) × (g ≡ f)

  -- one element before those that are left
  one_more : (b : Bool) (x : X) (bs : List Bool) (xs ys : List X) → items_where_true bs xs ≡ ys →
      items_where_true (b ∷ bs) (x ∷ xs) ≡ cond b (x ∷ ys) ys
  one_more true x bs xs ys e = ap (λ (zs : List X). x ∷ zs) e
  one_more false x bs xs ys e = e

  picked : Tells → (bs : List Bool) (xs : List X) (q : P) → length bs ≡ length xs →
      ReturnsInTurn R f bs xs q → items_where_true bs xs ≡ filter test xs
  picked says [] [] q size turns = refl
  picked says [] (x ∷ xs) q size turns = absurd (omega (arith, size))
  picked says (b ∷ bs) [] q size turns = absurd turns
  picked says (b ∷ bs) (x ∷ xs) q size turns =
      let said = says x b turns.0 turns.1 in
      let later = subst (λ g. ReturnsInTurn R g bs xs q) said.1 turns.2 in
      one_more b x bs xs (filter test xs) (picked says bs xs q (omega (arith, size)) later)
      ∙ ap (λ (c : Bool). cond c (x ∷ filter test xs) (filter test xs)) said.0

  -- it leaves the elements that pass the test
  pub kept_by : Tells → (xs ys : List X) → IsFiltered R f xs ys → ys ≡ filter test xs
  kept_by says xs ys h = h.4 ∙ picked says h.0 xs h.1 h.2 h.3
