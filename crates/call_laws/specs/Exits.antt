-- What an exit needs and what it does to grafts and accounts, one object at a time.
use Rattle.std.specs.Prelude.{◌≡◌, ℕ, zero, suc, ◌+◌, ◌<◌, ◌≤◌, ◌==◌, true, false, List, [], ◌∷◌, map, Option, None}
use Rattle.std.specs.List.{range_with_len}
use Rattle.std.proofs.Common.{arith, refl, ap, ◌∙◌, inl, inr}
use Rattle.std.proofs.lemmas.Bool.{or_right, or_left, cases_eq}
use Rattle.std.proofs.lemmas.Bool.Decides.{nat_tests}
use Rattle.kernel_model.specs.declared.Need.{Need}
use Rattle.kernel_model.specs.declared.Object.{Object}
use Rattle.kernel_model.specs.declared.Object.TheVariants.{Graft, OpenFile, Lock}
use Rattle.kernel_model.specs.Objects.{Accounts, GraftValue, same_object}
use Rattle.kernel_model.specs.SameObject.{same_object_self}
use Rattle.kernel_model.specs.Charges.{removed, removed_by}
use Rattle.kernel_model.specs.Needs.{exclusive, exit_needs}
use Rattle.kernel_model.specs.Pieces.{without_grafts}
use Rattle.kernel_model.specs.Alike.{is_needed, is_needed_exclusively}

-- an object of a numbered family is among its members
pub in_family : (f : ℕ → Object) (n a k : ℕ) → a ≤ k → k < a + n →
    is_needed_exclusively (f k) (map (λ i. exclusive (f i)) (range_with_len a n)) ≡ true
in_family f zero a k low high = absurd (omega arith)
in_family f (suc n) a k low high =
    elim (cases_eq a k) [
      | inl e ↦ or_left _ _ (ap (λ i. same_object (f k) (f i)) e ∙ same_object_self (f k))
      | inr ne ↦ or_right _ _ (in_family f n (a + 1) k (omega arith) (omega arith))
    ]

-- what is needed exclusively is needed
pub needed_from_exclusively : (o : Object) (ns : List Need) → is_needed_exclusively o ns ≡ true →
    is_needed o ns ≡ true
needed_from_exclusively o [] h = h
needed_from_exclusively o (n ∷ ns) h = grind (arith, needed_from_exclusively o ns)

-- a graft of another process than the one whose graft is taken out stays
removed_graft_of_another : (p n q pt : ℕ) (g : Option GraftValue) (a : Accounts) →
    (q == p) ≡ false → (removed_by p n g a).graft q pt ≡ a.graft q pt
removed_graft_of_another p n q pt g a h = grind (arith, nat_tests)

-- and so does the account
removed_account_of_another : (p n q : ℕ) (g : Option GraftValue) (a : Accounts) → (q == p) ≡ false →
    (removed_by p n g a).acct q ≡ a.acct q
removed_account_of_another p n q g a h = grind (arith, nat_tests)

-- the grafts of other processes stay
pub graft_of_another : (p n q pt : ℕ) (a : Accounts) → (q == p) ≡ false →
    (without_grafts p n a).graft q pt ≡ a.graft q pt
graft_of_another p zero q pt a h = refl
graft_of_another p (suc n) q pt a h =
    graft_of_another p n q pt (removed p n a) h
    ∙ removed_graft_of_another p n q pt (a.graft p n) a h

-- the accounts of other processes stay while the grafts are taken out
pub account_of_another : (p n q : ℕ) (a : Accounts) → (q == p) ≡ false →
    (without_grafts p n a).acct q ≡ a.acct q
account_of_another p zero q a h = refl
account_of_another p (suc n) q a h =
    account_of_another p n q (removed p n a) h ∙ removed_account_of_another p n q (a.graft p n) a h

-- where a graft stands that isn't taken out, it stays
removed_graft_elsewhere : (p n q pt : ℕ) (g : Option GraftValue) (a : Accounts) →
    (pt == n) ≡ false → (removed_by p n g a).graft q pt ≡ a.graft q pt
removed_graft_elsewhere p n q pt g a h = grind (arith, nat_tests)

-- no graft stands at a point where it was taken out
removed_here_by : (p n : ℕ) (g : Option GraftValue) (a : Accounts) → a.graft p n ≡ g →
    (removed_by p n g a).graft p n ≡ None
removed_here_by p n g a h = grind (arith, nat_tests)

-- no graft stands at a point where it was taken out
removed_graft_here : (p n : ℕ) (a : Accounts) → (removed p n a).graft p n ≡ None
removed_graft_here p n a = removed_here_by p n (a.graft p n) a refl

-- grafts that aren't among the first n points stay
pub graft_above : (p n q pt : ℕ) (a : Accounts) → n ≤ pt →
    (without_grafts p n a).graft q pt ≡ a.graft q pt
graft_above p zero q pt a h = refl
graft_above p (suc n) q pt a h =
    graft_above p n q pt (removed p n a) (omega arith)
    ∙ removed_graft_elsewhere p n q pt (a.graft p n) a (grind (arith, nat_tests))

-- no graft of the process stands at the first n points
pub graft_taken : (p n pt : ℕ) (a : Accounts) → pt < n → (without_grafts p n a).graft p pt ≡ None
graft_taken p zero pt a h = absurd (omega arith)
graft_taken p (suc n) pt a h = elim (cases_eq pt n) [
  | inl e ↦ graft_above p n p pt (removed p n a) (omega arith)
      ∙ ap (λ i. (removed p n a).graft p i) e ∙ removed_graft_here p n a
  | inr ne ↦ graft_taken p n pt (removed p n a) (omega arith)
]

-- an exit needs the grafts of the process
pub needs_graft : (p pt : ℕ) → pt < 16 → is_needed_exclusively (Graft p pt) (exit_needs p) ≡ true
unfolding same_object
needs_graft p pt h = in_family (λ i. Graft p i) 16 0 pt (omega arith) (omega arith)

-- its open files
pub needs_file : (p fd : ℕ) → fd < 4 → is_needed_exclusively (OpenFile p fd) (exit_needs p) ≡ true
unfolding same_object
needs_file p fd h = in_family (λ i. OpenFile p i) 4 0 fd (omega arith) (omega arith)

-- its cells
pub needs_cell : (p k : ℕ) → k < 4 → is_needed_exclusively (Object.Cell p k) (exit_needs p) ≡ true
unfolding same_object
needs_cell p k h = in_family (λ i. Object.Cell p i) 4 0 k (omega arith) (omega arith)

-- and the user locks
pub needs_lock : (p u : ℕ) → u < 16 → is_needed_exclusively (Lock u) (exit_needs p) ≡ true
unfolding same_object
needs_lock p u h = in_family (λ i. Lock i) 16 0 u (omega arith) (omega arith)
