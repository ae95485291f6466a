-- Grafts that stand in accounts, beside those of other accounts.
use Rattle.std.specs.Prelude.{◌≡◌, ℕ, ◌==◌, ◌&&◌, Bool, true, false, cond, List, [], ◌∷◌, Option}
use Rattle.std.specs.Prelude.{Some, None, is_some, ⊤, ◌⊎◌}
use Rattle.std.proofs.Common.{refl, subst, sym, ap, ◌∙◌, inl, inr}
use Rattle.std.proofs.lemmas.Bool.{cases_Bool, and_parts, eqb-true}
use Rattle.kernel_model.specs.declared.Kind.{Kind}
use Rattle.kernel_model.specs.declared.Mode.{Mode}
use Rattle.kernel_model.specs.declared.Object.TheVariants.{Graft}
use Rattle.kernel_model.specs.Objects.{Accounts, GraftValue, at2}
use Rattle.kernel_model.specs.Charges.{taken_from, charge, charge_by, charge_account, charge_graft, removed, removed_by}
use Rattle.kernel_model.specs.Locks.{Touched, touch, is_held}
use Rattle.kernel_model.specs.Levels.{Effect, Asked, Charged, Removed}
use Rattle.graft_laws.proofs.HistoryEffectLemmas.{touched_by, accounts_by, is_standing, CanBeMade}
use Rattle.graft_laws.proofs.ActLemmas.{HoldsMore, NoneRemoved}
use Rattle.graft_laws.proofs.HoldLemmas.{touch_held}

-- ---- grafts of other accounts

-- a graft that stands is the other, with the same image
abbrev pub GraftFrom : Option GraftValue → Option GraftValue → Type 0
GraftFrom None h = ⊤
GraftFrom (Some g) None = ⊥
GraftFrom (Some g) (Some h) = g.image ≡ h.image

-- the grafts that stand do so in the other accounts
abbrev pub GraftsFrom : Accounts → Accounts → Type 0
GraftsFrom s a = (q pt : ℕ) → GraftFrom (a.graft q pt) (s.graft q pt)

pub graft_self : (x : Option GraftValue) → GraftFrom x x
graft_self None = tt
graft_self (Some g) = refl

pub from_stands : (x y : Option GraftValue) → GraftFrom x y → is_some x ≡ true → is_some y ≡ true
from_stands None y h e = absurd cc
from_stands (Some g) None h e = absurd h
from_stands (Some g) (Some k) h e = refl

-- a changed place
pub from_place : (q pt r pu : ℕ) (x : Option GraftValue) (f s : ℕ → ℕ → Option GraftValue) →
    GraftFrom x (s q pt) → GraftFrom (f r pu) (s r pu) → GraftFrom (at2 q pt x f r pu) (s r pu)
from_place q pt r pu x f s h k = elim (cases_Bool (r == q && pu == pt)) [
  | inl here ↦
      let b = and_parts (r == q) (pu == pt) here in
      subst (λ y. GraftFrom y (s r pu)) (ap (λ b. cond b x (f r pu)) (sym here))
      (subst (λ i. GraftFrom x (s i pu)) (sym (eqb-true r q b.0))
      (subst (λ i. GraftFrom x (s q i)) (sym (eqb-true pu pt b.1)) h))
  | inr other ↦ subst (λ y. GraftFrom y (s r pu)) (ap (λ b. cond b x (f r pu)) (sym other)) k
]

pub taken_from_same : (k : Kind) (g : GraftValue) (y : Option GraftValue) → GraftFrom (Some g) y →
    GraftFrom (Some (taken_from k g)) y
taken_from_same k g None h = h
taken_from_same k g (Some x) h = h

pub charge_from : (s a : Accounts) (q pt : ℕ) (k : Kind) → GraftsFrom s a → GraftsFrom s (charge k q pt a)
charge_from s a q pt k h r pu = from_by (a.graft q pt) refl
  where
    from_if : (billed : Bool) (g : GraftValue) → a.graft q pt ≡ Some g →
        GraftFrom ((elim billed as (λ _. Accounts) [
          | true ↦ charge_account k q a
          | false ↦ charge_graft k q pt g a
        ]).graft r pu) (s.graft r pu)
    from_if true g e = h r pu
    from_if false g e =
        from_place q pt r pu (Some (taken_from k g)) a.graft s.graft (taken_from_same k g
        (s.graft q pt) (subst (λ x. GraftFrom x (s.graft q pt)) e (h q pt))) (h r pu)

    from_by : (g : Option GraftValue) → a.graft q pt ≡ g → GraftFrom ((charge_by k q pt g a).graft r pu) (s.graft r pu)
    from_by None e = h r pu
    from_by (Some g) e = from_if g.billed g e

pub removed_from : (s a : Accounts) (q pt : ℕ) → GraftsFrom s a → GraftsFrom s (removed q pt a)
removed_from s a q pt h r pu = from_by (a.graft q pt)
  where
    from_by : (g : Option GraftValue) → GraftFrom ((removed_by q pt g a).graft r pu) (s.graft r pu)
    from_by None = h r pu
    from_by (Some g) = from_place q pt r pu None a.graft s.graft tt (h r pu)

pub effects_from : (s : Accounts) (q : ℕ) (es : List Effect) (a : Accounts) → GraftsFrom s a →
    GraftsFrom s (accounts_by q es a)
effects_from s q [] a h = h
effects_from s q (Asked pt ∷ es) a h = effects_from s q es a h
effects_from s q (Charged pt k ∷ es) a h = effects_from s q es (charge k q pt a) (charge_from s a q pt k h)
effects_from s q (Removed pt ∷ es) a h = effects_from s q es (removed q pt a) (removed_from s a q pt h)

-- ---- grafts that stand as before

abbrev pub StandSame : Accounts → Accounts → Type 0
StandSame a b = (q pt : ℕ) → is_some (a.graft q pt) ≡ is_some (b.graft q pt)

pub same_place : (q pt r pu : ℕ) (x : Option GraftValue) (f : ℕ → ℕ → Option GraftValue) →
    is_some x ≡ is_some (f q pt) → is_some (at2 q pt x f r pu) ≡ is_some (f r pu)
same_place q pt r pu x f h = elim (cases_Bool (r == q && pu == pt)) [
  | inl here ↦
      let b = and_parts (r == q) (pu == pt) here in
      ap (λ b. is_some (cond b x (f r pu))) here ∙ h
      ∙ ap (λ i. is_some (f i pt)) (sym (eqb-true r q b.0))
      ∙ ap (λ i. is_some (f r i)) (sym (eqb-true pu pt b.1))
  | inr other ↦ ap (λ b. is_some (cond b x (f r pu))) other
]

pub charge_same : (a : Accounts) (q pt : ℕ) (k : Kind) → StandSame (charge k q pt a) a
charge_same a q pt k r pu = same_by (a.graft q pt) refl
  where
    same_if : (billed : Bool) (g : GraftValue) → a.graft q pt ≡ Some g →
        is_some ((elim billed as (λ _. Accounts) [
          | true ↦ charge_account k q a
          | false ↦ charge_graft k q pt g a
        ]).graft r pu) ≡ is_some (a.graft r pu)
    same_if true g e = refl
    same_if false g e = same_place q pt r pu (Some (taken_from k g)) a.graft (ap is_some (sym e))

    same_by : (g : Option GraftValue) → a.graft q pt ≡ g →
        is_some ((charge_by k q pt g a).graft r pu) ≡ is_some (a.graft r pu)
    same_by None e = refl
    same_by (Some g) e = same_if g.billed g e

pub none_removed_same : (q : ℕ) (es : List Effect) (a : Accounts) → NoneRemoved es → StandSame (accounts_by q es a) a
none_removed_same q [] a h r pu = refl
none_removed_same q (Asked pt ∷ es) a h r pu = none_removed_same q es a h r pu
none_removed_same q (Charged pt k ∷ es) a h r pu =
    none_removed_same q es (charge k q pt a) h r pu ∙ charge_same a q pt k r pu
none_removed_same q (Removed pt ∷ es) a h r pu = absurd h

-- another graft stands as before one was taken out
pub removed_other : (a : Accounts) (q pt r pu : ℕ) → (r == q && pu == pt) ≡ false →
    is_some ((removed q pt a).graft r pu) ≡ is_some (a.graft r pu)
removed_other a q pt r pu other = other_by (a.graft q pt)
  where
    other_by : (g : Option GraftValue) → is_some ((removed_by q pt g a).graft r pu) ≡ is_some (a.graft r pu)
    other_by None = refl
    other_by (Some g) = ap (λ b. is_some (cond b None (a.graft r pu))) other

-- ---- grafts that level 0 doesn't hold

-- each graft stands as in the other accounts, or is held
abbrev pub AsBeforeOrHeld : Accounts → Accounts → Touched → Type 0
AsBeforeOrHeld s a t =
    (q pt : ℕ) →
    (is_some (a.graft q pt) ≡ is_some (s.graft q pt)) ⊎ (is_held (t (Graft q pt)) ≡ true)

pub before_more : (s a b : Accounts) (t u : Touched) → StandSame b a → HoldsMore u t →
    AsBeforeOrHeld s a t → AsBeforeOrHeld s b u
before_more s a b t u same more h q pt =
    elim (h q pt) [ inl e ↦ inl (same q pt ∙ e) | inr held ↦ inr (more (Graft q pt) held) ]

pub removed_before : (s a : Accounts) (t : Touched) (q pt : ℕ) → is_standing q pt a t ≡ true →
    AsBeforeOrHeld s a t → AsBeforeOrHeld s (removed q pt a) t
removed_before s a t q pt stands h r pu = elim (cases_Bool (r == q && pu == pt)) [
  | inl here ↦
      let b = and_parts (r == q) (pu == pt) here in
      let held = (and_parts (is_some (a.graft q pt)) (is_held (t (Graft q pt))) stands).1 in
      inr (ap (λ i. is_held (t (Graft i pu))) (eqb-true r q b.0)
      ∙ ap (λ i. is_held (t (Graft q i))) (eqb-true pu pt b.1) ∙ held)
  | inr other ↦ elim (h r pu) [ inl e ↦ inl (removed_other a q pt r pu other ∙ e) | inr held ↦ inr held ]
]

pub effects_before : (s : Accounts) (q : ℕ) (es : List Effect) (a : Accounts) (t : Touched) →
    CanBeMade q es a t → AsBeforeOrHeld s a t →
    AsBeforeOrHeld s (accounts_by q es a) (touched_by q es t)
effects_before s q [] a t made h = h
effects_before s q (Asked pt ∷ es) a t made h =
    effects_before s q es a (touch (Graft q pt) Mode.Exclusive t) made
    (before_more s a a t (touch (Graft q pt) Mode.Exclusive t)
    (λ r pu. refl) (λ o e. touch_held (Graft q pt) Mode.Exclusive t o e) h)
effects_before s q (Charged pt k ∷ es) a t made h =
    effects_before s q es (charge k q pt a) t made.1
    (before_more s a (charge k q pt a) t t (charge_same a q pt k) (λ o e. e) h)
effects_before s q (Removed pt ∷ es) a t made h =
    effects_before s q es (removed q pt a) t made.1 (removed_before s a t q pt made.0 h)
