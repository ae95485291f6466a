-- What an instruction can make of the levels: they go on, one begins, one answers its asker, or one is gone.
use Rattle.std.specs.Prelude.{◌≡◌, ℕ, ◌||◌, Bool, true, false, List, [], ◌∷◌, length, Option, Some, None, is_some, ⊤}
use Rattle.std.proofs.Common.{◌⊎◌, refl, subst, sym, ap, ◌∙◌, inl, inr}
use Rattle.kernel_model.specs.declared.Held.{Held}
use Rattle.kernel_model.specs.declared.Kind.{Kind}
use Rattle.kernel_model.specs.declared.Micro.{Micro}
use Rattle.kernel_model.specs.declared.Need.{Need}
use Rattle.kernel_model.specs.declared.Object.{Object}
use Rattle.kernel_model.specs.declared.Object.TheVariants.{Graft}
use Rattle.kernel_model.specs.Objects.{Objects, Accounts, Things, GraftValue, with_accounts}
use Rattle.kernel_model.specs.Policies.{kind_of}
use Rattle.kernel_model.specs.Charges.{taken_from, charge, charge_by, charge_account, charge_graft, removed, removed_by}
use Rattle.kernel_model.specs.Locks.{is_held_exclusively, Touched, is_held, untouched, touch_all}
use Rattle.kernel_model.specs.Levels.{Level, Effect, Outcome, is_going_on, goes_on, with_effect, outermost_touched}
use Rattle.kernel_model.specs.InPlace.{is_changed_in}
use Rattle.kernel_model.specs.Alike.{is_needed, is_needed_exclusively, is_held_in}
use Rattle.kernel_laws.proofs.StoreLemmas.{found_at}
use Rattle.kernel_laws.proofs.LevelLemmas.{touch_all_holds}
use Rattle.graft_laws.specs.Alike.{point_objects, AreHeldBy}
use Rattle.graft_laws.proofs.PointLemmas.{or_left, or_right}
use Rattle.graft_laws.proofs.HoldLemmas.{touch_all_held, touch_all_changed}
use Rattle.graft_laws.proofs.GrownLemmas.{HoldsMore, GrowsFrom, AreGrown, grown_self}
use Rattle.call_laws.specs.NeedGrafts.{or_cases}

-- ---- shapes

-- a level that has just begun, which holds nothing and found the things as they are
pub record IsNew (n : Level) (w : Things) : Type 0 where
  pub touched : n.touched ≡ untouched
  pub records : n.records ≡ []
  pub kept : n.kept ≡ w

-- From a level of these holds inside others: what levels there are afterwards, where the things are
-- w and the call goes on or not.
pub data Shape (l : Level) (t : Touched) (ls : List Level) (w : Things) (went : Bool)
    (after : List Level) : Type 0 where
  -- the levels go on
  Goes : went ≡ true → AreGrown after (l ∷ ls) → Shape l t ls w went after
  -- a level begins, which another asked that holds the objects of the point
  Begins : (n : Level) (ks : List Level) → went ≡ true → after ≡ n ∷ ks → AreGrown ks (l ∷ ls) → IsNew n w →
      AreHeldBy ks (point_objects (kind_of n.point) n.owner n.point) → Shape l t ls w went after
  -- the innermost level answers its asker, which then holds what both held
  Joins : (a b : Level) (rest : List Level) → went ≡ true → ls ≡ a ∷ rest → after ≡ b ∷ rest →
      GrowsFrom b a → HoldsMore b.touched t → Shape l t ls w went after
  -- the call ends with an answer
  Ends : went ≡ false → after ≡ [] → Shape l t ls w went after
  -- the innermost level is dropped
  Falls : went ≡ false → AreGrown after ls → Shape l t ls w went after

-- what is held afterwards was held, or is needed
abbrev pub IsHeldFrom : List Need → (before after : List Level) → Type 0
IsHeldFrom ns before after =
    (o : Object) → is_held_in after o ≡ true →
    (is_held_in before o ≡ true) ⊎ (is_needed o ns ≡ true)

-- what is held exclusively afterwards was held so, or is needed so
abbrev pub IsChangedFrom : List Need → (before after : List Level) → Type 0
IsChangedFrom ns before after =
    (o : Object) → is_changed_in after o ≡ true →
    (is_changed_in before o ≡ true) ⊎ (is_needed_exclusively o ns ≡ true)

-- a graft that stands stood before
abbrev pub StandsFrom : (a b : Accounts) → Type 0
StandsFrom a b = (q pt : ℕ) → is_some (b.graft q pt) ≡ true → is_some (a.graft q pt) ≡ true

-- what an instruction ends: all levels by an answer of level 0, or the innermost level by a drop
abbrev pub IsEnded : List Level → Micro → List Level → Type 0
IsEnded ls Micro.Went after = ⊤
IsEnded ls (Micro.Blocked object holder by_user) after = ⊥
IsEnded ls (Micro.Completed answer) after = after ≡ []
IsEnded ls (Micro.Dropped d q pt cause) after = (d ≡ length ls) × AreGrown after ls

-- what an instruction of the innermost level l makes of levels and grafts
pub record Turn (w : Objects) (l : Level) (ls : List Level) (ns : List Need) (o : Outcome) : Type 0 where
  pub shape : Shape l l.touched ls o.config.now.things (is_going_on o.said) o.config.levels
  pub held : IsHeldFrom ns (l ∷ ls) o.config.levels
  pub stands : StandsFrom w.accounts o.config.now.accounts
  pub changed : IsChangedFrom ns (l ∷ ls) o.config.levels
  -- where the call goes on, what it needs is held afterwards, and a graft by level 0 exclusively
  pub gets : is_going_on o.said ≡ true → (a : Object) → is_needed a ns ≡ true → is_held_in o.config.levels a ≡ true
  pub ends : IsEnded ls o.said o.config.levels
  pub outer : is_going_on o.said ≡ true → (q pt : ℕ) → is_needed (Graft q pt) ns ≡ true →
      outermost_touched o.config.levels (Graft q pt) ≡ Held.Exclusive

-- ---- grafts that stand

pub charged_stood : (k : Kind) (q pt : ℕ) (a : Accounts) → StandsFrom a (charge k q pt a)
charged_stood k q pt a = λ r pu h. stood_by (a.graft q pt) refl r pu h
  where
    stood_if : (billed : Bool) (g : GraftValue) → a.graft q pt ≡ Some g →
        StandsFrom a (elim billed as (λ _. Accounts) [ true ↦ charge_account k q a | false ↦ charge_graft k q pt g a ])
    stood_if true g e = λ r pu h. h
    stood_if false g e = λ r pu h. elim (found_at q pt r pu (Some (taken_from k g)) a.graft) [
      | inl here ↦ ap (λ i. is_some (a.graft i pu)) here.0 ∙ ap (λ i. is_some (a.graft q i)) here.1 ∙ ap is_some e
      | inr other ↦ ap is_some (sym other) ∙ h
    ]

    stood_by : (g : Option GraftValue) → a.graft q pt ≡ g → StandsFrom a (charge_by k q pt g a)
    stood_by None e = λ r pu h. h
    stood_by (Some g) e = stood_if g.billed g e

pub removed_stood : (q pt : ℕ) (a : Accounts) → StandsFrom a (removed q pt a)
removed_stood q pt a = λ r pu h. stood_by (a.graft q pt) r pu h
  where
    stood_by : (g : Option GraftValue) → StandsFrom a (removed_by q pt g a)
    stood_by None = λ r pu h. h
    stood_by (Some g) =
        λ r pu h. elim (found_at q pt r pu None a.graft) [
          | inl here ↦ absurd (none_stands ((ap is_some (sym here.2)) ∙ h))
          | inr other ↦ ap is_some (sym other) ∙ h
        ]
      where
        none_stands : false ≡ true → ⊥
        none_stands h = cc

-- ---- turns

pub effect_turn : (e : Effect) (w : Objects) (l : Level) (ls : List Level) (ns : List Need)
    (o : Outcome) → Turn w l ls ns o → Turn w l ls ns (with_effect e o)
effect_turn e w l ls ns o h =
    record {
      shape = h.shape;
      held = h.held;
      stands = h.stands;
      changed = h.changed;
      gets = h.gets;
      outer = h.outer;
      ends = h.ends;
    }

-- after a charge of the innermost level's graft
pub charged_turn : (k : Kind) (w : Objects) (l : Level) (ls : List Level) (ns : List Need) (o : Outcome) →
    Turn (with_accounts (charge k l.owner l.point w.accounts) w) l ls ns o → Turn w l ls ns o
charged_turn k w l ls ns o h =
    record {
      shape = h.shape;
      held = h.held;
      stands = λ q pt e. charged_stood k l.owner l.point w.accounts q pt (h.stands q pt e);
      changed = h.changed;
      gets = h.gets;
      outer = h.outer;
      ends = h.ends;
    }

-- the innermost level goes on
pub goes_turn : (w x : Objects) (l n : Level) (ls : List Level) (ns : List Need) → GrowsFrom n l →
    ((o : Object) → is_held (n.touched o) ≡ true →
    (is_held (l.touched o) ≡ true) ⊎ (is_needed o ns ≡ true)) →
    StandsFrom w.accounts x.accounts →
    ((o : Object) → is_needed o ns ≡ true → is_held (n.touched o) ≡ true) →
    IsChangedFrom ns (l ∷ []) (n ∷ []) → ((q pt : ℕ) → is_needed (Graft q pt) ns ≡ true → ⊥) →
    Turn w l ls ns (goes_on x (n ∷ ls))
goes_turn w x l n ls ns grows from stands gets changed none =
    record {
      shape = Goes refl (grows, grown_self ls);
      held = λ o h. elim (or_cases (is_held (n.touched o)) (is_held_in ls o) h) [
        | inl here ↦ elim (from o here) [
          | inl before ↦ inl (or_left (is_held (l.touched o)) (is_held_in ls o) before)
          | inr needs ↦ inr needs
        ]
        | inr outer ↦ inl (or_right (is_held (l.touched o)) (is_held_in ls o) outer)
      ];
      stands = stands;
      gets = λ e o h. or_left (is_held (n.touched o)) (is_held_in ls o) (gets o h);
      changed = λ o h. elim (or_cases (is_held_exclusively (n.touched o)) (is_changed_in ls o) h) [
        | inl here ↦ elim (changed o (or_left (is_held_exclusively (n.touched o)) false here)) [
          | inl before ↦ inl (or_left (is_held_exclusively (l.touched o)) (is_changed_in ls o)
              (first_changed (l.touched o) before))
          | inr needs ↦ inr needs
        ]
        | inr outer ↦ inl (or_right (is_held_exclusively (l.touched o)) (is_changed_in ls o) outer)
      ];
      outer = λ e q pt h. absurd (none q pt h);
      ends = tt;
    }
  where
    first_changed : (h : Held) → (is_held_exclusively h || false) ≡ true → is_held_exclusively h ≡ true
    first_changed Held.Free e = e
    first_changed Held.Shared e = e
    first_changed Held.Exclusive e = e

-- a call that ended doesn't go on
pub not_going : {A : Type 0} → false ≡ true → A
not_going h = absurd (contrary h)
  where
    contrary : false ≡ true → ⊥
    contrary h = cc

-- a touch of these objects
pub touches : (l n : Level) (ns : List Need) → n.owner ≡ l.owner → n.point ≡ l.point →
    n.args ≡ l.args → n.kept ≡ l.kept → n.touched ≡ touch_all ns l.touched → GrowsFrom n l
touches l n ns owner point args kept touched =
    record {
      owner = owner;
      point = point;
      args = args;
      kept = kept;
      holds =
          subst (λ t. HoldsMore t l.touched) (sym touched) (record {
            held = λ o h. touch_all_held ns l.touched o h;
            exclusive = λ o h. touch_all_holds ns l.touched o h;
          });
    }

-- what is held exclusively after a touch
pub touched_from : (ns : List Need) (l n : Level) (o : Object) →
    n.touched ≡ touch_all ns l.touched → is_changed_in (n ∷ []) o ≡ true →
    (is_changed_in (l ∷ []) o ≡ true) ⊎ (is_needed_exclusively o ns ≡ true)
touched_from ns l n o e h = elim (or_cases (is_held_exclusively (n.touched o)) false h) [
  | inl here ↦ elim (touch_all_changed ns l.touched o
      (ap (λ (t : Touched). is_held_exclusively (t o)) (sym e) ∙ here)) [
        | inl before ↦ inl (or_left (is_held_exclusively (l.touched o)) false before)
        | inr needs ↦ inr needs
      ]
  | inr none ↦ absurd cc
]
