-- What effects that are made again change: accounts and grafts that level 0 holds, and what level 0 holds.
use Rattle.std.specs.Prelude.{◌≡◌, ℕ, true, false, List, [], ◌∷◌, Some, is_some, ⊤}
use Rattle.std.proofs.Common.{◌⊎◌, refl, subst, sym, ◌∙◌, inl, inr}
use Rattle.std.proofs.lemmas.Bool.{and_parts}
use Rattle.kernel_model.specs.declared.Held.{Held}
use Rattle.kernel_model.specs.declared.Object.{Object}
use Rattle.kernel_model.specs.declared.Object.TheVariants.{Graft, Acct, Cell, OpenFile, Queue, Cache, Lock, Pol}
use Rattle.kernel_model.specs.World.{World}
use Rattle.kernel_model.specs.Objects.{Objects, Accounts, Things, SameAt, with_accounts, same_object}
use Rattle.kernel_model.specs.SameObject.{same_object_is}
use Rattle.kernel_model.specs.Charges.{charge}
use Rattle.kernel_model.specs.Charges.{removed}
use Rattle.kernel_model.specs.Locks.{is_held}
use Rattle.kernel_model.specs.Levels.{Level, Config, Effect, Asked, Charged, Removed}
use Rattle.kernel_model.specs.Levels.{touch_outermost, outermost_touched}
use Rattle.kernel_model.specs.History.{effect, effects_on}
use Rattle.kernel_model.specs.InPlace.{is_changed_in}
use Rattle.kernel_model.specs.Sound.{IsSoundStore}
use Rattle.kernel_model.specs.Alike.{is_held_in}
use Rattle.kernel_laws.proofs.StoreLemmas.{charge_store, removed_store}
use Rattle.kernel_laws.proofs.LevelLemmas.{KeepOn, keep_self, keep_touch, keep_then, outer_changed}
use Rattle.graft_laws.proofs.PointLemmas.{or_right, or_left}
use Rattle.graft_laws.proofs.HoldLemmas.{touch_outermost_from, touch_outermost_changed}
use Rattle.graft_laws.proofs.HoldLemmas.{touch_outermost_outer}
use Rattle.graft_laws.proofs.GrownLemmas.{AreGrown, grown_self, grown_then, grown_touch}
use Rattle.graft_laws.proofs.GrownLemmas.{grown_changed, grown_outermost, grown_unchanged}
use Rattle.graft_laws.proofs.TurnParts.{StandsFrom, charged_stood, removed_stood}
use Rattle.graft_laws.proofs.MarkLemmas.{effects_split, charged_split, removed_split}
use Rattle.kernel_laws.proofs.FrameLemmas.{same_then, DifferAt, differ_frame}
use Rattle.kernel_laws.proofs.FrameLemmas.{charge_differs, remove_differs, other_than}
use Rattle.call_laws.specs.FileChanges.{same_self}

-- ---- the same value

pub same_back : (o : Object) (x y : Objects) → SameAt o x y → SameAt o y x
same_back (Graft q pt) x y h = (sym h.0, sym h.1)
same_back (Acct q) x y h = sym h
same_back (Cell q i) x y h = sym h
same_back (OpenFile q fd) x y h = sym h
same_back Queue x y h = (sym h.0, sym h.1)
same_back Cache x y h = sym h
same_back (Lock u) x y h = sym h
same_back (Pol i) x y h = sym h

-- ---- accounts that differ in a graft and its installer's account alone

-- ---- what effects change

-- level 0 holds exclusively each graft that is held
abbrev pub HoldsGrafts : List Level → Type 0
HoldsGrafts ls = (q pt : ℕ) → is_held_in ls (Graft q pt) ≡ true → outermost_touched ls (Graft q pt) ≡ Held.Exclusive

-- a graft, or another object
abbrev pub IsGraft : Object → Type 0
IsGraft (Graft q pt) = ⊤
IsGraft o = ⊥

-- The state and the levels outside the innermost one, before effects (w, ks) and after them (x, js).
pub record Affected (v : World) (w x : Objects) (ks js : List Level) : Type 0 where
  pub grown : AreGrown js ks
  pub keep : KeepOn js ks
  pub things : x.things ≡ w.things
  pub stands : StandsFrom w.accounts x.accounts
  pub frame : (o : Object) → is_changed_in js o ≡ false → SameAt o x w
  pub grafts : HoldsGrafts js
  pub held : (o : Object) → is_held_in js o ≡ true → (is_held_in ks o ≡ true) ⊎ IsGraft o
  pub changed : (o : Object) → is_changed_in js o ≡ true → (is_changed_in ks o ≡ true) ⊎ IsGraft o
  pub sounds : (y : Things) → IsSoundStore v (record { accounts = w.accounts; things = y }) →
      IsSoundStore v (record { accounts = x.accounts; things = y })

affected_then : (v : World) (w x y : Objects) (ks js is : List Level) → Affected v w x ks js →
    Affected v x y js is → Affected v w y ks is
affected_then v w x y ks js is h k =
    record {
      grown = grown_then is js ks k.grown h.grown;
      keep = keep_then is js ks k.keep h.keep;
      things = k.things ∙ h.things;
      stands = λ q pt e. h.stands q pt (k.stands q pt e);
      frame = λ o e. same_then o y x w (k.frame o e) (h.frame o (grown_unchanged is js o k.grown e));
      grafts = k.grafts;
      held = λ o e. elim (k.held o e) [ inl before ↦ h.held o before | inr graft ↦ inr graft ];
      changed = λ o e. elim (k.changed o e) [ inl before ↦ h.changed o before | inr graft ↦ inr graft ];
      sounds = λ z e. k.sounds z (h.sounds z e);
    }

-- what level 0 holds is held
pub outer_held : (ls : List Level) (o : Object) → is_held (outermost_touched ls o) ≡ true → is_held_in ls o ≡ true
outer_held [] o h = absurd cc
outer_held (l ∷ []) o h = or_left (is_held (l.touched o)) false h
outer_held (l ∷ k ∷ ls) o h = or_right (is_held (l.touched o)) (is_held_in (k ∷ ls) o) (outer_held (k ∷ ls) o h)

-- an object that passes as a graft
graft_of : (o : Object) (q pt : ℕ) → same_object o (Graft q pt) ≡ true → IsGraft o
graft_of o q pt h = subst IsGraft (sym (same_object_is o (Graft q pt) h)) tt

-- accounts that differ in a graft that is held, and in its installer's account, which is held exclusively
accounts_affected : (v : World) (w : Objects) (a : Accounts) (q pt : ℕ) (k : Level)
    (ks : List Level) → DifferAt q pt a w.accounts → StandsFrom w.accounts a →
    HoldsGrafts (k ∷ ks) → is_changed_in (k ∷ ks) (Acct q) ≡ true →
    is_held (outermost_touched (k ∷ ks) (Graft q pt)) ≡ true →
    ((y : Things) → IsSoundStore v (record { accounts = w.accounts; things = y }) →
    IsSoundStore v (record { accounts = a; things = y })) →
    Affected v w (with_accounts a w) (k ∷ ks) (k ∷ ks)
accounts_affected v w a q pt k ks differ stands grafts acct found sounds =
    record {
      grown = grown_self (k ∷ ks);
      keep = keep_self (k ∷ ks);
      things = refl;
      stands = stands;
      frame = λ o e. differ_frame q pt a w.accounts w.things o differ
          (other_than (k ∷ ks) o (Graft q pt) e (outer_changed (k ∷ ks) (Graft q pt)
          (grafts q pt (outer_held (k ∷ ks) (Graft q pt) found))))
          (other_than (k ∷ ks) o (Acct q) e acct);
      grafts = grafts;
      held = λ o e. inl e;
      changed = λ o e. inl e;
      sounds = sounds;
    }

-- where effects of grafts of q lead, from a state and levels of which the innermost has just begun
pub record LeadsTo (v : World) (w : Objects) (n : Level) (ks : List Level) (d : Config) : Type 0 where
  pub now : Objects
  pub outer : List Level
  pub is : record { now = now; levels = n ∷ outer } ≡ d
  pub affected : Affected v w now ks outer

effect_leads : (v : World) (q : ℕ) (e : Effect) (w : Objects) (n k : Level) (ks : List Level)
    (d : Config) → HoldsGrafts (k ∷ ks) → is_changed_in (k ∷ ks) (Acct q) ≡ true →
    effect q e (record { now = w; levels = n ∷ k ∷ ks }) ≡ Some d → LeadsTo v w n (k ∷ ks) d
effect_leads v q (Asked pt) w n k ks d grafts acct h =
    let js = touch_outermost (Graft q pt) (k ∷ ks) in
    record {
      now = w;
      outer = js;
      is = asked_is (record { now = w; levels = n ∷ js }) d h;
      affected = record {
        grown = grown_touch (Graft q pt) (k ∷ ks);
        keep = keep_touch (Graft q pt) (k ∷ ks);
        things = refl;
        stands = λ r pu e. e;
        frame = λ o e. same_self o w;
        grafts = λ r pu e. elim (touch_outermost_from (Graft q pt) (k ∷ ks) (Graft r pu) e) [
          | inl before ↦ grown_outermost js (k ∷ ks) (Graft r pu)
              (grown_touch (Graft q pt) (k ∷ ks)) (grafts r pu before)
          | inr same ↦ subst (λ o. outermost_touched js o ≡ Held.Exclusive)
              (sym (same_object_is (Graft r pu) (Graft q pt) same))
              (touch_outermost_outer (Graft q pt) k ks)
        ];
        held =
            λ o e. elim (touch_outermost_from (Graft q pt) (k ∷ ks) o e) [
              | inl before ↦ inl before
              | inr same ↦ inr (graft_of o q pt same)
            ];
        changed =
            λ o e. elim (touch_outermost_changed (Graft q pt) (k ∷ ks) o e) [
              | inl before ↦ inl before
              | inr same ↦ inr (graft_of o q pt same)
            ];
        sounds = λ y e. e;
      };
    }
  where
    asked_is : (c d : Config) → Some c ≡ Some d → c ≡ d
    asked_is c d h = cc
effect_leads v q (Charged pt kind) w n k ks d grafts acct h =
    let s = charged_split q pt kind (record { now = w; levels = n ∷ k ∷ ks }) d h in
    let found = and_parts (is_some (w.accounts.graft q pt)) (is_held (outermost_touched (k ∷ ks) (Graft q pt))) s.0 in
    record {
      now = with_accounts (charge kind q pt w.accounts) w;
      outer = k ∷ ks;
      is = s.2;
      affected =
          accounts_affected v w (charge kind q pt w.accounts) q pt k ks (charge_differs kind q pt
          w.accounts) (charged_stood kind q pt w.accounts) grafts acct found.1
          (λ y e. charge_store v (record { accounts = w.accounts; things = y }) q pt kind e s.1);
    }
effect_leads v q (Removed pt) w n k ks d grafts acct h =
    let s = removed_split q pt (record { now = w; levels = n ∷ k ∷ ks }) d h in
    let found = and_parts (is_some (w.accounts.graft q pt)) (is_held (outermost_touched (k ∷ ks) (Graft q pt))) s.0 in
    record {
      now = with_accounts (removed q pt w.accounts) w;
      outer = k ∷ ks;
      is = s.1;
      affected =
          accounts_affected v w (removed q pt w.accounts) q pt k ks (remove_differs q pt w.accounts)
          (removed_stood q pt w.accounts) grafts acct found.1
          (λ y e. removed_store v (record { accounts = w.accounts; things = y }) q pt e);
    }

-- effects one after another
pub effects_lead : (v : World) (q : ℕ) (es : List Effect) (w : Objects) (n k : Level)
    (ks : List Level) (d : Config) → HoldsGrafts (k ∷ ks) → is_changed_in (k ∷ ks) (Acct q) ≡ true →
    effects_on q es (record { now = w; levels = n ∷ k ∷ ks }) ≡ Some d → LeadsTo v w n (k ∷ ks) d
effects_lead v q [] w n k ks d grafts acct h =
    record {
      now = w;
      outer = k ∷ ks;
      is = none_is (record { now = w; levels = n ∷ k ∷ ks }) d h;
      affected = record {
        grown = grown_self (k ∷ ks);
        keep = keep_self (k ∷ ks);
        things = refl;
        stands = λ r pu e. e;
        frame = λ o e. same_self o w;
        grafts = grafts;
        held = λ o e. inl e;
        changed = λ o e. inl e;
        sounds = λ y e. e;
      };
    }
  where
    none_is : (c d : Config) → Some c ≡ Some d → c ≡ d
    none_is c d h = cc
effects_lead v q (e ∷ es) w n k ks d grafts acct h =
    let s = effects_split q e es (record { now = w; levels = n ∷ k ∷ ks }) d h in
    let first = effect_leads v q e w n k ks s.0 grafts acct s.1 in
    next first.now first.outer first.affected (subst (λ (c : Config). effects_on q es c ≡ Some d)
    (sym first.is) s.2) (effects_lead v q es)
  where
    next : (x : Objects) (js : List Level) → Affected v w x (k ∷ ks) js →
        effects_on q es (record { now = x; levels = n ∷ js }) ≡ Some d →
        ((w : Objects) (n k : Level) (ks : List Level) (d : Config) → HoldsGrafts (k ∷ ks) →
        is_changed_in (k ∷ ks) (Acct q) ≡ true →
        effects_on q es (record { now = w; levels = n ∷ k ∷ ks }) ≡ Some d →
        LeadsTo v w n (k ∷ ks) d) → LeadsTo v w n (k ∷ ks) d
    next x [] affected h further = absurd affected.grown
    next x (j ∷ js) affected h further =
        let rest = further x n j js d affected.grafts
        (grown_changed (j ∷ js) (k ∷ ks) (Acct q) affected.grown acct) h in
        record {
          now = rest.now;
          outer = rest.outer;
          is = rest.is;
          affected =
              affected_then v w x rest.now (k ∷ ks) (j ∷ js) rest.outer affected rest.affected;
        }
