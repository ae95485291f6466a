-- Effects that are made again on two graft calls that are alike.
use Rattle.std.specs.Prelude.{◌≡◌, ℕ, ◌≤◌, ◌==◌, ◌&&◌, not, Bool, true, List, [], ◌∷◌, Option, Some, None, is_some}
use Rattle.std.specs.List.{AllByRecursion}
use Rattle.std.proofs.Common.{arith, refl, subst, sym, ap, ◌∙◌}
use Rattle.std.proofs.lemmas.Bool.{and_parts}
use Rattle.std.proofs.lemmas.Bool.Decides.{nat_tests}
use Rattle.kernel_model.specs.declared.Object.{Object}
use Rattle.kernel_model.specs.declared.Object.TheVariants.{Graft, Acct}
use Rattle.kernel_model.specs.Objects.{Accounts, GraftValue, SameAt}
use Rattle.kernel_model.specs.Charges.{funds, charge, removed}
use Rattle.kernel_model.specs.Locks.{is_held}
use Rattle.kernel_model.specs.Levels.{Level, Config, Effect, Asked, Charged, Removed}
use Rattle.kernel_model.specs.Levels.{touch_outermost, outermost_touched}
use Rattle.kernel_model.specs.History.{is_found, config_if, with_accounts_of, effect, effects_on}
use Rattle.kernel_model.specs.Alike.{LevelsAlike, is_held_in}
use Rattle.graft_laws.proofs.ObjectLemmas.{charge_keeps, remove_keeps, same_thing}
use Rattle.graft_laws.proofs.LevelsAlikeLemmas.{touch_alike}
use Rattle.graft_laws.proofs.GrownLemmas.{grown_held}
use Rattle.graft_laws.proofs.StandLemmas.{AllStand}
use Rattle.graft_laws.proofs.EffectLemmas.{outer_held}
use Rattle.graft_laws.proofs.MarkLemmas.{effects_split, charged_split, removed_split}
use Rattle.graft_laws.proofs.HistoryReplayLemmas.{effects_stood}
use Rattle.graft_laws.proofs.AlikeLemmas.{funds_same}

-- level 0 holds the same
pub outermost_alike : (ls ks : List Level) (o : Object) → LevelsAlike ls ks →
    outermost_touched ls o ≡ outermost_touched ks o
outermost_alike [] [] o h = refl
outermost_alike (l ∷ []) (k ∷ []) o h = ap (λ (m : Level). m.touched o) h.0
outermost_alike (l ∷ m ∷ ls) (k ∷ n ∷ ks) o h = outermost_alike (m ∷ ls) (n ∷ ks) o h.1
outermost_alike [] (k ∷ ks) o h = absurd h
outermost_alike (l ∷ ls) [] o h = absurd h
outermost_alike (l ∷ []) (k ∷ n ∷ ks) o h = absurd h.1
outermost_alike (l ∷ m ∷ ls) (k ∷ []) o h = absurd h.1

-- grafts that stand on one side stand on the other, where the accounts agree on them
pub stand_alike : (a b : Accounts) (ls ks : List Level) → LevelsAlike ls ks → AllStand a ls →
    AllByRecursion (λ (l : Level). a.graft l.owner l.point ≡ b.graft l.owner l.point) ls → AllStand b ks
stand_alike a b [] [] h stand same = tt
stand_alike a b (l ∷ ls) (k ∷ ks) h stand same = (
  sym (ap (λ (m : Level). is_some (b.graft m.owner m.point)) h.0) ∙ ap is_some (sym same.0)
      ∙ stand.0,
  stand_alike a b ls ks h.1 stand.1 same.1,
)
stand_alike a b [] (k ∷ ks) h stand same = absurd h
stand_alike a b (l ∷ ls) [] h stand same = absurd h

-- ---- effects

-- where effects lead from another config: somewhere, to levels that are alike, and the states agree on the same objects
pub record LeadsAlike (P : Object → Type 0) (x : Option Config) (d : Config) : Type 0 where
  pub config : Config
  pub is : x ≡ Some config
  pub levels : LevelsAlike d.levels config.levels
  pub same : (o : Object) → P o → SameAt o d.now config.now

module _ (P : Object → Type 0) (q : ℕ) (payer : P (Acct q)) where
  -- a graft that is found on one side is found on the other
  found_alike : (pt : ℕ) (c e : Config) → LevelsAlike c.levels e.levels →
      c.now.accounts.graft q pt ≡ e.now.accounts.graft q pt → is_found q pt c ≡ true →
      is_found q pt e ≡ true
  found_alike pt c e levels graft found =
      sym (ap (λ (g : Option GraftValue). is_some g && is_held (outermost_touched c.levels (Graft q pt))) graft
      ∙ ap (λ h. is_some (e.now.accounts.graft q pt) && is_held h)
      (outermost_alike c.levels e.levels (Graft q pt) levels)) ∙ found

  -- and is held
  found_held : (pt : ℕ) (c : Config) → is_found q pt c ≡ true → is_held_in c.levels (Graft q pt) ≡ true
  found_held pt c found =
      outer_held c.levels (Graft q pt) (and_parts (is_some (c.now.accounts.graft q pt))
      (is_held (outermost_touched c.levels (Graft q pt))) found).1

  effect_alike : (e : Effect) (c f d : Config) → LevelsAlike c.levels f.levels →
      ((o : Object) → P o → SameAt o c.now f.now) →
      ((o : Object) → is_held_in c.levels o ≡ true → P o) →
      effect q e c ≡ Some d → LeadsAlike P (effect q e f) d
  effect_alike (Asked pt) c f d levels same held h =
      subst (LeadsAlike P (effect q (Asked pt) f))
      (is_it (record c { levels = touch_outermost (Graft q pt) c.levels }) d h)
      (record {
        config = record f { levels = touch_outermost (Graft q pt) f.levels };
        is = refl;
        levels = touch_alike (Graft q pt) c.levels f.levels levels;
        same = same;
      })
    where
      is_it : (x y : Config) → Some x ≡ Some y → x ≡ y
      is_it x y e = cc
  effect_alike (Charged pt k) c f d levels same held h =
      let s = charged_split q pt k c d h in
      let graft = (same (Graft q pt) (held (Graft q pt) (found_held pt c s.0))).0 in
      let acct = same (Acct q) payer in
      let enough = subst (λ n. 1 ≤ n) (funds_same c.now.accounts f.now.accounts q pt k graft acct) s.1 in
      subst (LeadsAlike P (effect q (Charged pt k) f)) s.2
      (record {
        config = with_accounts_of (charge k q pt f.now.accounts) f;
        is = ap (λ b. config_if b (with_accounts_of (charge k q pt f.now.accounts) f))
            (both_true (is_found q pt f) (not (funds f.now.accounts q pt k == 0)) (found_alike pt c
            f levels graft s.0) (some_funds (funds f.now.accounts q pt k) enough));
        levels = levels;
        same = λ o e. charge_keeps k q pt c.now f.now o graft acct (same o e);
      })
    where
      both_true : (a b : Bool) → a ≡ true → b ≡ true → (a && b) ≡ true
      both_true a b e f = ap (λ x. x && b) e ∙ f

      some_funds : (n : ℕ) → 1 ≤ n → not (n == 0) ≡ true
      some_funds n e = grind (arith, nat_tests)
  effect_alike (Removed pt) c f d levels same held h =
      let s = removed_split q pt c d h in
      let graft = (same (Graft q pt) (held (Graft q pt) (found_held pt c s.0))).0 in
      subst (LeadsAlike P (effect q (Removed pt) f)) s.1
      (record {
        config = with_accounts_of (removed q pt f.now.accounts) f;
        is =
            ap (λ b. config_if b (with_accounts_of (removed q pt f.now.accounts) f))
            (found_alike pt c f levels graft s.0);
        levels = levels;
        same =
            λ o e. remove_keeps q pt c.now.accounts f.now.accounts c.now.things
            f.now.things c.now.things f.now.things o graft (same (Acct q) payer) (same o e)
            (same_thing o c.now f.now (same o e));
      })

  pub effects_alike : (es : List Effect) (c f d : Config) →
      LevelsAlike c.levels f.levels → ((o : Object) → P o → SameAt o c.now f.now) →
      ((o : Object) → is_held_in d.levels o ≡ true → P o) →
      effects_on q es c ≡ Some d → LeadsAlike P (effects_on q es f) d
  effects_alike [] c f d levels same held h =
      subst (LeadsAlike P (Some f)) (is_it c d h) (record { config = f; is = refl; levels = levels; same = same })
    where
      is_it : (x y : Config) → Some x ≡ Some y → x ≡ y
      is_it x y e = cc
  effects_alike (e ∷ es) c f d levels same held h =
      let s = effects_split q e es c d h in
      let rest = effects_stood q es s.0 d s.2 in
      let one = effects_stood q (e ∷ []) c s.0 (ap (λ (x : Option Config).
      elim x as (λ _. Option Config) [ None ↦ None | Some u ↦ Some u ]) s.1) in
      let middle = λ (o : Object) (k : is_held_in s.0.levels o ≡ true).
      held o (grown_held d.levels s.0.levels o rest.1 k) in
      let first = effect_alike e c f s.0 levels same (λ o k. middle o (grown_held s.0.levels c.levels o one.1 k)) s.1 in
      let second = effects_alike es s.0 first.config d first.levels first.same held s.2 in
      record {
        config = second.config;
        is =
            ap (λ (x : Option Config). elim x as (λ _. Option Config) [
              | None ↦ None
              | Some u ↦ effects_on q es u
            ]) first.is ∙ second.is;
        levels = second.levels;
        same = second.same;
      }
