-- A graft that stands after marks stood before them, with the same image.
use Rattle.std.specs.Prelude.{◌≡◌, ℕ, suc, ◌<◌, ◌==◌, Bool, true, false, List, [], ◌∷◌, length}
use Rattle.std.specs.Prelude.{Contains, Option, Some, None, is_some}
use Rattle.std.proofs.Common.{arith, refl, subst, sym, ap, ◌∙◌, inl, inr}
use Rattle.kernel_model.specs.declared.Cause.{Cause}
use Rattle.kernel_model.specs.declared.Held.{Held}
use Rattle.kernel_model.specs.declared.Kind.{Kind}
use Rattle.kernel_model.specs.World.{World, ImageTable}
use Rattle.kernel_model.specs.Objects.{Objects, Accounts, GraftValue}
use Rattle.kernel_model.specs.Charges.{taken_from, charge, charge_by, charge_account, charge_graft, removed, removed_by}
use Rattle.kernel_model.specs.Levels.{Level, Config, Effect, Asked, Charged, Removed, Outcome}
use Rattle.kernel_model.specs.Levels.{drop_innermost, drop_level}
use Rattle.kernel_model.specs.GraftStep.{micro, micro_on}
use Rattle.kernel_model.specs.History.{Mark, Stepped, Fell, Trace, level_ends, effect, effects_on}
use Rattle.kernel_model.specs.History.{owner_among, mark_on, marks_on}
use Rattle.kernel_model.specs.Sound.{ImagesAreLoaded}
use Rattle.kernel_laws.proofs.StoreLemmas.{found_at}
use Rattle.graft_laws.specs.Histories.{IsReplayed}
use Rattle.graft_laws.proofs.StandLemmas.{AllStand}
use Rattle.graft_laws.proofs.MarkLemmas.{stepped_split, fell_split, marks_split, effects_split}
use Rattle.graft_laws.proofs.MarkLemmas.{charged_split, removed_split}
use Rattle.graft_laws.proofs.HistoryReplayLemmas.{mark_replays, marks_stood}
use Rattle.graft_laws.proofs.OuterLemmas.{levels_replay}

-- the grafts of b stand in a, with the same images
abbrev pub ComeFrom : (a b : Accounts) → Type 0
ComeFrom a b =
    (q pt : ℕ) (g : GraftValue) → b.graft q pt ≡ Some g →
    (h : GraftValue) × (a.graft q pt ≡ Some h) × (h.image ≡ g.image)

pub come_self : (a : Accounts) → ComeFrom a a
come_self a = λ q pt g e. (g, e, refl)

pub come_then : (a b c : Accounts) → ComeFrom a b → ComeFrom b c → ComeFrom a c
come_then a b c h k = λ q pt g e. let x = k q pt g e in let y = h q pt x.0 x.1 in (y.0, y.1, y.2 ∙ x.2)

-- their images are loaded
pub images_from : (images : ImageTable) (a b : Accounts) → ComeFrom a b → ImagesAreLoaded images a →
    ImagesAreLoaded images b
images_from images a b h loaded =
    λ q pt g e. let x = h q pt g e in
    subst (λ i. is_some (images i) ≡ true) x.2 (loaded q pt x.0 x.1)

some_is : (x y : GraftValue) → Some x ≡ Some y → x ≡ y
some_is x y e = cc

charged_come : (k : Kind) (q pt : ℕ) (a : Accounts) → ComeFrom a (charge k q pt a)
charged_come k q pt a = come_by (a.graft q pt) refl
  where
    come_if : (billed : Bool) (g : GraftValue) → a.graft q pt ≡ Some g →
        ComeFrom a (elim billed as (λ _. Accounts) [ true ↦ charge_account k q a | false ↦ charge_graft k q pt g a ])
    come_if true g e = λ r pu x f. (x, f, refl)
    come_if false g e = λ r pu x f. elim (found_at q pt r pu (Some (taken_from k g)) a.graft) [
      | inl here ↦ (
        g,
        ap (λ i. a.graft i pu) here.0 ∙ ap (λ i. a.graft q i) here.1 ∙ e,
        ap (λ (y : GraftValue). y.image) (some_is (taken_from k g) x (sym here.2 ∙ f)),
      )
      | inr other ↦ (x, sym other ∙ f, refl)
    ]

    come_by : (g : Option GraftValue) → a.graft q pt ≡ g → ComeFrom a (charge_by k q pt g a)
    come_by None e = λ r pu x f. (x, f, refl)
    come_by (Some g) e = come_if g.billed g e

pub removed_come : (q pt : ℕ) (a : Accounts) → ComeFrom a (removed q pt a)
removed_come q pt a = come_by (a.graft q pt)
  where
    none_some : (x : GraftValue) → None ≡ Some x → ⊥
    none_some x e = cc

    come_by : (g : Option GraftValue) → ComeFrom a (removed_by q pt g a)
    come_by None = λ r pu x f. (x, f, refl)
    come_by (Some g) =
        λ r pu x f. elim (found_at q pt r pu None a.graft) [
          | inl here ↦ absurd (none_some x (sym here.2 ∙ f))
          | inr other ↦ (x, sym other ∙ f, refl)
        ]

effect_come : (q : ℕ) (e : Effect) (c d : Config) → effect q e c ≡ Some d → ComeFrom c.now.accounts d.now.accounts
effect_come q (Asked pt) c d h =
    subst (λ (x : Config). ComeFrom c.now.accounts x.now.accounts) (config_is _ d h)
    (come_self c.now.accounts)
  where
    config_is : (x y : Config) → Some x ≡ Some y → x ≡ y
    config_is x y e = cc
effect_come q (Charged pt k) c d h =
    subst (λ (x : Config). ComeFrom c.now.accounts x.now.accounts)
    (charged_split q pt k c d h).2 (charged_come k q pt c.now.accounts)
effect_come q (Removed pt) c d h =
    subst (λ (x : Config). ComeFrom c.now.accounts x.now.accounts)
    (removed_split q pt c d h).1 (removed_come q pt c.now.accounts)

effects_come : (q : ℕ) (es : List Effect) (c d : Config) → effects_on q es c ≡ Some d →
    ComeFrom c.now.accounts d.now.accounts
effects_come q [] c d h =
    subst (λ (x : Config). ComeFrom c.now.accounts x.now.accounts) (config_is c d h)
    (come_self c.now.accounts)
  where
    config_is : (x y : Config) → Some x ≡ Some y → x ≡ y
    config_is x y e = cc
effects_come q (e ∷ es) c d h =
    let s = effects_split q e es c d h in
    come_then c.now.accounts s.0.now.accounts d.now.accounts (effect_come q e c s.0 s.1) (effects_come q es s.0 d s.2)

-- ---- instructions and drops

module _ (v : World) (images : ImageTable) (p : ℕ) (s : Objects) where
  -- the effects of an instruction tell what becomes of grafts, also from levels of which the outer one holds all
  pub micro_come : (w : Objects) (ls : List Level) →
      IsReplayed v s (record { now = w; levels = ls }) →
      ComeFrom w.accounts (micro_on v images p w ls).config.now.accounts
  micro_come w [] h = come_self w.accounts
  micro_come w (l ∷ ls) h =
      let first : Contains (l ∷ ls) l = (0, below_suc (length ls), refl) in
      let r = levels_replay v images p w l ls (h.sound.grafts l first) in
      let o = micro_on v images p w (l ∷ ls) in
      let k = record l { touched = λ x. Held.Exclusive } in
      effects_come l.owner o.effects (record { now = w; levels = l ∷ k ∷ [] }) (record {
        now = record { accounts = o.config.now.accounts; things = w.things };
        levels = _;
      })
      (r.effects w.things l k [] refl)
    where
      below_suc : (n : ℕ) → 0 < suc n
      below_suc n = omega arith

  pub mark_come : (k : Mark) (t z : Trace) → mark_on v images p k t ≡ Some z →
      IsReplayed v s t.config → ComeFrom t.config.now.accounts z.config.now.accounts
  mark_come Stepped t z e h =
      let f = stepped_split t (micro v images p t.config) z e in
      subst (λ (x : Trace). ComeFrom t.config.now.accounts x.config.now.accounts) f.1
      (micro_come t.config.now t.config.levels h)
  mark_come (Fell es) t z e h =
      let f = fell_split v images p es t z e in
      let r = micro v images p t.config in
      subst (λ (x : Trace). ComeFrom t.config.now.accounts x.config.now.accounts) f.result
      (come_then t.config.now.accounts r.config.now.accounts (level_ends v f.config.now
      f.config.levels).now.accounts (micro_come t.config.now t.config.levels h)
      (subst (ComeFrom r.config.now.accounts) (ends_same f.config.now f.config.levels)
      (effects_come (owner_among r.config.levels) es r.config f.config f.effects)))
    where
      ends_same : (w : Objects) (ls : List Level) → w.accounts ≡ (level_ends v w ls).now.accounts
      ends_same w [] = refl
      ends_same w (l ∷ ls) = refl

  pub marks_come : (ks : List Mark) (t z : Trace) → marks_on v images p ks t ≡ Some z →
      IsReplayed v s t.config → AllStand z.config.now.accounts z.config.levels →
      ComeFrom t.config.now.accounts z.config.now.accounts
  marks_come [] t z e h stand =
      subst (λ (x : Trace). ComeFrom t.config.now.accounts x.config.now.accounts) (is_it t z e)
      (come_self t.config.now.accounts)
    where
      is_it : (t z : Trace) → Some t ≡ Some z → t ≡ z
      is_it t z h = cc
  marks_come (k ∷ ks) t z e h stand =
      let f = marks_split v images p k ks t z e in
      come_then t.config.now.accounts f.0.config.now.accounts z.config.now.accounts (mark_come k t f.0 f.1 h)
      (marks_come ks f.0 z f.2 (mark_replays v images p s k t f.0 f.1 h
      (marks_stood v images p ks f.0 z f.2 stand)) stand)

pub drop_come : (v : World) (w : Objects) (ls : List Level) (n : ℕ) (cause : Cause) →
    ComeFrom w.accounts (drop_level v w ls n cause).config.now.accounts
drop_come v w [] n cause = come_self w.accounts
drop_come v w (l ∷ ls) n cause = come_by (length ls == n) (drop_come v w ls n cause)
  where
    come_by : (b : Bool) → ComeFrom w.accounts (drop_level v w ls n cause).config.now.accounts →
        ComeFrom w.accounts (elim b as (λ _. Outcome) [
          | true ↦ drop_innermost v w l ls cause
          | false ↦ drop_level v w ls n cause
        ]).config.now.accounts
    come_by true rest = removed_come l.owner l.point w.accounts
    come_by false rest = rest
