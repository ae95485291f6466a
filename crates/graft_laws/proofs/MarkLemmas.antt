-- What a history that leads somewhere passed.
use Rattle.std.specs.Prelude.{◌≡◌, ℕ, suc, ◌≤◌, ◌==◌, ◌&&◌, not, Bool, true, false, List, ◌∷◌}
use Rattle.std.specs.Prelude.{length, Option, Some, None}
use Rattle.std.proofs.Common.{arith, refl, subst, sym, ap, ◌∙◌}
use Rattle.std.proofs.lemmas.Bool.{and_parts, eqb-true}
use Rattle.std.proofs.lemmas.Bool.Decides.{nat_tests}
use Rattle.kernel_model.specs.declared.Kind.{Kind}
use Rattle.kernel_model.specs.World.{World, ImageTable}
use Rattle.kernel_model.specs.Charges.{funds, charge, removed}
use Rattle.kernel_model.specs.Meaning.{Meaning, Stage}
use Rattle.kernel_model.specs.Objects.{Objects}
use Rattle.kernel_model.specs.Levels.{Config, Effect, Charged, Removed, Outcome, is_going_on}
use Rattle.kernel_model.specs.GraftStep.{micro}
use Rattle.kernel_model.specs.History.{Mark, Fell, Trace, first_trace, trace_after, stepped}
use Rattle.kernel_model.specs.History.{is_found, with_accounts_of, config_if, effect, effects_on}
use Rattle.kernel_model.specs.History.{owner_among, trace_fallen, fallen_if, fell_on, mark_on}
use Rattle.kernel_model.specs.History.{marks_on, begin, replay}

-- ---- instructions and fallen levels

-- an instruction of a history goes on
pub stepped_split : (t : Trace) (r : Outcome) (z : Trace) → stepped t r ≡ Some z →
    (is_going_on r.said ≡ true) × (trace_after t r ≡ z)
stepped_split t r z e = split_by (is_going_on r.said) e
  where
    split_by : (b : Bool) →
        elim b as (λ _. Option Trace) [ true ↦ Some (trace_after t r) | false ↦ None ] ≡ Some z →
        (b ≡ true) × (trace_after t r ≡ z)
    split_by true e = (refl, cc)
    split_by false e = absurd cc

-- a fallen level's ask began a level, its effects could be made, and the trace is that after them
pub record HasFallen (v : World) (t : Trace) (r : Outcome) (es : List Effect) (z : Trace) : Type 0 where
  pub went : is_going_on r.said ≡ true
  pub more : length r.config.levels ≡ suc (length t.config.levels)
  pub config : Config
  pub effects : effects_on (owner_among r.config.levels) es r.config ≡ Some config
  pub result : trace_fallen v es (trace_after t r) config ≡ z

pub fell_split : (v : World) (images : ImageTable) (p : ℕ) (es : List Effect) (t z : Trace) →
    mark_on v images p (Fell es) t ≡ Some z → HasFallen v t (micro v images p t.config) es z
fell_split v images p es t z e = by_step (stepped t (micro v images p t.config)) refl e
  where
    by_effects : is_going_on (micro v images p t.config).said ≡ true →
        length (micro v images p t.config).config.levels ≡ suc (length t.config.levels) →
        (x : Option Config) →
        effects_on (owner_among (micro v images p t.config).config.levels)
        es (micro v images p t.config).config ≡ x →
        fallen_if v es (trace_after t (micro v images p t.config)) x ≡ Some z →
        HasFallen v t (micro v images p t.config) es z
    by_effects went more None f e = absurd cc
    by_effects went more (Some c) f e = record { went = went; more = more; config = c; effects = f; result = cc }

    by_length : is_going_on (micro v images p t.config).said ≡ true → (b : Bool) →
        (length (micro v images p t.config).config.levels == suc (length t.config.levels)) ≡ b →
        elim b as (λ _. Option Trace) [
          | true ↦ fallen_if v es (trace_after t (micro v images p t.config))
              (effects_on (owner_among (micro v images p t.config).config.levels) es
              (micro v images p t.config).config)
          | false ↦ None
        ] ≡ Some z → HasFallen v t (micro v images p t.config) es z
    by_length went true f e =
        by_effects went (eqb-true (length (micro v images p t.config).config.levels) (suc (length t.config.levels)) f)
        (effects_on (owner_among (micro v images p t.config).config.levels) es
        (micro v images p t.config).config) refl e
    by_length went false f e = absurd cc

    by_step : (x : Option Trace) → stepped t (micro v images p t.config) ≡ x →
        elim x as (λ _. Option Trace) [
          | None ↦ None
          | Some u ↦ fell_on v es (length t.config.levels) u
        ] ≡ Some z →
        HasFallen v t (micro v images p t.config) es z
    by_step None f e = absurd cc
    by_step (Some u) f e =
        let s = stepped_split t (micro v images p t.config) u f in
        by_length s.0 (length (micro v images p t.config).config.levels == suc (length t.config.levels)) refl
        (subst (λ (y : Trace). fell_on v es (length t.config.levels) y ≡ Some z) (sym s.1) e)

-- ---- marks one after another

pub marks_split : (v : World) (images : ImageTable) (p : ℕ) (k : Mark) (ks : List Mark)
    (t z : Trace) → marks_on v images p (k ∷ ks) t ≡ Some z →
    (u : Trace) × (mark_on v images p k t ≡ Some u) × (marks_on v images p ks u ≡ Some z)
marks_split v images p k ks t z e = by_mark (mark_on v images p k t) refl e
  where
    by_mark : (x : Option Trace) → mark_on v images p k t ≡ x →
        elim x as (λ _. Option Trace) [ None ↦ None | Some u ↦ marks_on v images p ks u ] ≡ Some z →
        (u : Trace) × (mark_on v images p k t ≡ Some u) × (marks_on v images p ks u ≡ Some z)
    by_mark None f e = absurd cc
    by_mark (Some u) f e = (u, f, e)

-- a replay begins somewhere
pub replay_split : (m : Meaning) (v : World) (images : ImageTable) (s : Objects) (p : ℕ) (t : Stage)
    (ks : List Mark) (z : Trace) → replay m v images s p t ks ≡ Some z →
    (c : Config) × (begin m v images s p t ≡ Some c) × (marks_on v images p ks (first_trace c) ≡ Some z)
replay_split m v images s p t ks z e = by_begin (begin m v images s p t) refl e
  where
    by_begin : (x : Option Config) → begin m v images s p t ≡ x → elim x as (λ _. Option
        Trace) [ None ↦ None | Some c ↦ marks_on v images p ks (first_trace c) ] ≡ Some z →
        (c : Config) × (begin m v images s p t ≡ Some c) × (marks_on v images p ks (first_trace c) ≡ Some z)
    by_begin None f e = absurd cc
    by_begin (Some c) f e = (c, f, e)

-- ---- effects

pub effects_split : (q : ℕ) (e : Effect) (es : List Effect) (c d : Config) →
    effects_on q (e ∷ es) c ≡ Some d →
    (x : Config) × (effect q e c ≡ Some x) × (effects_on q es x ≡ Some d)
effects_split q e es c d h = by_effect (effect q e c) refl h
  where
    by_effect : (x : Option Config) → effect q e c ≡ x →
        elim x as (λ _. Option Config) [ None ↦ None | Some u ↦ effects_on q es u ] ≡ Some d →
        (u : Config) × (effect q e c ≡ Some u) × (effects_on q es u ≡ Some d)
    by_effect None f h = absurd cc
    by_effect (Some u) f h = (u, f, h)

-- a charge that is made again finds its graft, and what pays for it
pub charged_split : (q pt : ℕ) (k : Kind) (c d : Config) → effect q (Charged pt k) c ≡ Some d →
    (is_found q pt c ≡ true) × (1 ≤ funds c.now.accounts q pt k)
    × (with_accounts_of (charge k q pt c.now.accounts) c ≡ d)
charged_split q pt k c d h = by_test (is_found q pt c && not (funds c.now.accounts q pt k == 0)) refl h
  where
    some_funds : (n : ℕ) → not (n == 0) ≡ true → 1 ≤ n
    some_funds n e = grind (arith, nat_tests)

    by_test : (b : Bool) → (is_found q pt c && not (funds c.now.accounts q pt k == 0)) ≡ b →
        config_if b (with_accounts_of (charge k q pt c.now.accounts) c) ≡ Some d →
        (is_found q pt c ≡ true) × (1 ≤ funds c.now.accounts q pt k)
        × (with_accounts_of (charge k q pt c.now.accounts) c ≡ d)
    by_test true e h =
        let both = and_parts (is_found q pt c) (not (funds c.now.accounts q pt k == 0)) e in
        (both.0, some_funds (funds c.now.accounts q pt k) both.1, cc)
    by_test false e h = absurd cc

pub removed_split : (q pt : ℕ) (c d : Config) → effect q (Removed pt) c ≡ Some d →
    (is_found q pt c ≡ true) × (with_accounts_of (removed q pt c.now.accounts) c ≡ d)
removed_split q pt c d h = by_test (is_found q pt c) refl h
  where
    by_test : (b : Bool) → is_found q pt c ≡ b →
        config_if b (with_accounts_of (removed q pt c.now.accounts) c) ≡ Some d →
        (is_found q pt c ≡ true) × (with_accounts_of (removed q pt c.now.accounts) c ≡ d)
    by_test true e h = (e, cc)
    by_test false e h = absurd cc

-- ---- the other way round

pub stepped_join : (t : Trace) (r : Outcome) → is_going_on r.said ≡ true → stepped t r ≡ Some (trace_after t r)
stepped_join t r went = ap (λ b. elim b as (λ _. Option Trace) [ true ↦ Some (trace_after t r) | false ↦ None ]) went

pub fell_join : (v : World) (images : ImageTable) (p : ℕ) (es : List Effect) (t : Trace)
    (c : Config) → is_going_on (micro v images p t.config).said ≡ true →
    length (micro v images p t.config).config.levels ≡ suc (length t.config.levels) →
    effects_on (owner_among (micro v images p t.config).config.levels) es (micro v images p t.config).config ≡ Some c →
    mark_on v images p (Fell es) t ≡ Some (trace_fallen v es (trace_after t (micro v images p t.config)) c)
fell_join v images p es t c went more effects =
    let r = micro v images p t.config in
    ap (λ (x : Option Trace). elim x as (λ _. Option Trace) [
      | None ↦ None
      | Some u ↦ fell_on v es (length t.config.levels) u
    ]) (stepped_join t r went)
    ∙ ap (λ b. elim b as (λ _. Option Trace) [
      | true ↦
          fallen_if v es (trace_after t r) (effects_on (owner_among r.config.levels) es r.config)
      | false ↦ None
    ])
    (same_number (length r.config.levels) (suc (length t.config.levels)) more)
    ∙ ap (fallen_if v es (trace_after t r)) effects
  where
    same_number : (a b : ℕ) → a ≡ b → (a == b) ≡ true
    same_number a b e = grind (arith, nat_tests)

pub marks_join : (v : World) (images : ImageTable) (p : ℕ) (k : Mark) (ks : List Mark)
    (t u : Trace) → mark_on v images p k t ≡ Some u →
    marks_on v images p (k ∷ ks) t ≡ marks_on v images p ks u
marks_join v images p k ks t u e =
    ap (λ (x : Option Trace). elim x as (λ _. Option Trace) [
      | None ↦ None
      | Some z ↦ marks_on v images p ks z
    ]) e

pub replay_join : (m : Meaning) (v : World) (images : ImageTable) (s : Objects) (p : ℕ) (t : Stage)
    (ks : List Mark) (c : Config) → begin m v images s p t ≡ Some c →
    replay m v images s p t ks ≡ marks_on v images p ks (first_trace c)
replay_join m v images s p t ks c e =
    ap (λ (x : Option Config). elim x as (λ _. Option Trace) [
      | None ↦ None
      | Some d ↦ marks_on v images p ks (first_trace d)
    ]) e
