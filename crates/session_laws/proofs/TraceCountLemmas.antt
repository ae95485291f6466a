-- Wherever a history leads, the count of each level is within the limit of its graft.
use Rattle.std.specs.Prelude.{◌≡◌, ℕ, suc, ◌≤◌, ◌==◌, ◌&&◌, Bool, true, false, not, List, [], ◌∷◌}
use Rattle.std.specs.Prelude.{length, Option, Some, None, is_some, ⊤}
use Rattle.std.proofs.Common.{subst}
use Rattle.script_model.specs.declared.Kind.{Kind}
use Rattle.script_model.specs.declared.Need.{Need}
use Rattle.script_model.specs.declared.Object.TheVariants.{Graft}
use Rattle.script_model.specs.declared.Point.{Point}
use Rattle.script_model.specs.World.{World, ImageTable}
use Rattle.script_model.specs.Objects.{Objects, GraftValue}
use Rattle.script_model.specs.Policies.{default_of}
use Rattle.script_model.specs.Charges.{funds, charge, removed}
use Rattle.script_model.specs.Meaning.{Meaning}
use Rattle.script_model.specs.Levels.{Level, Config, Effect, Asked, Charged, Removed, Outcome, is_going_on, limit_in}
use Rattle.script_model.specs.GraftStep.{micro}
use Rattle.script_model.specs.History.{Mark, Stepped, Fell, Trace, begin_with, begin_at}
use Rattle.script_model.specs.History.{first_trace, trace_after, stepped, is_found}
use Rattle.script_model.specs.History.{with_accounts_of, config_if, effect, effects_on, level_ends}
use Rattle.script_model.specs.History.{owner_among, fallen_if, fell_on, mark_on, marks_on}
use Rattle.script_model.specs.Kernel.{Call, Kernel}
use Rattle.script_model.specs.Blocking.{config_in, config_of, trace_of}
use Rattle.kernel_laws.proofs.LevelLemmas.{each_contains}
use Rattle.session_laws.specs.Counts.{HistoriesKeepCounts, CallsKeepCounts, CallsFit, RunsFit}
use Rattle.session_laws.specs.Sessions.{RunsAreSound}
use Rattle.session_laws.proofs.CountLemmas.{Fits, LevelFits, AllFit, none_fits, all_stay}
use Rattle.session_laws.proofs.CountLemmas.{charge_stays, remove_stays, touch_fits, answer_fits}
use Rattle.session_laws.proofs.CountLemmas.{micro_fits, counts_fit}

-- a config, if there is one, has counts within limits
abbrev ConfigFits : Option Config → Type 0
ConfigFits None = ⊤
ConfigFits (Some c) = AllFit c.now.accounts c.levels

-- and so has that of a trace
abbrev TraceFits : Option Trace → Type 0
TraceFits None = ⊤
TraceFits (Some t) = AllFit t.config.now.accounts t.config.levels

module _ (v : World) (images : ImageTable) (p : ℕ) where
  -- ---- effects

  charged_if : (b : Bool) (c : Config) (q pt : ℕ) (k : Kind) → AllFit c.now.accounts c.levels →
      ConfigFits (config_if b (with_accounts_of (charge k q pt c.now.accounts) c))
  charged_if true c q pt k h =
      all_stay c.now.accounts (charge k q pt c.now.accounts) c.levels (charge_stays k q pt c.now.accounts) h
  charged_if false c q pt k h = tt

  removed_if : (b : Bool) (c : Config) (q pt : ℕ) → AllFit c.now.accounts c.levels →
      ConfigFits (config_if b (with_accounts_of (removed q pt c.now.accounts) c))
  removed_if true c q pt h =
      all_stay c.now.accounts (removed q pt c.now.accounts) c.levels (remove_stays q pt c.now.accounts) h
  removed_if false c q pt h = tt

  effect_fits : (q : ℕ) (e : Effect) (c : Config) → AllFit c.now.accounts c.levels → ConfigFits (effect q e c)
  effect_fits q (Asked pt) c h = touch_fits (Graft q pt) c.now.accounts c.levels h
  effect_fits q (Charged pt k) c h = charged_if (is_found q pt c && not (funds c.now.accounts q pt k == 0)) c q pt k h
  effect_fits q (Removed pt) c h = removed_if (is_found q pt c) c q pt h

  effects_by : (q : ℕ) (es : List Effect) (x : Option Config) →
      ((c : Config) → AllFit c.now.accounts c.levels → ConfigFits (effects_on q es c)) → ConfigFits x →
      ConfigFits (elim x as (λ _. Option Config) [ None ↦ None | Some u ↦ effects_on q es u ])
  effects_by q es None h fits = tt
  effects_by q es (Some c) h fits = h c fits

  effects_fit : (q : ℕ) (es : List Effect) (c : Config) → AllFit c.now.accounts c.levels →
      ConfigFits (effects_on q es c)
  effects_fit q [] c h = h
  effects_fit q (e ∷ es) c h = effects_by q es (effect q e c) (effects_fit q es) (effect_fits q e c h)

  -- ---- a fallen level

  ends_fit : (w : Objects) (ls : List Level) → AllFit w.accounts ls →
      let c = level_ends v w ls in AllFit c.now.accounts c.levels
  ends_fit w [] h = tt
  ends_fit w (l ∷ ls) h = let d = default_of v w.things l.owner l.point in answer_fits l.point d.0 d.1 w.accounts ls h.1

  fallen_fits : (es : List Effect) (u : Trace) (x : Option Config) → ConfigFits x →
      TraceFits (fallen_if v es u x)
  fallen_fits es u None h = tt
  fallen_fits es u (Some c) h = ends_fit c.now c.levels h

  fell_by : (es : List Effect) (u : Trace) (b : Bool) → AllFit u.config.now.accounts u.config.levels →
      TraceFits (elim b as
      (λ _. Option Trace) [
        | true ↦ fallen_if v es u (effects_on (owner_among u.config.levels) es u.config)
        | false ↦ None
      ])
  fell_by es u true h =
      fallen_fits es u (effects_on (owner_among u.config.levels) es u.config)
      (effects_fit (owner_among u.config.levels) es u.config h)
  fell_by es u false h = tt

  fell_fits : (es : List Effect) (n : ℕ) (x : Option Trace) → TraceFits x →
      TraceFits (elim x as (λ _. Option Trace) [ None ↦ None | Some u ↦ fell_on v es n u ])
  fell_fits es n None h = tt
  fell_fits es n (Some u) h = fell_by es u (length u.config.levels == suc n) h

  -- ---- marks

  stepped_by : (t : Trace) (r : Outcome) (b : Bool) → AllFit r.config.now.accounts r.config.levels →
      TraceFits (elim b as (λ _. Option Trace) [ true ↦ Some (trace_after t r) | false ↦ None ])
  stepped_by t r true h = h
  stepped_by t r false h = tt

  stepped_fits : (t : Trace) → AllFit t.config.now.accounts t.config.levels →
      TraceFits (stepped t (micro v images p t.config))
  stepped_fits t h =
      let r = micro v images p t.config in stepped_by t r (is_going_on r.said)
      (micro_fits v images p t.config.now t.config.levels h)

  mark_fits : (k : Mark) (t : Trace) → AllFit t.config.now.accounts t.config.levels →
      TraceFits (mark_on v images p k t)
  mark_fits Stepped t h = stepped_fits t h
  mark_fits (Fell es) t h =
      fell_fits es (length t.config.levels) (stepped t (micro v images p t.config)) (stepped_fits t h)

  marks_by : (ks : List Mark) (x : Option Trace) →
      ((t : Trace) → AllFit t.config.now.accounts t.config.levels → TraceFits (marks_on v images p ks t)) →
      TraceFits x →
      TraceFits (elim x as (λ _. Option Trace) [ None ↦ None | Some u ↦ marks_on v images p ks u ])
  marks_by ks None h fits = tt
  marks_by ks (Some t) h fits = h t fits

  marks_fit : (ks : List Mark) (t : Trace) → AllFit t.config.now.accounts t.config.levels →
      TraceFits (marks_on v images p ks t)
  marks_fit [] t h = h
  marks_fit (k ∷ ks) t h = marks_by ks (mark_on v images p k t) (marks_fit ks) (mark_fits k t h)

-- ---- replay

-- by the point that is asked
replay_by : (v : World) (images : ImageTable) (s : Objects) (p : ℕ) (ks : List Mark) (base : List Need)
    (feed : List ℕ) (ask : Option Point) →
    TraceFits (elim (begin_with images s p base feed ask) as
    (λ _. Option Trace) [ None ↦ None | Some c ↦ marks_on v images p ks (first_trace c) ])
replay_by v images s p ks base feed None = tt
replay_by v images s p ks base feed (Some a) =
    marks_fit v images p ks (first_trace (begin_at images s p base feed a))
    (none_fits (s.accounts.graft a.installer a.point), tt)

pub histories_keep_counts : (m : Meaning) → HistoriesKeepCounts m
histories_keep_counts m v images s p t ks now e =
    counts_fit now.config (subst TraceFits e (replay_by v images s p ks (m.need v s p t) (m.feed t) (m.asks v s p t)))

-- ---- the calls of a kernel

-- the config of a call, if there is one
call_fits : (m : Meaning) (k : Kernel) (p : ℕ) (call : Option Call) → TraceFits (trace_of m k p call)
call_fits m k p None = tt
call_fits m k p (Some c) = by_marks c.marks
  where
    by_marks : (ks : Option (List Mark)) → TraceFits (elim ks as (λ _. Option Trace) [
      | None ↦ None
      | Some ks ↦ elim (begin_with k.images k.objects p (m.need k.world k.objects p c.stage) (m.feed c.stage)
          (m.asks k.world k.objects p c.stage)) as (λ _. Option Trace)
          [ None ↦ None | Some f ↦ marks_on k.world k.images p ks (first_trace f) ]
    ])
    by_marks None = tt
    by_marks (Some ks) =
        replay_by k.world k.images k.objects p ks (m.need k.world k.objects p c.stage) (m.feed c.stage)
        (m.asks k.world k.objects p c.stage)

config_fits : (x : Option Trace) → TraceFits x → ConfigFits (config_in x)
config_fits None h = tt
config_fits (Some t) h = h

kernel_fits : (m : Meaning) (k : Kernel) (p : ℕ) (c : Config) → config_of m k p ≡ Some c →
    AllFit c.now.accounts c.levels
kernel_fits m k p c e = subst ConfigFits e (config_fits (trace_of m k p (k.call p)) (call_fits m k p (k.call p)))

pub calls_keep_counts : (m : Meaning) → CallsKeepCounts m
calls_keep_counts m k p c e = counts_fit c (kernel_fits m k p c e)

pub calls_fit : (m : Meaning) → CallsFit m
calls_fit m k p c l sound e there =
    within l.count (c.now.accounts.graft l.owner l.point) (sound.grafts p c l e there)
    (each_contains (LevelFits c.now.accounts) c.levels l (kernel_fits m k p c e) there)
  where
    within : (n : ℕ) (g : Option GraftValue) → is_some g ≡ true → Fits n g → n ≤ limit_in g
    within n None stands h = absurd cc
    within n (Some g) stands h = h

-- ---- runs

pub runs_keep_counts : RunsAreSound → RunsFit
runs_keep_counts sound b keys d texts ios k p c l h is e there =
    calls_fit b.meaning k p c l (sound b keys d texts ios k h is).0 e there
