-- Wherever a history leads, the graft call works on the state that it is replayed from.
use Rattle.std.specs.Prelude.{◌≡◌, ℕ, suc, ◌≤◌, ◌==◌, ◌&&◌, Bool, true, false, not, List, [], ◌∷◌}
use Rattle.std.specs.Prelude.{length, Option, Some, None, ⊤}
use Rattle.std.proofs.Common.{arith, refl, subst, sym}
use Rattle.std.proofs.lemmas.Bool.Decides.{nat_tests}
use Rattle.kernel_model.specs.declared.Kind.{Kind}
use Rattle.kernel_model.specs.declared.Need.{Need}
use Rattle.kernel_model.specs.declared.Object.TheVariants.{Graft}
use Rattle.kernel_model.specs.declared.Point.{Point}
use Rattle.kernel_model.specs.World.{World, ImageTable}
use Rattle.kernel_model.specs.Objects.{Objects}
use Rattle.kernel_model.specs.Policies.{default_of}
use Rattle.kernel_model.specs.Charges.{funds, charge, removed}
use Rattle.kernel_model.specs.Meaning.{Meaning}
use Rattle.kernel_model.specs.Levels.{Level, Config, Effect, Asked, Charged, Removed, Outcome, is_going_on}
use Rattle.kernel_model.specs.GraftStep.{micro}
use Rattle.kernel_model.specs.History.{Mark, Stepped, Fell, Trace, begin_at, begin_with}
use Rattle.kernel_model.specs.History.{first_trace, trace_after, stepped, is_found}
use Rattle.kernel_model.specs.History.{with_accounts_of, config_if, effect, effects_on, level_ends}
use Rattle.kernel_model.specs.History.{owner_among, fallen_if, fell_on, mark_on, marks_on}
use Rattle.kernel_model.specs.Sound.{IsSoundStore}
use Rattle.kernel_laws.specs.Soundness.{IsGraftsWork, AreGraftsWork, found_by, WorksOn, ReplayWorks, HistoriesWork}
use Rattle.kernel_laws.proofs.StoreLemmas.{charge_work, remove_work}
use Rattle.kernel_laws.proofs.InstructionLemmas.{touch_same, answer_same, asked_outside, instructions_work}

-- a config, if there is one, works on the state
abbrev ConfigWorks : World → Objects → Point → Option Config → Type 0
ConfigWorks v s a None = ⊤
ConfigWorks v s a (Some c) = WorksOn v s a c

-- a trace, if there is one, leads to such a config
abbrev TraceWorks : World → Objects → Point → Option Trace → Type 0
TraceWorks v s a None = ⊤
TraceWorks v s a (Some t) = WorksOn v s a t.config

-- a test passes, and its second part
second : (b c : Bool) → (b && c) ≡ true → c ≡ true
second true c h = h
second false c h = absurd cc

module _ (v : World) (images : ImageTable) (p : ℕ) (s : Objects) (a : Point) where
  -- ---- effects

  charged_if : (b : Bool) (c : Config) (q pt : ℕ) (k : Kind) →
      (is_found q pt c && not (funds c.now.accounts q pt k == 0)) ≡ b → WorksOn v s a c →
      ConfigWorks v s a (config_if b (with_accounts_of (charge k q pt c.now.accounts) c))
  charged_if true c q pt k e h =
      record {
        works = charge_work v s c.now.accounts q pt k (s.things ∷ c.now.things ∷ found_by c.levels)
            (some_funds (funds c.now.accounts q pt k)
            (second (is_found q pt c) (not (funds c.now.accounts q pt k == 0)) e)) h.works;
        asked = h.asked;
      }
    where
      some_funds : (n : ℕ) → not (n == 0) ≡ true → 1 ≤ n
      some_funds n e = grind (arith, nat_tests)
  charged_if false c q pt k e h = tt

  removed_if : (b : Bool) (c : Config) (q pt : ℕ) → WorksOn v s a c →
      ConfigWorks v s a (config_if b (with_accounts_of (removed q pt c.now.accounts) c))
  removed_if true c q pt h =
      record {
        works =
            remove_work v s c.now.accounts q pt (s.things ∷ c.now.things ∷ found_by c.levels) h.works;
        asked = h.asked;
      }
  removed_if false c q pt h = tt

  effect_works : (q : ℕ) (e : Effect) (c : Config) → WorksOn v s a c → ConfigWorks v s a (effect q e c)
  effect_works q (Asked pt) c h =
      let same = touch_same (Graft q pt) c.levels in
      record {
        works = subst (λ ws. AreGraftsWork v s c.now.accounts (s.things ∷ c.now.things ∷ ws)) (sym same.found) h.works;
        asked = same.asked a h.asked;
      }
  effect_works q (Charged pt k) c h =
      charged_if (is_found q pt c && not (funds c.now.accounts q pt k == 0)) c q pt k refl h
  effect_works q (Removed pt) c h = removed_if (is_found q pt c) c q pt h

  effects_by : (q : ℕ) (es : List Effect) (x : Option Config) →
      ((c : Config) → WorksOn v s a c → ConfigWorks v s a (effects_on q es c)) →
      ConfigWorks v s a x →
      ConfigWorks v s a (elim x as (λ _. Option Config) [ None ↦ None | Some u ↦ effects_on q es u ])
  effects_by q es None h works = tt
  effects_by q es (Some c) h works = h c works

  effects_work : (q : ℕ) (es : List Effect) (c : Config) → WorksOn v s a c → ConfigWorks v s a (effects_on q es c)
  effects_work q [] c h = h
  effects_work q (e ∷ es) c h = effects_by q es (effect q e c) (effects_work q es) (effect_works q e c h)

  -- ---- a fallen level

  ends_work : (w : Objects) (ls : List Level) → WorksOn v s a (record { now = w; levels = ls }) →
      WorksOn v s a (level_ends v w ls)
  ends_work w [] h = h
  ends_work w (l ∷ ls) h =
      let d = default_of v w.things l.owner l.point in
      let same = answer_same l.point d.0 d.1 ls in
      record {
        works =
            subst (λ ws. AreGraftsWork v s w.accounts (s.things ∷ w.things ∷ ws)) (sym same.found)
            (h.works.0, (h.works.1.0, h.works.1.1.1));
        asked = same.asked a (asked_outside a l ls h.asked);
      }

  fallen_works : (es : List Effect) (u : Trace) (x : Option Config) → ConfigWorks v s a x →
      TraceWorks v s a (fallen_if v es u x)
  fallen_works es u None h = tt
  fallen_works es u (Some c) h = ends_work c.now c.levels h

  fell_by : (es : List Effect) (u : Trace) (b : Bool) → WorksOn v s a u.config →
      TraceWorks v s a (elim b as (λ _. Option Trace) [
        | true ↦ fallen_if v es u (effects_on (owner_among u.config.levels) es u.config)
        | false ↦ None
      ])
  fell_by es u true h =
      fallen_works es u (effects_on (owner_among u.config.levels) es u.config)
      (effects_work (owner_among u.config.levels) es u.config h)
  fell_by es u false h = tt

  fell_works : (es : List Effect) (n : ℕ) (x : Option Trace) → TraceWorks v s a x →
      TraceWorks v s a (elim x as (λ _. Option Trace) [ None ↦ None | Some u ↦ fell_on v es n u ])
  fell_works es n None h = tt
  fell_works es n (Some u) h = fell_by es u (length u.config.levels == suc n) h

  -- ---- marks

  stepped_by : (t : Trace) (r : Outcome) (b : Bool) → WorksOn v s a r.config →
      TraceWorks v s a (elim b as (λ _. Option Trace) [ true ↦ Some (trace_after t r) | false ↦ None ])
  stepped_by t r true h = h
  stepped_by t r false h = tt

  stepped_works : (t : Trace) → WorksOn v s a t.config → TraceWorks v s a (stepped t (micro v images p t.config))
  stepped_works t h =
      let r = micro v images p t.config in
      stepped_by t r (is_going_on r.said) (instructions_work v images p s a t.config h).0

  mark_works : (k : Mark) (t : Trace) → WorksOn v s a t.config → TraceWorks v s a (mark_on v images p k t)
  mark_works Stepped t h = stepped_works t h
  mark_works (Fell es) t h =
      fell_works es (length t.config.levels) (stepped t (micro v images p t.config))
      (stepped_works t h)

  marks_by : (ks : List Mark) (x : Option Trace) →
      ((t : Trace) → WorksOn v s a t.config → TraceWorks v s a (marks_on v images p ks t)) →
      TraceWorks v s a x →
      TraceWorks v s a (elim x as (λ _. Option Trace) [ None ↦ None | Some u ↦ marks_on v images p ks u ])
  marks_by ks None h works = tt
  marks_by ks (Some t) h works = h t works

  marks_work : (ks : List Mark) (t : Trace) → WorksOn v s a t.config → TraceWorks v s a (marks_on v images p ks t)
  marks_work [] t h = h
  marks_work (k ∷ ks) t h = marks_by ks (mark_on v images p k t) (marks_work ks) (mark_works k t h)

-- ---- replay

-- a state is a graft's work on itself
pub own_work : (v : World) (s : Objects) → IsSoundStore v s → IsGraftsWork v s s.accounts s.things
own_work v s h =
    record {
      store = h;
      alike =
          record {
            files = λ p fd. refl;
            queue = refl;
            handlers = refl;
            lru = refl;
            frames = λ f. refl;
            locks = λ l. refl;
            policies = λ kind. refl;
          };
    }

-- by the point that is asked
replay_by : (v : World) (images : ImageTable) (s : Objects) (p : ℕ) (ks : List Mark)
    (base : List Need) (feed : List ℕ) (ask : Option Point) → IsSoundStore v s →
    ReplayWorks v s ask (elim (begin_with images s p base feed ask) as (λ _. Option Trace) [
      | None ↦ None
      | Some c ↦ marks_on v images p ks (first_trace c)
    ])
replay_by v images s p ks base feed None h = tt
replay_by v images s p ks base feed (Some a) h =
    let c = begin_at images s p base feed a in
    let own = own_work v s h in
    asked_works (marks_on v images p ks (first_trace c))
    (marks_work v images p s a ks (first_trace c)
    (record { works = (own, (own, (own, tt))); asked = (refl, refl, refl) }))
  where
    asked_works : (x : Option Trace) → TraceWorks v s a x → ReplayWorks v s (Some a) x
    asked_works None works = tt
    asked_works (Some t) works = works

-- wherever a history leads, the graft call works on the state
pub histories_work : (m : Meaning) → HistoriesWork m
histories_work m v images s p t ks h = replay_by v images s p ks (m.need v s p t) (m.feed t) (m.asks v s p t) h
