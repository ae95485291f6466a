-- The history after the drop of a level above the outermost leads to the config that the drop gave.
use Rattle.std.specs.Prelude.{◌≡◌, ℕ, suc, ◌==◌, Bool, true, false, List, [], ◌∷◌, ◌++◌, length}
use Rattle.std.specs.Prelude.{reverse, Option, Some, None, ◌⊎◌}
use Rattle.std.proofs.Common.{arith, refl, subst, sym, ap, ◌∙◌, inl, inr}
use Rattle.std.proofs.lemmas.Bool.Decides.{nat_tests}
use Rattle.std.proofs.lemmas.List.{append_assoc, append-nil, length-append}
use Rattle.kernel_model.specs.declared.Micro.{Micro}
use Rattle.kernel_model.specs.World.{World, ImageTable}
use Rattle.kernel_model.specs.Objects.{Objects}
use Rattle.kernel_model.specs.Policies.{kind_of, default_of}
use Rattle.kernel_model.specs.Levels.{Level, Config, Effect, Outcome, is_going_on, with_machine, answered}
use Rattle.kernel_model.specs.GraftStep.{micro_on}
use Rattle.kernel_model.specs.History.{Mark, Stepped, Fell, Past, Trace, with_effects, outer_pasts}
use Rattle.kernel_model.specs.History.{pasts_after, trace_after, stepped, effects_on, level_ends}
use Rattle.kernel_model.specs.History.{owner_among, trace_fallen, fallen_if, fell_on, mark_on}
use Rattle.kernel_model.specs.History.{marks_on}
use Rattle.graft_laws.proofs.HistoryEffectLemmas.{levels_by, accounts_by, levels_inside, levels_above}
use Rattle.graft_laws.proofs.HistoryEffectLemmas.{levels_length, config_with, have_been_made}
use Rattle.graft_laws.proofs.ActLemmas.{StaysIn, GoesDeeper, ComesBack}
use Rattle.graft_laws.proofs.HistoryPastLemmas.{GoesOnFrom, goes_on_self, goes_on_by, HasPasts}
use Rattle.graft_laws.proofs.HistoryPastLemmas.{made_outside, pasts_grow, WentOn}
use Rattle.graft_laws.proofs.HistoryPastLemmas.{goes_on as levels_go_on, trace_with, first_owner}
use Rattle.graft_laws.proofs.HistoryPastLemmas.{stepped_pasts, deeper_pasts}

-- ---- marks one after another

-- nothing is something
pub no_trace : (u : Trace) → None ≡ Some u → ⊥
no_trace u h = cc

pub same_trace : (t u : Trace) → Some t ≡ Some u → t ≡ u
same_trace t u h = cc

-- marks behind others
pub marks_more : (v : World) (images : ImageTable) (p : ℕ) (ks more : List Mark) (t u : Trace) →
    marks_on v images p ks t ≡ Some u →
    marks_on v images p (ks ++ more) t ≡ marks_on v images p more u
marks_more v images p [] more t u h = ap (marks_on v images p more) (same_trace t u h)
marks_more v images p (k ∷ ks) more t u h = more_by (mark_on v images p k t) (λ x. marks_more v images p ks more x u) h
  where
    more_by : (x : Option Trace) → ((y : Trace) → marks_on v images p ks y ≡ Some u →
        marks_on v images p (ks ++ more) y ≡ marks_on v images p more u) →
        elim x as (λ _. Option Trace) [ None ↦ None | Some y ↦ marks_on v images p ks y ] ≡ Some u →
        elim x as (λ _. Option Trace) [ None ↦ None | Some y ↦ marks_on v images p (ks ++ more) y ]
        ≡ marks_on v images p more u
    more_by None again h = absurd (no_trace u h)
    more_by (Some y) again h = again y h

-- one mark
pub one_mark : (v : World) (images : ImageTable) (p : ℕ) (k : Mark) (t : Trace) →
    marks_on v images p (k ∷ []) t ≡ mark_on v images p k t
one_mark v images p k t = one_by (mark_on v images p k t)
  where
    one_by : (x : Option Trace) → elim x as (λ _. Option Trace) [ None ↦ None | Some u ↦ Some u ] ≡ x
    one_by None = refl
    one_by (Some u) = refl

-- where an instruction led, the call went on
pub went_where : (t u : Trace) (r : Outcome) → stepped t r ≡ Some u → (r.said ≡ Micro.Went) × (trace_after t r ≡ u)
went_where t u r h = went_by r.said h
  where
    went_by : (said : Micro) → elim (is_going_on said) as (λ _. Option Trace) [
      | true ↦ Some (trace_after t r)
      | false ↦ None
    ] ≡ Some u →
        (said ≡ Micro.Went) × (trace_after t r ≡ u)
    went_by Micro.Went h = (refl, same_trace (trace_after t r) u h)
    went_by (Micro.Dropped d q pt cause) h = absurd (no_trace u h)
    went_by (Micro.Blocked object holder by_user) h = absurd (no_trace u h)
    went_by (Micro.Completed answer) h = absurd (no_trace u h)

-- where a fallen level's mark led, there is a trace after its ask, which began a level, and one after its effects
pub record FellFrom (v : World) (es : List Effect) (n : ℕ) (x : Option Trace) (u : Trace) : Type 0 where
  pub asked : Trace
  pub made : Config
  pub asks : x ≡ Some asked
  pub deeper : length asked.config.levels ≡ suc n
  pub effects : effects_on (owner_among asked.config.levels) es asked.config ≡ Some made
  pub is : trace_fallen v es asked made ≡ u

pub fell_where : (v : World) (es : List Effect) (n : ℕ) (x : Option Trace) (u : Trace) →
    elim x as (λ _. Option Trace) [ None ↦ None | Some y ↦ fell_on v es n y ] ≡ Some u → FellFrom v es n x u
fell_where v es n None u h = absurd (no_trace u h)
fell_where v es n (Some y) u h = deeper_by (length y.config.levels == suc n) refl h
  where
    made_by : (c : Option Config) → effects_on (owner_among y.config.levels) es y.config ≡ c →
        length y.config.levels ≡ suc n → fallen_if v es y c ≡ Some u →
        FellFrom v es n (Some y) u
    made_by None e deeper h = absurd (no_trace u h)
    made_by (Some c) e deeper h =
        record {
          asked = y;
          made = c;
          asks = refl;
          deeper = deeper;
          effects = e;
          is = same_trace (trace_fallen v es y c) u h;
        }

    same_number : (x y : ℕ) → (x == y) ≡ true → x ≡ y
    same_number x y h = grind (arith, nat_tests)

    deeper_by : (b : Bool) → (length y.config.levels == suc n) ≡ b →
        elim b as (λ _. Option Trace) [
          | true ↦ fallen_if v es y (effects_on (owner_among y.config.levels) es y.config)
          | false ↦ None
        ] ≡ Some u → FellFrom v es n (Some y) u
    deeper_by true e h =
        made_by (effects_on (owner_among y.config.levels) es y.config) refl
        (same_number (length y.config.levels) (suc n) e) h
    deeper_by false e h = absurd (no_trace u h)

module _ (v : World) (images : ImageTable) (p : ℕ) (first : Trace) (q : ℕ) where
  -- ---- traces of histories

  -- a history leads to a trace, of which each level's past tells where it began
  pub record LeadsTo (ks : List Mark) (t : Trace) : Type 0 where
    pub leads : marks_on v images p ks first ≡ Some t
    pub marks : t.marks ≡ length ks
    pub pasts : HasPasts v images p first q ks t.config.now.accounts [] t.config.levels t.pasts

  -- one mark more
  more_marks : (n : ℕ) (ks : List Mark) (k : Mark) → n ≡ length ks → suc n ≡ length (ks ++ k ∷ [])
  more_marks n ks k e = omega (arith, length-append {A = Mark})

  leads_more : (ks : List Mark) (k : Mark) (t u : Trace) → marks_on v images p ks first ≡ Some t →
      mark_on v images p k t ≡ Some u →
      marks_on v images p (ks ++ k ∷ []) first ≡ Some u
  leads_more ks k t u leads e = marks_more v images p ks (k ∷ []) first t leads ∙ one_mark v images p k t ∙ e

  -- an instruction's mark
  stepped_leads : (ks : List Mark) (w : Objects) (l : Level) (ls : List Level) (n : ℕ) (b : Past)
      (ps : List Past) (u : Trace) →
      LeadsTo ks (trace_with w (l ∷ ls) n (b ∷ ps)) →
      stepped (trace_with w (l ∷ ls) n (b ∷ ps)) (micro_on v images p w (l ∷ ls)) ≡ Some u →
      LeadsTo (ks ++ Stepped ∷ []) u
  stepped_leads ks w l ls n b ps u h e =
      let t = trace_with w (l ∷ ls) n (b ∷ ps) in
      let r = micro_on v images p w (l ∷ ls) in
      let went = went_where t u r e in
      subst (LeadsTo (ks ++ Stepped ∷ [])) went.1 (record {
        leads = leads_more ks Stepped t (trace_after t r) h.leads (e ∙ ap Some (sym went.1));
        marks = more_marks n ks Stepped h.marks;
        pasts =
            stepped_pasts v images p first q ks (ks ++ Stepped ∷ []) w l ls n b ps
            (goes_on_by ks Stepped) h.leads h.marks h.pasts
            (e ∙ ap Some (sym went.1)) (levels_go_on v images p first q ks w l ls (b ∷ ps) h.pasts went.0);
      })

  -- ---- a fallen level's mark

  -- the trace after the ask of a level that fell, and its end
  fallen_pasts : (ks more : List Mark) (w : Objects) (l : Level) (ls : List Level) (n : ℕ)
      (b : Past) (ps : List Past) (es : List Effect) (c : Config) → GoesOnFrom ks more →
      HasPasts v images p first q ks w.accounts [] (l ∷ ls) (b ∷ ps) →
      let r = micro_on v images p w (l ∷ ls) in
      let y = trace_after (trace_with w (l ∷ ls) n (b ∷ ps)) r in
      let u = trace_fallen v es y c in
      WentOn v images p first q w l ls r → length r.config.levels ≡ suc (suc (length ls)) →
      effects_on (owner_among r.config.levels) es r.config ≡ Some c →
      HasPasts v images p first q more u.config.now.accounts [] u.config.levels u.pasts
  fallen_pasts ks more w l ls n b ps es c on h went deeper made = by_next went.next
    where
      not_deeper : (m k : ℕ) → suc k ≡ suc (suc m) → k ≡ m → ⊥
      not_deeper m k e f = omega arith

      not_back : (m k : ℕ) → suc k ≡ suc (suc m) → m ≡ suc k → ⊥
      not_back m k e f = omega arith

      by_next : let r = micro_on v images p w (l ∷ ls) in
          let u = trace_fallen v es (trace_after (trace_with w (l ∷ ls) n (b ∷ ps)) r) c in
          StaysIn q l.point l.kept l.touched (levels_by q r.effects ls) r.config
          ⊎ GoesDeeper q l.point l.kept l.touched (levels_by q r.effects ls) r.config
          ⊎ ComesBack (levels_by q r.effects ls) r.config →
          HasPasts v images p first q more u.config.now.accounts [] u.config.levels u.pasts
      by_next (inl s) =
          let xs = levels_by q (micro_on v images p w (l ∷ ls)).effects ls in
          absurd (not_deeper (length ls) (length xs) (ap length (sym s.levels) ∙ deeper)
          (levels_length q (micro_on v images p w (l ∷ ls)).effects ls))
      by_next (inr (inr x)) =
          absurd (not_back (length ls) (length x.rest) (ap length (sym x.levels) ∙ deeper)
          (sym (levels_length q (micro_on v images p w (l ∷ ls)).effects ls) ∙ ap length x.outside))
      by_next (inr (inl d)) =
          let r = micro_on v images p w (l ∷ ls) in
          let fs = r.effects in
          let xs = levels_by q fs ls in
          let since = with_effects fs (b ∷ ps) in
          let a = r.config.now.accounts in
          let x = r.config.now.things in
          let ends = have_been_made q es a x d.inner (d.own ∷ xs) c
          (ap (λ i. effects_on i es (config_with a x (d.inner ∷ d.own ∷ xs))) (sym d.inner_owner)
          ∙ ap (λ ys. effects_on (owner_among ys) es (config_with a x ys)) (sym d.levels) ∙ made) in
          let next = levels_inside q es d.own xs in
          let levels = levels_above q es d.inner d.own xs ∙ ap (λ ys. d.inner ∷ ys) next.1 in
          let is : c ≡ config_with (accounts_by q es a) x (d.inner ∷ next.0 ∷ levels_by q es xs) =
          ends.leads ∙ ap (config_with (accounts_by q es a) x) levels in
          let pasts : outer_pasts (pasts_after n (suc (length ls)) (length r.config.levels) since) ≡ since =
          ap (λ ys. outer_pasts (pasts_after n (suc (length ls)) (length ys) since)) d.levels ∙ ap
          outer_pasts (deeper_pasts n (length ls) (length xs) since (levels_length q fs ls)) in
          let own = pasts_grow v images p first q ks more w.accounts fs l d.own ls b ps on h
          (record {
            owner = d.owner ∙ sym (first_owner v images p first q ks w.accounts [] l ls b ps h);
            point = d.point;
            found = d.found;
          }) went.made in
          let e = default_of v x d.inner.owner d.inner.point in
          let o = with_machine (answered (kind_of d.inner.point) e.0 e.1 next.0.machine) next.0 in
          let grown = pasts_grow v images p first q more more a es d.own o xs
          (record b { effects = reverse fs ++ b.effects }) ps (goes_on_self more)
          (subst (λ i. HasPasts v images p first q more i [] (d.own ∷ xs) since) (sym went.accounts) own)
          (record { owner = next.2.owner; point = next.2.point; found = next.2.found })
          (made_outside v images p first q es a d.own xs ends.made) in
          subst (λ i. HasPasts v images p first q more
          (level_ends v i.now i.levels).now.accounts [] (level_ends v i.now i.levels).levels
          (with_effects es (outer_pasts (pasts_after n (suc (length ls)) (length r.config.levels) since)))) (sym is)
          (subst (λ ts. HasPasts v images p first q more (accounts_by q es a) []
          (o ∷ levels_by q es xs) (with_effects es ts)) (sym pasts) grown)

  fell_leads : (ks : List Mark) (w : Objects) (l : Level) (ls : List Level) (n : ℕ) (b : Past)
      (ps : List Past) (es : List Effect) (u : Trace) →
      LeadsTo ks (trace_with w (l ∷ ls) n (b ∷ ps)) →
      mark_on v images p (Fell es) (trace_with w (l ∷ ls) n (b ∷ ps)) ≡ Some u →
      LeadsTo (ks ++ Fell es ∷ []) u
  fell_leads ks w l ls n b ps es u h e =
      let t = trace_with w (l ∷ ls) n (b ∷ ps) in
      let r = micro_on v images p w (l ∷ ls) in
      let f = fell_where v es (suc (length ls)) (stepped t r) u e in
      let went = went_where t f.asked r f.asks in
      let is = ap (λ x. trace_fallen v es x f.made) went.1 ∙ f.is in
      let more = ks ++ Fell es ∷ [] in
      subst (LeadsTo more) is (record {
        leads = leads_more ks (Fell es) t (trace_fallen v es (trace_after t r) f.made) h.leads (e ∙ ap Some (sym is));
        marks = more_marks n ks (Fell es) h.marks;
        pasts =
            fallen_pasts ks more w l ls n b ps es f.made (goes_on_by ks (Fell es)) h.pasts
            (levels_go_on v images p first q ks w l ls (b ∷ ps) h.pasts went.0)
            (ap (λ (x : Trace). length x.config.levels) went.1 ∙ f.deeper)
            (ap (λ (x : Trace). effects_on (owner_among x.config.levels) es x.config) went.1
            ∙ f.effects);
      })

  -- ---- any mark

  mark_by : (ks : List Mark) (k : Mark) (w : Objects) (ls : List Level) (n : ℕ) (ps : List Past)
      (u : Trace) → LeadsTo ks (trace_with w ls n ps) →
      mark_on v images p k (trace_with w ls n ps) ≡ Some u → LeadsTo (ks ++ k ∷ []) u
  mark_by ks k w [] n ps u h e = absurd h.pasts
  mark_by ks k w (l ∷ []) n [] u h e = absurd h.pasts
  mark_by ks k w (l ∷ m ∷ ls) n [] u h e = absurd h.pasts
  mark_by ks Stepped w (l ∷ ls) n (b ∷ ps) u h e = stepped_leads ks w l ls n b ps u h e
  mark_by ks (Fell es) w (l ∷ ls) n (b ∷ ps) u h e = fell_leads ks w l ls n b ps es u h e

  pub marks_lead : (ks more : List Mark) (t u : Trace) → LeadsTo ks t →
      marks_on v images p more t ≡ Some u → LeadsTo (ks ++ more) u
  marks_lead ks [] t u h e = subst (λ x. LeadsTo x u) (sym (append-nil ks)) (subst (LeadsTo ks) (same_trace t u e) h)
  marks_lead ks (k ∷ more) t u h e = lead_by (mark_on v images p k t) refl (λ x. marks_lead (ks ++ k ∷ []) more x u) e
    where
      lead_by : (x : Option Trace) → mark_on v images p k t ≡ x →
          ((y : Trace) → LeadsTo (ks ++ k ∷ []) y → marks_on v images p more y ≡ Some u →
          LeadsTo ((ks ++ k ∷ []) ++ more) u) →
          elim x as (λ _. Option Trace) [ None ↦ None | Some y ↦ marks_on v images p more y ]
          ≡ Some u → LeadsTo (ks ++ k ∷ more) u
      lead_by None is again e = absurd (no_trace u e)
      lead_by (Some y) is again e =
          subst (λ x. LeadsTo x u) (append_assoc ks (k ∷ []) more)
          (again y (mark_by ks k t.config.now t.config.levels t.marks t.pasts y h is) e)
