-- A history from two states that agree on what the call holds in the end.
use Rattle.std.specs.Prelude.{◌≡◌, ℕ, suc, ◌+◌, ◌<◌, ◌≤◌, ◌||◌, true, false, List, [], ◌∷◌, length, Option, Some, None}
use Rattle.std.proofs.Common.{arith, refl, subst, sym, ap, ◌∙◌}
use Rattle.std.proofs.lemmas.List.{take_all}
use Rattle.kernel_model.specs.declared.Held.{Held}
use Rattle.kernel_model.specs.declared.Object.{Object}
use Rattle.kernel_model.specs.declared.Object.TheVariants.{Graft}
use Rattle.kernel_model.specs.declared.Point.{Point}
use Rattle.kernel_model.specs.World.{World, ImageTable}
use Rattle.kernel_model.specs.Objects.{Objects, Things, GraftValue, SameAt}
use Rattle.kernel_model.specs.Machine.{first_machine, fed}
use Rattle.kernel_model.specs.Meaning.{Meaning, Stage}
use Rattle.kernel_model.specs.Policies.{default_of}
use Rattle.kernel_model.specs.Locks.{Touched, is_held, touch_all, untouched}
use Rattle.kernel_model.specs.Levels.{Level, Config, Effect, is_going_on, image_of, keeps_in}
use Rattle.kernel_model.specs.Levels.{segment_with, base_of, new_level, answer_innermost}
use Rattle.kernel_model.specs.GraftStep.{micro, micro_on}
use Rattle.kernel_model.specs.History.{Mark, Stepped, Fell, Trace, with_effects, first_trace}
use Rattle.kernel_model.specs.History.{trace_after, trace_fallen, level_ends, outer_pasts}
use Rattle.kernel_model.specs.History.{effects_on, owner_among, mark_on, marks_on, begin, begin_at}
use Rattle.kernel_model.specs.History.{begin_with, replay}
use Rattle.kernel_model.specs.Alike.{LevelsAlike, ConfigsAlike, AgreeOn, is_held_in}
use Rattle.kernel_model.specs.Laws.{Laws, IsStanding, NeedsGraftsExclusively}
use Rattle.graft_laws.specs.Alike.{OutcomesAlike}
use Rattle.graft_laws.specs.Histories.{IsReplayed, TracesAlike, HistoriesAlike}
use Rattle.graft_laws.proofs.PointLemmas.{or_left}
use Rattle.graft_laws.proofs.HoldLemmas.{outermost_held, touch_all_gives}
use Rattle.graft_laws.proofs.LevelsAlikeLemmas.{length_alike}
use Rattle.graft_laws.proofs.GrownLemmas.{AreGrown, grown_held, grown_answer}
use Rattle.graft_laws.proofs.TurnParts.{IsNew, not_going}
use Rattle.graft_laws.proofs.TurnLemmas.{levels_turn}
use Rattle.graft_laws.proofs.StandLemmas.{AllStand}
use Rattle.graft_laws.proofs.MarkLemmas.{stepped_split, fell_split, marks_split, replay_split}
use Rattle.graft_laws.proofs.MarkLemmas.{stepped_join, fell_join, marks_join, replay_join}
use Rattle.graft_laws.proofs.ReplayLemmas.{instructions_replay}
use Rattle.graft_laws.proofs.HistoryReplayLemmas.{shape_begun, effects_stood, mark_replays, marks_stood}
use Rattle.graft_laws.proofs.BeginningLemmas.{all_stand, beginnings_stand}
use Rattle.graft_laws.proofs.AlikeMarkLemmas.{alike_from, stand_other, went_alike, went_holds}
use Rattle.graft_laws.proofs.AlikeMarkLemmas.{after_alike, FellAlike, fell_alike}

-- ---- what is held stays held

-- the levels outside one that just began, after its effects and its end
ends_held : (v : World) (x : Objects) (after : List Level) (n : Level)
    (ks : List Level) (o : Object) → AreGrown after (n ∷ ks) → is_held_in ks o ≡ true →
    is_held_in (level_ends v x after).levels o ≡ true
ends_held v x [] n ks o grown h = absurd grown
ends_held v x (m ∷ js) n ks o grown h =
    let d = default_of v x.things m.owner m.point in
    grown_held (answer_innermost m.point d.0 d.1 js) js o (grown_answer m.point d.0 d.1 js)
    (grown_held js ks o grown.1 h)

-- a level that just began holds nothing
fresh_held : (n : Level) (ks : List Level) (w : Things) (o : Object) → IsNew n w →
    is_held_in (n ∷ ks) o ≡ true → is_held_in ks o ≡ true
fresh_held n ks w o fresh h = sym (ap (λ (x : Held). is_held x || is_held_in ks o) (ap (λ t. t o) fresh.touched)) ∙ h

-- after a fallen level
fell_holds : (v : World) (images : ImageTable) (p : ℕ) (es : List Effect) (w : Objects) (ls : List
    Level) (c : Config) (o : Object) → is_going_on (micro_on v images p w ls).said ≡ true →
    length (micro_on v images p w ls).config.levels ≡ suc (length ls) → effects_on (owner_among
    (micro_on v images p w ls).config.levels) es (micro_on v images p w ls).config ≡ Some c →
    is_held_in (micro_on v images p w ls).config.levels o ≡ true →
    is_held_in (level_ends v c.now c.levels).levels o ≡ true
fell_holds v images p es w [] c o went more effects h = not_going h
fell_holds v images p es w (l ∷ ls) c o went more effects h =
    let r = micro_on v images p w (l ∷ ls) in
    let begun = shape_begun l ls r.config.now.things (is_going_on r.said) r.config.levels
    (levels_turn v images p w l ls).shape went more in
    let stood = effects_stood (owner_among r.config.levels) es r.config c effects in
    ends_held v c.now c.levels begun.new (begun.asker ∷ begun.rest) o (subst (AreGrown c.levels) begun.is stood.1)
    (fresh_held begun.new (begun.asker ∷ begun.rest) r.config.now.things o begun.fresh
    (subst (λ xs. is_held_in xs o ≡ true) begun.is h))

mark_holds : (v : World) (images : ImageTable) (p : ℕ) (k : Mark) (t z : Trace) (o : Object) →
    mark_on v images p k t ≡ Some z → is_held_in t.config.levels o ≡ true →
    is_held_in z.config.levels o ≡ true
mark_holds v images p Stepped t z o e h =
    let f = stepped_split t (micro v images p t.config) z e in
    subst (λ (y : Trace). is_held_in y.config.levels o ≡ true) f.1
    (went_holds v images p t.config.now t.config.levels o f.0 h)
mark_holds v images p (Fell es) t z o e h =
    let f = fell_split v images p es t z e in
    subst (λ (y : Trace). is_held_in y.config.levels o ≡ true) f.result
    (fell_holds v images p es t.config.now t.config.levels f.config o f.went f.more f.effects
    (went_holds v images p t.config.now t.config.levels o f.went h))

pub marks_hold : (v : World) (images : ImageTable) (p : ℕ) (ks : List Mark) (t z : Trace)
    (o : Object) → marks_on v images p ks t ≡ Some z → is_held_in t.config.levels o ≡ true →
    is_held_in z.config.levels o ≡ true
marks_hold v images p [] t z o e h = subst (λ (y : Trace). is_held_in y.config.levels o ≡ true) (is_it t z e) h
  where
    is_it : (t z : Trace) → Some t ≡ Some z → t ≡ z
    is_it t z h = cc
marks_hold v images p (k ∷ ks) t z o e h =
    let f = marks_split v images p k ks t z e in
    marks_hold v images p ks f.0 z o f.2 (mark_holds v images p k t f.0 o f.1 h)

-- ---- marks

-- where the other trace leads
record LeadsLike (v : World) (u : Objects) (x : Option Trace) (z : Trace) : Type 0 where
  trace : Trace
  is : x ≡ Some trace
  alike : TracesAlike z trace
  replayed : IsReplayed v u trace.config

owner_alike : (ls ks : List Level) → LevelsAlike ls ks → owner_among ls ≡ owner_among ks
owner_alike [] [] h = refl
owner_alike (l ∷ ls) (k ∷ ks) h = ap (λ (m : Level). m.owner) h.0
owner_alike [] (k ∷ ks) h = absurd h
owner_alike (l ∷ ls) [] h = absurd h

module _ (v : World) (images : ImageTable) (p : ℕ) (s u : Objects) where
  -- a fallen level on both, by the levels of the first
  fallen_alike : (es : List Effect) (w : Objects) (ls : List Level) (d : Config) (c : Config) →
      IsReplayed v s (record { now = w; levels = ls }) → IsReplayed v u d →
      ConfigsAlike (record { now = w; levels = ls }) d →
      is_going_on (micro_on v images p w ls).said ≡ true →
      length (micro_on v images p w ls).config.levels ≡ suc (length ls) →
      effects_on (owner_among (micro_on v images p w ls).config.levels) es (micro_on v images p w ls).config ≡ Some c →
      ((o : Object) → is_held_in (level_ends v c.now c.levels).levels o ≡ true → SameAt o s u) →
      OutcomesAlike (record { now = w; levels = ls }) d (micro_on v images p w ls) (micro v images p d)
      × FellAlike v c (effects_on (owner_among (micro v images p d).config.levels) es (micro v images p d).config)
  fallen_alike es w [] d c first second alike went more effects same = absurd (none_some first.sound.some)
    where
      none_some : 1 ≤ 0 → ⊥
      none_some h = omega arith
  fallen_alike es w (l ∷ ls) d c first second alike went more effects same =
      let before : Config = record { now = w; levels = l ∷ ls } in
      let r = micro_on v images p w (l ∷ ls) in
      let q = micro v images p d in
      let begun = shape_begun l ls r.config.now.things (is_going_on r.said) r.config.levels
      (levels_turn v images p w l ls).shape went more in
      let both = went_alike v images p s u before d first second alike went
      (λ o h. same o (fell_holds v images p es w (l ∷ ls) c o went more effects h)) in
      let on : is_going_on q.said ≡ true = sym (ap is_going_on both.said) ∙ went in
      let after = instructions_replay v images p s before first went in
      let other = instructions_replay v images p u d second on in
      let owner : begun.new.owner ≡ owner_among q.config.levels = ap owner_among (sym begun.is)
      ∙ owner_alike r.config.levels q.config.levels both.config.levels in (
        both,
        subst (λ i. FellAlike v c (effects_on i es q.config)) owner
            (fell_alike v s u r.config.now begun.new begun.asker begun.rest es c q.config
            (subst (λ xs. IsReplayed v s (record { now = r.config.now; levels = xs }))
            begun.is after) other
            (subst (λ xs. ConfigsAlike (record { now = r.config.now; levels = xs }) q.config)
            begun.is both.config) begun.fresh
            (subst (λ xs. effects_on (owner_among xs) es
            (record { now = r.config.now; levels = xs }) ≡ Some c) begun.is effects) same),
      )

  mark_alike : (k : Mark) (t y z : Trace) → mark_on v images p k t ≡ Some z →
      IsReplayed v s t.config → IsReplayed v u y.config → TracesAlike t y →
      AllStand z.config.now.accounts z.config.levels →
      ((o : Object) → is_held_in z.config.levels o ≡ true → SameAt o s u) → LeadsLike v u (mark_on v images p k y) z
  mark_alike Stepped t y z e first second alike stand same =
      let r = micro v images p t.config in
      let q = micro v images p y.config in
      let f = stepped_split t r z e in
      let both = went_alike v images p s u t.config y.config first second alike.config f.0
      (subst (λ (x : Trace). (o : Object) → is_held_in x.config.levels o ≡ true → SameAt o s u)
      (sym f.1) same) in
      let on : is_going_on q.said ≡ true = sym (ap is_going_on both.said) ∙ f.0 in
      subst (LeadsLike v u (mark_on v images p Stepped y)) f.1
      (record {
        trace = trace_after y q;
        is = stepped_join y q on;
        alike = record { config = both.config; marks = ap suc alike.marks; pasts = after_alike t y r q alike both };
        replayed = instructions_replay v images p u y.config second on;
      })
  mark_alike (Fell es) t y z e first second alike stand same =
      let r = micro v images p t.config in
      let q = micro v images p y.config in
      let f = fell_split v images p es t z e in
      let from = λ (o : Object) (h : is_held_in (level_ends v f.config.now f.config.levels).levels o
      ≡ true). same o (subst (λ (x : Trace). is_held_in x.config.levels o ≡ true) f.result h) in
      let both = fallen_alike es t.config.now t.config.levels y.config f.config first second
      alike.config f.went f.more f.effects from in
      let on : is_going_on q.said ≡ true = sym (ap is_going_on both.0.said) ∙ f.went in
      let more = sym (length_alike r.config.levels q.config.levels both.0.config.levels) ∙ f.more
      ∙ ap suc (length_alike t.config.levels y.config.levels alike.config.levels) in
      let is = fell_join v images p es y both.1.config on more both.1.is in
      let x = trace_fallen v es (trace_after t r) f.config in
      let other = trace_fallen v es (trace_after y q) both.1.config in
      let one = mark_replays v images p s (Fell es) t x (e ∙ ap Some (sym f.result)) first (subst
      (λ (a : Trace). AllStand a.config.now.accounts a.config.levels) (sym f.result) stand) in
      let two = mark_replays v images p u (Fell es) y other is second
      (stand_other v s u x.config other.config one both.1.levels both.1.now) in
      subst (LeadsLike v u (mark_on v images p (Fell es) y)) f.result
      (record {
        trace = other;
        is = is;
        alike = record {
          config = alike_from v s u x.config other.config one two both.1.levels both.1.now;
          marks = ap suc alike.marks;
          pasts = ap (λ ps. with_effects es (outer_pasts ps)) (after_alike t y r q alike both.0);
        };
        replayed = two;
      })

  marks_alike : (ks : List Mark) (t y z : Trace) → marks_on v images p ks t ≡ Some z →
      IsReplayed v s t.config → IsReplayed v u y.config → TracesAlike t y →
      AllStand z.config.now.accounts z.config.levels →
      ((o : Object) → is_held_in z.config.levels o ≡ true → SameAt o s u) →
      LeadsLike v u (marks_on v images p ks y) z
  marks_alike [] t y z e first second alike stand same =
      subst (LeadsLike v u (Some y)) (is_it t z e) (record { trace = y; is = refl; alike = alike; replayed = second })
    where
      is_it : (t z : Trace) → Some t ≡ Some z → t ≡ z
      is_it t z h = cc
  marks_alike (k ∷ ks) t y z e first second alike stand same =
      let f = marks_split v images p k ks t z e in
      let middle = marks_stood v images p ks f.0 z f.2 stand in
      let one = mark_alike k t y f.0 f.1 first second alike middle
      (λ o h. same o (marks_hold v images p ks f.0 z o f.2 h)) in
      let rest = marks_alike ks f.0 one.trace z f.2
      (mark_replays v images p s k t f.0 f.1 first middle) one.replayed one.alike stand same in
      record {
        trace = rest.trace;
        is = marks_join v images p k ks y one.trace one.is ∙ rest.is;
        alike = rest.alike;
        replayed = rest.replayed;
      }

-- ---- whole histories

-- the same objects are needed, where the states agree on them
pub needs_same : (m : Meaning) (laws : Laws m) (v : World) (s u : Objects) (p : ℕ) (t : Stage) →
    m.fits v s p t ≡ true → m.fits v u p t ≡ true → AgreeOn (m.need v s p t) s u →
    m.need v s p t ≡ m.need v u p t
needs_same m laws v s u p t first second agree =
    let xs = m.need v s p t in
    let ys = m.need v u p t in
    let n = length xs + length ys in
    sym (take_all (suc n) xs (left (length xs) (length ys)))
    ∙ laws.need.prefix v s u p t n first second (subst (λ ns. AgreeOn ns s u)
    (sym (take_all n xs (left_less (length xs) (length ys)))) agree)
    ∙ take_all (suc n) ys (right (length xs) (length ys))
  where
    left : (a b : ℕ) → a ≤ suc (a + b)
    left a b = omega arith

    left_less : (a b : ℕ) → a ≤ a + b
    left_less a b = omega arith

    right : (a b : ℕ) → b ≤ suc (a + b)
    right a b = omega arith

-- a level that has just begun on each state
begun_same : (images : ImageTable) (s u : Objects) (p q pt : ℕ) (args feed : List ℕ) (t : Touched) →
    SameAt (Graft q pt) s u →
    record (new_level images s p 0 q pt args feed t) { kept = u.things } ≡ new_level images u p 0 q pt args feed t
begun_same images s u p q pt args feed t graft =
    ap (λ g. first g (s.things.segment q pt)) graft.0 ∙ ap (first (u.accounts.graft q pt)) graft.1
  where
    first : Option GraftValue → Option (ℕ → ℕ) → Level
    first g kept = record {
      owner = q;
      point = pt;
      machine =
          first_machine (base_of p 0) args
          (fed feed (segment_with (image_of images g) (keeps_in (image_of images g)) kept));
      count = 0;
      touched = t;
      args = args;
      records = [];
      kept = u.things;
    }

-- where a graft call begins on the other state
begin_alike : (m : Meaning) (laws : Laws m) (owns : NeedsGraftsExclusively m) (v : World)
    (images : ImageTable) (s u : Objects) (p : ℕ) (t : Stage) (a : Point) →
    IsStanding m v images s p t → IsStanding m v images u p t → m.asks v s p t ≡ Some a →
    IsReplayed v s (begin_at images s p (m.need v s p t) (m.feed t) a) →
    ((o : Object) → is_held_in (begin_at images s p (m.need v s p t) (m.feed t) a).levels o ≡ true → SameAt o s u) →
    (c : Config) × (begin m v images u p t ≡ Some c)
    × ConfigsAlike (begin_at images s p (m.need v s p t) (m.feed t) a) c × IsReplayed v u c
begin_alike m laws owns v images s u p t a first second asks replayed same =
    let base = m.need v s p t in
    let agree : AgreeOn base s u = λ o h. same o (or_left (is_held (touch_all base untouched o))
    false (touch_all_gives base untouched o h)) in
    let needs = needs_same m laws v s u p t first.fits second.fits agree in
    let asked = sym (laws.ask.looks v s u p t first.fits second.fits agree) ∙ asks in
    let before = begin_at images s p base (m.feed t) a in
    let after = begin_at images u p base (m.feed t) a in
    let is : begin m v images u p t ≡ Some after =
    ap (λ ns. begin_with images u p ns (m.feed t) (m.asks v u p t)) (sym needs)
    ∙ ap (begin_with images u p base (m.feed t)) asked in
    let graft = same (Graft a.installer a.point) (outermost_held before.levels (Graft a.installer
    a.point) (replayed.sound.paid (only before.levels) (0, below_suc 0, refl)).0) in
    let levels : LevelsAlike before.levels after.levels = (
      begun_same images s u p a.installer
          a.point a.args (m.feed t) (touch_all base untouched) graft,
      tt,
    ) in
    let two = beginnings_stand m laws owns v images u p t after second is
    (stand_other v s u before after replayed levels same) in
    (after, is, alike_from v s u before after replayed two levels same, two)
  where
    only : List Level → Level
    only ls = new_level images s p 0 a.installer a.point a.args (m.feed t) (touch_all (m.need v s p t) untouched)

    below_suc : (n : ℕ) → 0 < suc n
    below_suc n = omega arith

pub histories_alike : (m : Meaning) → HistoriesAlike m
histories_alike m v images s u p t ks z laws first second e stand same =
    let f = replay_split m v images s p t ks z e in
    let all = all_stand z.config stand in
    let one = beginnings_stand m laws laws.need.grafts v images s p t f.0 first f.1
    (marks_stood v images p ks (first_trace f.0) z f.2 all) in
    by_asks (m.asks v s p t) refl f.0 f.1 one f.2 all
  where
    is_it : (c d : Config) → Some c ≡ Some d → c ≡ d
    is_it c d h = cc

    by_begin : (c : Config) → IsReplayed v s c → marks_on v images p ks (first_trace c) ≡ Some z →
        AllStand z.config.now.accounts z.config.levels →
        ((d : Config) × (begin m v images u p t ≡ Some d) × ConfigsAlike c d × IsReplayed v u d) →
        (other : Trace) × (replay m v images u p t ks ≡ Some other) × TracesAlike z other
    by_begin c one marks all d =
        let leads = marks_alike v images p s u ks (first_trace c) (first_trace d.0) z marks one d.3
        (record { config = d.2; marks = refl; pasts = refl }) all same in
        (leads.trace, replay_join m v images u p t ks d.0 d.1 ∙ leads.is, leads.alike)

    by_asks : (x : Option Point) → m.asks v s p t ≡ x → (c : Config) →
        begin_with images s p (m.need v s p t) (m.feed t) x ≡ Some c → IsReplayed v s c →
        marks_on v images p ks (first_trace c) ≡ Some z →
        AllStand z.config.now.accounts z.config.levels →
        (other : Trace) × (replay m v images u p t ks ≡ Some other) × TracesAlike z other
    by_asks None f c h one marks all = absurd cc
    by_asks (Some a) f c h one marks all =
        let begun = begin_at images s p (m.need v s p t) (m.feed t) a in
        let here = is_it begun c h in
        let own = subst (IsReplayed v s) (sym here) one in
        let on = subst (λ (x : Config). marks_on v images p ks (first_trace x) ≡ Some z) (sym here) marks in
        by_begin begun own on all (begin_alike m laws laws.need.grafts v images s u p t a first
        second f own (λ o k. same o (marks_hold v images p ks (first_trace begun) z o on k)))
