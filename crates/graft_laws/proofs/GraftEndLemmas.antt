-- How graft calls end: what they need they hold, and what their ends come to.
use Rattle.std.specs.Prelude.{◌≡◌, ℕ, zero, suc, ◌<◌, ◌≤◌, ◌==◌, true, false, ◌&&◌, ◌||◌, nat_lt}
use Rattle.std.specs.Prelude.{List, [], ◌∷◌, ◌++◌, length, Contains, Option, Some, None, ⊤}
use Rattle.std.proofs.Common.{arith, refl, subst, sym, ap, ◌∙◌, inl, inr}
use Rattle.std.proofs.lemmas.Bool.{cases_Bool}
use Rattle.std.proofs.lemmas.Bool.Decides.{nat_tests}
use Rattle.kernel_model.specs.declared.Cause.{Cause}
use Rattle.kernel_model.specs.declared.Held.{Held}
use Rattle.kernel_model.specs.declared.Micro.{Micro}
use Rattle.kernel_model.specs.declared.Need.{Need}
use Rattle.kernel_model.specs.declared.Object.{Object}
use Rattle.kernel_model.specs.declared.Object.TheVariants.{Graft, Acct, Cell, OpenFile, Queue, Cache, Lock, Pol}
use Rattle.kernel_model.specs.declared.Point.{Point}
use Rattle.kernel_model.specs.World.{World, ImageTable}
use Rattle.kernel_model.specs.Objects.{Objects, Things, SameAt, SameThing}
use Rattle.kernel_model.specs.Policies.{default_of}
use Rattle.kernel_model.specs.Charges.{removed}
use Rattle.kernel_model.specs.Meaning.{Meaning, Stage}
use Rattle.kernel_model.specs.Locks.{touch_all, untouched, is_held_exclusively}
use Rattle.kernel_model.specs.Levels.{Level, Config, Effect, Outcome, is_going_on}
use Rattle.kernel_model.specs.Levels.{answer_innermost, drop_innermost, drop_level}
use Rattle.kernel_model.specs.GraftStep.{micro, micro_on}
use Rattle.kernel_model.specs.History.{Mark, Stepped, Fell, Trace, first_trace, level_ends}
use Rattle.kernel_model.specs.History.{effects_on, owner_among, mark_on, begin_at, begin_with}
use Rattle.kernel_model.specs.History.{replay, marks_on}
use Rattle.kernel_model.specs.Settle.{lost_objects}
use Rattle.kernel_model.specs.InPlace.{is_changed_in}
use Rattle.kernel_model.specs.Alike.{is_exclusive, is_needed_exclusively}
use Rattle.kernel_model.specs.Objects.{same_object}
use Rattle.kernel_model.specs.Laws.{Laws, IsStanding, before_point, needs_of_point, NeedsGraftsExclusively}
use Rattle.kernel_laws.specs.Soundness.{WorksOn, AnswersRightly, ReplayWorks}
use Rattle.kernel_laws.proofs.StoreLemmas.{remove_work}
use Rattle.kernel_laws.proofs.InstructionLemmas.{instructions_work}
use Rattle.kernel_laws.proofs.HistoryLemmas.{histories_work}
use Rattle.kernel_laws.proofs.FrameLemmas.{changes_what_is_held, same_then, differ_frame}
use Rattle.graft_laws.specs.Histories.{GraftsStand, IsReplayed}
use Rattle.graft_laws.proofs.PointLemmas.{or_left, or_right}
use Rattle.graft_laws.proofs.HoldLemmas.{touch_all_takes}
use Rattle.graft_laws.proofs.GrownLemmas.{AreGrown, grown_changed, grown_answer}
use Rattle.graft_laws.proofs.TurnParts.{IsNew, IsEnded, not_going}
use Rattle.graft_laws.proofs.TurnLemmas.{levels_turn}
use Rattle.graft_laws.proofs.ShapeLemmas.{contrary, shape_changed}
use Rattle.graft_laws.proofs.EffectLemmas.{same_back}
use Rattle.graft_laws.proofs.MarkLemmas.{stepped_split, fell_split, marks_split, replay_split}
use Rattle.graft_laws.proofs.HistoryReplayLemmas.{shape_begun, effects_stood}
use Rattle.graft_laws.proofs.BeginningLemmas.{histories_replay}
use Rattle.graft_laws.proofs.DropReplayLemmas.{both_parts, DropsAt, drop_at as dropped_at}
use Rattle.graft_laws.proofs.CommitLemmas.{EndsWell}
use Rattle.kernel_laws.proofs.FrameLemmas.{remove_differs, other_than}
use Rattle.kernel_laws.proofs.LevelLemmas.{outer_changed}
use Rattle.call_laws.specs.NeedGrafts.{or_cases}

-- ---- ends

-- level 0 ended
abbrev IsLast : Micro → Type 0
IsLast (Micro.Completed answer) = ⊤
IsLast (Micro.Dropped d q pt cause) = elim d [ zero ↦ ⊤ | suc n ↦ ⊥ ]
IsLast said = ⊥

-- ---- what a piece needs is held by the call to the end

-- a level that just began holds nothing
fresh_changed : (n : Level) (ks : List Level) (w : Things) (o : Object) → IsNew n w →
    is_changed_in (n ∷ ks) o ≡ true → is_changed_in ks o ≡ true
fresh_changed n ks w o fresh h =
    sym (ap (λ (x : Held). is_held_exclusively x || is_changed_in ks o)
    (ap (λ t. t o) fresh.touched)) ∙ h

ends_changed : (v : World) (x : Objects) (after : List Level) (n : Level)
    (ks : List Level) (o : Object) → AreGrown after (n ∷ ks) → is_changed_in ks o ≡ true →
    is_changed_in (level_ends v x after).levels o ≡ true
ends_changed v x [] n ks o grown h = absurd grown
ends_changed v x (m ∷ js) n ks o grown h =
    let d = default_of v x.things m.owner m.point in
    grown_changed (answer_innermost m.point d.0 d.1 js) js o (grown_answer m.point d.0 d.1 js)
    (grown_changed js ks o grown.1 h)

went_changed : (v : World) (images : ImageTable) (p : ℕ) (w : Objects) (ls : List Level)
    (o : Object) → is_going_on (micro_on v images p w ls).said ≡ true → is_changed_in ls o ≡ true →
    is_changed_in (micro_on v images p w ls).config.levels o ≡ true
went_changed v images p w [] o went h = h
went_changed v images p w (l ∷ ls) o went h =
    let r = micro_on v images p w (l ∷ ls) in
    shape_changed l ls r.config.now.things (is_going_on r.said) r.config.levels o
    (levels_turn v images p w l ls).shape went h

fell_changed : (v : World) (images : ImageTable) (p : ℕ) (es : List Effect) (w : Objects) (ls : List
    Level) (c : Config) (o : Object) → is_going_on (micro_on v images p w ls).said ≡ true →
    length (micro_on v images p w ls).config.levels ≡ suc (length ls) → effects_on (owner_among
    (micro_on v images p w ls).config.levels) es (micro_on v images p w ls).config ≡ Some c →
    is_changed_in (micro_on v images p w ls).config.levels o ≡ true →
    is_changed_in (level_ends v c.now c.levels).levels o ≡ true
fell_changed v images p es w [] c o went more effects h = not_going h
fell_changed v images p es w (l ∷ ls) c o went more effects h =
    let r = micro_on v images p w (l ∷ ls) in
    let begun = shape_begun l ls r.config.now.things (is_going_on r.said) r.config.levels
    (levels_turn v images p w l ls).shape went more in
    let stood = effects_stood (owner_among r.config.levels) es r.config c effects in
    ends_changed v c.now c.levels begun.new (begun.asker ∷ begun.rest) o (subst (AreGrown c.levels) begun.is stood.1)
    (fresh_changed begun.new (begun.asker ∷ begun.rest) r.config.now.things o begun.fresh
    (subst (λ xs. is_changed_in xs o ≡ true) begun.is h))

mark_changed : (v : World) (images : ImageTable) (p : ℕ) (k : Mark) (t z : Trace) (o : Object) →
    mark_on v images p k t ≡ Some z → is_changed_in t.config.levels o ≡ true →
    is_changed_in z.config.levels o ≡ true
mark_changed v images p Stepped t z o e h =
    let f = stepped_split t (micro v images p t.config) z e in
    subst (λ (y : Trace). is_changed_in y.config.levels o ≡ true) f.1
    (went_changed v images p t.config.now t.config.levels o f.0 h)
mark_changed v images p (Fell es) t z o e h =
    let f = fell_split v images p es t z e in
    subst (λ (y : Trace). is_changed_in y.config.levels o ≡ true) f.result
    (fell_changed v images p es t.config.now t.config.levels f.config o f.went f.more f.effects
    (went_changed v images p t.config.now t.config.levels o f.went h))

marks_changed : (v : World) (images : ImageTable) (p : ℕ) (ks : List Mark) (t z : Trace)
    (o : Object) → marks_on v images p ks t ≡ Some z → is_changed_in t.config.levels o ≡ true →
    is_changed_in z.config.levels o ≡ true
marks_changed v images p [] t z o e h = subst (λ (y : Trace). is_changed_in y.config.levels o ≡ true) (is_it t z e) h
  where
    is_it : (t z : Trace) → Some t ≡ Some z → t ≡ z
    is_it t z h = cc
marks_changed v images p (k ∷ ks) t z o e h =
    let f = marks_split v images p k ks t z e in
    marks_changed v images p ks f.0 z o f.2 (mark_changed v images p k t f.0 o f.1 h)

-- ---- a graft call of a sound kernel

-- a graft call (t) whose history begins where a point (a) was asked
pub record IsInGraft (m : Meaning) (v : World) (images : ImageTable) (s : Objects) (p : ℕ)
    (stage : Stage) (t : Trace) : Type 0 where
  pub point : Point
  pub asks : m.asks v s p stage ≡ Some point
  pub works : WorksOn v s point t.config
  pub replayed : IsReplayed v s t.config
  -- what the piece needs exclusively its call holds so
  pub base : (o : Object) → is_needed_exclusively o (m.need v s p stage) ≡ true → is_changed_in t.config.levels o ≡ true

module _ (m : Meaning) (laws : Laws m) (owns : NeedsGraftsExclusively m) where
  pub in_graft : (v : World) (images : ImageTable) (s : Objects) (p : ℕ) (t : Stage) (ks : List
      Mark) (now : Trace) → IsStanding m v images s p t → replay m v images s p t ks ≡ Some now →
      GraftsStand now.config → IsInGraft m v images s p t now
  in_graft v images s p t ks now standing e stand =
      let f = replay_split m v images s p t ks now e in
      by_asks (m.asks v s p t) refl f.0 f.1 f.2
    where
      is_it : (c d : Config) → Some c ≡ Some d → c ≡ d
      is_it c d h = cc

      by_asks : (x : Option Point) → m.asks v s p t ≡ x → (c : Config) →
          begin_with images s p (m.need v s p t) (m.feed t) x ≡ Some c →
          marks_on v images p ks (first_trace c) ≡ Some now →
          IsInGraft m v images s p t now
      by_asks None f c h marks = absurd cc
      by_asks (Some a) f c h marks =
          let begun = begin_at images s p (m.need v s p t) (m.feed t) a in
          let on = subst (λ (x : Config). marks_on v images p ks (first_trace x) ≡ Some now)
          (sym (is_it begun c h)) marks in
          record {
            point = a;
            asks = f;
            works =
                subst (ReplayWorks v s (Some a)) e
                (subst (λ x. ReplayWorks v s x (replay m v images s p t ks)) f
                (histories_work m v images s p t ks standing.store));
            replayed = histories_replay m v images s p t ks now laws standing e stand;
            base = λ o needs. marks_changed v images p ks (first_trace begun) now o on
                (or_left (is_held_exclusively (touch_all (m.need v s p t) untouched o)) false
                (ap is_held_exclusively (touch_all_takes (m.need v s p t) untouched o needs)));
          }

  -- what isn't held exclusively the part of a piece before its point doesn't need so
  pub before_free : (v : World) (images : ImageTable) (s : Objects) (p : ℕ) (stage : Stage) (t :
      Trace) (o : Object) → m.fits v s p stage ≡ true → (g : IsInGraft m v images s p stage t) →
      is_changed_in t.config.levels o ≡ false →
      is_needed_exclusively o (before_point s g.point (m.need v s p stage)) ≡ false
  before_free v images s p stage t o fits g none =
      elim (cases_Bool (is_needed_exclusively o (before_point s g.point (m.need v s p stage)))) [
        | inr free ↦ free
        | inl taken ↦
            contrary (sym (g.base o (subst (λ ns. is_needed_exclusively o ns ≡ true)
            (sym (laws.need.point v s p stage g.point fits g.asks))
            (taken_before o (before_point s g.point (m.need v s p stage)) (needs_of_point s g.point) taken))) ∙ none)
      ]
    where
      taken_before : (o : Object) (xs ys : List Need) → is_needed_exclusively o xs ≡ true →
          is_needed_exclusively o (xs ++ ys) ≡ true
      taken_before o [] ys h = absurd cc
      taken_before o (n ∷ xs) ys h =
          elim (or_cases (is_exclusive n.mode && same_object o n.object)
          (is_needed_exclusively o xs) h) [
            | inl here ↦ or_left (is_exclusive n.mode && same_object o n.object)
                (is_needed_exclusively o (xs ++ ys)) here
            | inr later ↦ or_right (is_exclusive n.mode && same_object o n.object)
                (is_needed_exclusively o (xs ++ ys)) (taken_before o xs ys later)
          ]

  -- ---- how it ends

  pub thing_self : (o : Object) (w : Things) → SameThing o w w
  thing_self (Graft q pt) w = refl
  thing_self (Acct q) w = tt
  thing_self (Cell q k) w = refl
  thing_self (OpenFile q fd) w = refl
  thing_self Queue w = (refl, refl)
  thing_self Cache w = refl
  thing_self (Lock u) w = refl
  thing_self (Pol k) w = refl

  -- an instruction
  pub micro_ends : (v : World) (images : ImageTable) (s : Objects) (p : ℕ) (stage : Stage)
      (t : Trace) → (g : IsInGraft m v images s p stage t) →
      EndsWell m laws v s g.point (λ o. is_changed_in t.config.levels o ≡ false)
      (micro v images p t.config) (micro v images p t.config).said
  micro_ends v images s p stage t g = by_said (micro v images p t.config).said refl
    where
      none_some : {A : Type 0} → 1 ≤ 0 → A
      none_some h = absurd (bad h)
        where
          bad : 1 ≤ 0 → ⊥
          bad h = omega arith

      ended_by : (w : Objects) (ls : List Level) (said : Micro) → 1 ≤ length ls →
          (micro_on v images p w ls).said ≡ said → (d : ℕ) → IsLast said →
          (micro_on v images p w ls).config.levels ≡ []
      ended_by w [] said some e d last = none_some some
      ended_by w (l ∷ ls) said some e d last =
          last_ends l ls said
          (subst (λ x. IsEnded ls x (micro_on v images p w (l ∷ ls)).config.levels) e
          (levels_turn v images p w l ls).ends) last
        where
          last_ends : (l : Level) (ls : List Level) (said : Micro) →
              IsEnded ls said (micro_on v images p w (l ∷ ls)).config.levels → IsLast said →
              (micro_on v images p w (l ∷ ls)).config.levels ≡ []
          last_ends l ls Micro.Went h last = absurd last
          last_ends l ls (Micro.Blocked object holder by_user) h last = absurd h
          last_ends l ls (Micro.Completed answer) h last = h
          last_ends l [] (Micro.Dropped d q pt cause) h last =
              grown_none (micro_on v images p w (l ∷ [])).config.levels h.1
            where
              grown_none : (xs : List Level) → AreGrown xs [] → xs ≡ []
              grown_none [] h = refl
              grown_none (x ∷ xs) h = absurd h
          last_ends l (k ∷ ls) (Micro.Dropped zero q pt cause) h last = absurd (zero_suc (length ls) h.0)
            where
              zero_suc : (n : ℕ) → 0 ≡ suc n → ⊥
              zero_suc n e = omega arith
          last_ends l (k ∷ ls) (Micro.Dropped (suc d) q pt cause) h last = absurd last

      same_after : (said : Micro) → (micro v images p t.config).said ≡ said →
          IsLast said → (b : Object) → is_changed_in t.config.levels b ≡ false →
          SameAt b s (micro v images p t.config).config.now
      same_after said e last b free =
          let o = micro v images p t.config in
          let none = ap (λ ls. is_changed_in ls b)
          (ended_by t.config.now t.config.levels said g.replayed.sound.some e 0 last) in
          same_back b o.config.now s (same_then b o.config.now t.config.now s (changes_what_is_held
          v images p t.config b g.replayed.sound free none) (g.replayed.now b free))

      by_said : (said : Micro) → (micro v images p t.config).said ≡ said →
          EndsWell m laws v s g.point (λ o. is_changed_in t.config.levels o ≡ false) (micro v images p t.config) said
      by_said Micro.Went e = tt
      by_said (Micro.Blocked object holder by_user) e = tt
      by_said (Micro.Completed answer) e =
          let work = instructions_work v images p s g.point t.config g.works in (
            work.0.works.1.0,
            subst (AnswersRightly g.point (micro v images p t.config).config.now.things) e work.1,
            λ b free. same_after (Micro.Completed answer) e tt b free,
          )
      by_said (Micro.Dropped zero q pt cause) e =
          let work = instructions_work v images p s g.point t.config g.works in
          let now = (micro v images p t.config).config.now in (
            work.0.works.0,
            λ b free. same_back b (lost_objects now s) s
                (both_parts b now.accounts s.things now s refl (λ k. same_back b s now (same_after
                (Micro.Dropped zero q pt cause) e tt b free)) (thing_self b s.things)),
          )
      by_said (Micro.Dropped (suc d) q pt cause) e = tt

  -- the drop of a level
  pub drop_ends : (v : World) (images : ImageTable) (s : Objects) (p : ℕ) (stage : Stage)
      (t : Trace) (n : ℕ) (cause : Cause) → (g : IsInGraft m v images s p stage t) →
      let o = drop_level v t.config.now t.config.levels n cause in
      EndsWell m laws v s g.point (λ b. is_changed_in t.config.levels b ≡ false) o o.said
  drop_ends v images s p stage t n cause g = elim (cases_Bool (nat_lt n (length t.config.levels))) [
    | inl low ↦ by_level (dropped_at v s t.config n cause g.replayed (below n (length t.config.levels) low))
    | inr high ↦ subst (λ x. EndsWell m laws v s g.point (λ b. is_changed_in t.config.levels b
        ≡ false) (drop_level v t.config.now t.config.levels n cause) x)
        (sym (drop_went t.config.now t.config.levels (beyond n (length t.config.levels) high))) tt
  ]
    where
      below : (n k : ℕ) → nat_lt n k ≡ true → n < k
      below n k h = grind (arith, nat_tests)

      beyond : (n k : ℕ) → nat_lt n k ≡ false → k ≤ n
      beyond n k h = grind (arith, nat_tests)

      drop_went : (w : Objects) (ls : List Level) → length ls ≤ n → (drop_level v w ls n cause).said ≡ Micro.Went
      drop_went w [] h = refl
      drop_went w (l ∷ ls) h =
          ap (λ b. (elim b as (λ _. Outcome) [
            | true ↦ drop_innermost v w l ls cause
            | false ↦ drop_level v w ls n cause
          ]).said) (differs (length ls) h)
          ∙ drop_went w ls (lower (length ls) h)
        where
          differs : (k : ℕ) → suc k ≤ n → (k == n) ≡ false
          differs k h = grind (arith, nat_tests)

          lower : (k : ℕ) → suc k ≤ n → k ≤ n
          lower k h = omega arith

      ends_by : (l : Level) (rest : List Level) → Contains t.config.levels l →
          EndsWell m laws v s g.point (λ b. is_changed_in t.config.levels b ≡ false) (drop_innermost
          v t.config.now l rest cause) (drop_innermost v t.config.now l rest cause).said
      ends_by l (k ∷ rest) among = tt
      ends_by l [] among =
          let a = t.config.now.accounts in
          let paid = g.replayed.sound.paid l among in (
            (remove_work v s a l.owner l.point (s.things ∷ []) (g.works.works.0, tt)).0,
            λ b free.
                let before : SameAt b (record { accounts = a; things = s.things }) s =
                both_parts b a s.things t.config.now s refl (λ k. g.replayed.now b free)
                (thing_self b s.things) in
                same_back b (record { accounts = removed l.owner l.point a; things = s.things }) s
                (same_then b (record { accounts = removed l.owner l.point a; things = s.things })
                (record { accounts = a; things = s.things }) s
                (differ_frame l.owner l.point (removed l.owner l.point a) a s.things b
                (remove_differs l.owner l.point a)
                (other_than t.config.levels b (Graft l.owner l.point) free
                (outer_changed t.config.levels (Graft l.owner l.point) paid.0))
                (other_than t.config.levels b (Acct l.owner) free
                (outer_changed t.config.levels (Acct l.owner) paid.1))) before),
          )

      by_level : DropsAt v s.things t.config.now t.config.levels n cause →
          let o = drop_level v t.config.now t.config.levels n cause in
          EndsWell m laws v s g.point (λ b. is_changed_in t.config.levels b ≡ false) o o.said
      by_level d =
          subst (λ (o : Outcome). EndsWell m laws v s g.point
          (λ b. is_changed_in t.config.levels b ≡ false) o o.said) (sym d.is)
          (ends_by d.level d.rest d.among)
