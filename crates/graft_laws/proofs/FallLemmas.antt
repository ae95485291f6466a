-- The history after the drop of a level above 0 leads to the config that the drop gave.
use Rattle.std.specs.Prelude.{◌≡◌, ℕ, suc, ◌<◌, ◌≤◌, ◌==◌, Bool, true, false, List, [], ◌∷◌, ◌++◌}
use Rattle.std.specs.Prelude.{length, take, reverse, Contains, Option, Some, None, ◌⊎◌}
use Rattle.std.proofs.Common.{arith, refl, subst, sym, ap, ◌∙◌, inl, inr}
use Rattle.std.proofs.lemmas.Bool.{cases_Bool}
use Rattle.std.proofs.lemmas.Bool.Decides.{nat_tests}
use Rattle.std.proofs.lemmas.List.Elements.{Contains-append_right}
use Rattle.kernel_model.specs.declared.Cause.{Cause}
use Rattle.kernel_model.specs.declared.Held.{Held}
use Rattle.kernel_model.specs.declared.Micro.{Micro}
use Rattle.kernel_model.specs.declared.Object.TheVariants.{Graft}
use Rattle.kernel_model.specs.declared.Point.{Point}
use Rattle.kernel_model.specs.World.{World, ImageTable}
use Rattle.kernel_model.specs.Objects.{Objects, Accounts, Things}
use Rattle.kernel_model.specs.Policies.{default_of}
use Rattle.kernel_model.specs.Charges.{removed}
use Rattle.kernel_model.specs.Meaning.{Meaning, Stage}
use Rattle.kernel_model.specs.Levels.{Level, Config, Effect, Removed, Outcome, level_at}
use Rattle.kernel_model.specs.Levels.{outermost_touched, answer_innermost, drop_innermost}
use Rattle.kernel_model.specs.Levels.{drop_level}
use Rattle.kernel_model.specs.GraftStep.{micro, micro_on}
use Rattle.kernel_model.specs.History.{Mark, Fell, Trace, first_trace, trace_after, trace_fallen}
use Rattle.kernel_model.specs.History.{effects_on, owner_among, effects_since, marks_before}
use Rattle.kernel_model.specs.History.{fallen, begin, begin_at, begin_with, replay}
use Rattle.kernel_model.specs.Blocking.{config_in}
use Rattle.kernel_model.specs.Laws.{Laws, IsStanding, NeedsGraftsExclusively}
use Rattle.graft_laws.specs.Histories.{outside_of, GraftsStand, IsReplayed}
use Rattle.graft_laws.proofs.MarkLemmas.{replay_split, replay_join, fell_join, marks_join}
use Rattle.graft_laws.proofs.HistoryReplayLemmas.{marks_stood, marks_replay}
use Rattle.graft_laws.proofs.BeginningLemmas.{all_stand, beginnings_stand}
use Rattle.graft_laws.proofs.OuterLemmas.{touched_by, Outer, Stays, Starts, Answers, Lost, Over}
use Rattle.graft_laws.proofs.OuterLemmas.{Replays, effect_then, remove_again, levels_replay}
use Rattle.graft_laws.proofs.PastLemmas.{HasRoot, root_of, effects_both}
use Rattle.graft_laws.proofs.RootLemmas.{IsRooted, marks_both, marks_rooted}
use Rattle.kernel_laws.proofs.SoundConfigLemmas.{at_top, at_inner}

-- ---- the level that is dropped

-- a level by its number is dropped with those outside it left
pub drop_is : (v : World) (w : Objects) (ls : List Level) (d : ℕ) (cause : Cause) (l : Level) →
    level_at d ls ≡ Some l →
    drop_level v w ls d cause ≡ drop_innermost v w l (outside_of d ls) cause
drop_is v w [] d cause l e = absurd cc
drop_is v w (x ∷ ls) d cause l e = by_top (length ls == d) e (drop_is v w ls d cause l)
  where
    is_it : (x y : Level) → Some x ≡ Some y → x ≡ y
    is_it x y e = cc

    by_top : (b : Bool) → elim b as (λ _. Option Level) [ true ↦ Some x | false ↦ level_at d ls ] ≡ Some l →
        (level_at d ls ≡ Some l → drop_level v w ls d cause ≡ drop_innermost v w l (outside_of d ls) cause) →
        elim b as (λ _. Outcome) [ true ↦ drop_innermost v w x ls cause | false ↦ drop_level v w ls d cause ]
        ≡ drop_innermost v w l (elim b as (λ _. List Level) [ true ↦ ls | false ↦ outside_of d ls ]) cause
    by_top true e rest = ap (λ (y : Level). drop_innermost v w y ls cause) (is_it x l e)
    by_top false e rest = rest e

-- it is one of them
pub level_contains : (ls : List Level) (d : ℕ) (l : Level) → level_at d ls ≡ Some l → Contains ls l
level_contains [] d l e = absurd cc
level_contains (x ∷ ls) d l e = by_top (length ls == d) e (level_contains ls d l)
  where
    is_it : (x y : Level) → Some x ≡ Some y → x ≡ y
    is_it x y e = cc

    below_suc : (n : ℕ) → 0 < suc n
    below_suc n = omega arith

    by_top : (b : Bool) →
        elim b as (λ _. Option Level) [ true ↦ Some x | false ↦ level_at d ls ] ≡ Some l →
        (level_at d ls ≡ Some l → Contains ls l) → Contains (x ∷ ls) l
    by_top true e rest = subst (Contains (x ∷ ls)) (is_it x l e) (0, below_suc (length ls), refl)
    by_top false e rest = Contains-append_right (x ∷ []) ls l (rest e)

-- where no level has the number nothing is dropped
drop_none : (v : World) (w : Objects) (ls : List Level) (d : ℕ) (cause : Cause) →
    level_at d ls ≡ None → (drop_level v w ls d cause).said ≡ Micro.Went
drop_none v w [] d cause e = refl
drop_none v w (x ∷ ls) d cause e = by_top (length ls == d) e (drop_none v w ls d cause)
  where
    by_top : (b : Bool) →
        elim b as (λ _. Option Level) [ true ↦ Some x | false ↦ level_at d ls ] ≡ None →
        (level_at d ls ≡ None → (drop_level v w ls d cause).said ≡ Micro.Went) →
        (elim b as (λ _. Outcome) [
          | true ↦ drop_innermost v w x ls cause
          | false ↦ drop_level v w ls d cause
        ]).said ≡ Micro.Went
    by_top true e rest = absurd cc
    by_top false e rest = rest e

-- the levels outside level d have the same level 0
pub outside_outer : (ls : List Level) (d : ℕ) (l : Level) → 1 ≤ d →
    level_at d ls ≡ Some l → (k : Level) × (ks : List Level) × (outside_of d ls ≡ k ∷ ks)
    × (outermost_touched ls ≡ outermost_touched (k ∷ ks))
outside_outer [] d l some e = absurd cc
outside_outer (x ∷ []) d l some e = by_top d (0 == d) refl some e
  where
    zero_not : (d : ℕ) → 1 ≤ d → (0 == d) ≡ true → ⊥
    zero_not d h e = grind (arith, nat_tests)

    by_top : (d : ℕ) (b : Bool) → (0 == d) ≡ b → 1 ≤ d →
        elim b as (λ _. Option Level) [ true ↦ Some x | false ↦ None ] ≡ Some l →
        (k : Level) × (ks : List Level) × (outside_of d (x ∷ []) ≡ k ∷ ks)
        × (outermost_touched (x ∷ []) ≡ outermost_touched (k ∷ ks))
    by_top d true f some e = absurd (zero_not d some f)
    by_top d false f some e = absurd cc
outside_outer (x ∷ y ∷ ls) d l some e = elim (cases_Bool (length (y ∷ ls) == d)) [
  | inl top ↦ (y, ls, ap (λ b. elim b as (λ _. List Level) [ true ↦ y ∷ ls | false ↦ outside_of d (y ∷ ls) ]) top, refl)
  | inr inner ↦
      let k = outside_outer (y ∷ ls) d l some (sym (at_inner d x (y ∷ ls) inner) ∙ e) in (
        k.0,
        k.1,
        ap (λ b. elim b as (λ _. List Level) [
          | true ↦ y ∷ ls
          | false ↦ outside_of d (y ∷ ls)
        ]) inner ∙ k.2,
        k.3,
      )
]

-- ---- the history after it

module _ (m : Meaning) (laws : Laws m) (owns : NeedsGraftsExclusively m) (v : World)
    (images : ImageTable) (s : Objects) (p : ℕ) (t : Stage) (ks : List Mark) (now : Trace)
    (standing : IsStanding m v images s p t) (leads : replay m v images s p t ks ≡ Some now)
    (stand : GraftsStand now.config) where
  -- the trace is rooted
  rooted : (c : Config) × (begin m v images s p t ≡ Some c)
      × IsRooted v images p (first_trace c) ks now × IsReplayed v s now.config
  rooted =
      let f = replay_split m v images s p t ks now leads in
      let all = all_stand now.config stand in
      let one = beginnings_stand m laws owns v images s p t f.0 standing f.1
      (marks_stood v images p ks (first_trace f.0) now f.2 all) in (
        f.0,
        f.1,
        marks_rooted v images p (first_trace f.0) s ks [] (first_trace f.0) now f.2 one all
            (first_rooted f.0 f.1),
        marks_replay v images p s ks (first_trace f.0) now f.2 one all,
      )
    where
      is_it : (c d : Config) → Some c ≡ Some d → c ≡ d
      is_it c d h = cc

      first_rooted : (c : Config) → begin m v images s p t ≡ Some c →
          IsRooted v images p (first_trace c) [] (first_trace c)
      first_rooted c e = by_asks (m.asks v s p t) e
        where
          by_asks : (x : Option Point) →
              begin_with images s p (m.need v s p t) (m.feed t) x ≡ Some c →
              IsRooted v images p (first_trace c) [] (first_trace c)
          by_asks None e = absurd cc
          by_asks (Some a) e =
              subst (λ (d : Config). IsRooted v images p (first_trace d) [] (first_trace d))
              (is_it (begin_at images s p (m.need v s p t) (m.feed t) a) c e)
              (record { marks = refl; prefix = refl; rooted = tt; owner = a.installer; of = (refl, tt) })

  -- effects after those since level l began, and then its end
  ends_at : (c0 : Config) → begin m v images s p t ≡ Some c0 →
      (l : Level) (outer : List Level) (n : ℕ) (since more : List Effect) (b : Accounts) →
      (r : HasRoot v images p (first_trace c0) ks now.config.now.accounts since l outer n) →
      effects_on r.new.owner more (record {
        now = record { accounts = now.config.now.accounts; things = l.kept };
        levels = r.new ∷ outer;
      })
      ≡ Some (record { now = record { accounts = b; things = l.kept }; levels = r.new ∷ outer }) →
      config_in (replay m v images s p t (take n ks ++ Fell (reverse since ++ more) ∷ []))
      ≡ Some (record {
        now = record { accounts = b; things = l.kept };
        levels = answer_innermost l.point (default_of v l.kept l.owner l.point).0
            (default_of v l.kept l.owner l.point).1 outer;
      })
  ends_at c0 begins l outer n since more b r on =
      let t0 = first_trace c0 in
      let start = (micro v images p r.trace.config).config in
      let es = reverse since ++ more in
      let middle : Config = record {
        now = record { accounts = now.config.now.accounts; things = l.kept };
        levels = r.new ∷ outer;
      } in
      let last : Config = record { now = record { accounts = b; things = l.kept }; levels = r.new ∷ outer } in
      let owner : owner_among start.levels ≡ r.new.owner = ap owner_among r.begun in
      let effects : effects_on (owner_among start.levels) es start ≡ Some last =
      ap (λ q. effects_on q es start) owner
      ∙ effects_both v images p t0 r.new.owner (reverse since) more start middle r.leads ∙ on in
      let mark = fell_join v images p es r.trace last r.went r.more effects in
      let z = trace_fallen v es (trace_after r.trace (micro v images p r.trace.config)) last in
      let replayed : replay m v images s p t (take n ks ++ Fell es ∷ []) ≡ Some z =
      replay_join m v images s p t (take n ks ++ Fell es ∷ []) c0 begins
      ∙ marks_both v images p t0 (take n ks) (Fell es ∷ []) t0 r.trace r.prefix
      ∙ marks_join v images p (Fell es) [] r.trace z mark in
      ap config_in replayed
      ∙ ap (λ q. Some (record {
        now = record { accounts = b; things = l.kept };
        levels =
            answer_innermost r.new.point (default_of v l.kept q r.new.point).0
            (default_of v l.kept q r.new.point).1 outer;
      })) r.owner
      ∙ ap (λ pt. Some (record {
        now = record { accounts = b; things = l.kept };
        levels = answer_innermost pt (default_of v l.kept l.owner pt).0
            (default_of v l.kept l.owner pt).1 outer;
      })) r.point

  -- after the drop of level d, where what the drop adds leads on
  falls_by : (d : ℕ) (l : Level) (more : List Effect) (b : Accounts) → 1 ≤ d → level_at d now.config.levels ≡ Some l →
      ((new : Level) → new.owner ≡ l.owner →
      effects_on new.owner more (record {
        now = record { accounts = now.config.now.accounts; things = l.kept };
        levels = new ∷ outside_of d now.config.levels;
      })
      ≡ Some (record {
        now = record { accounts = b; things = l.kept };
        levels = new ∷ outside_of d now.config.levels;
      })) →
      config_in (replay m v images s p t (fallen now ks more d))
      ≡ Some (record {
        now = record { accounts = b; things = l.kept };
        levels =
            answer_innermost l.point (default_of v l.kept l.owner l.point).0
            (default_of v l.kept l.owner l.point).1 (outside_of d now.config.levels);
      })
  falls_by d l more b some at on =
      let all = rooted in
      let root = root_of v images p (first_trace all.0) ks
      now.config.now.accounts [] now.config.levels now.pasts d l all.2.rooted some at in
      ends_at all.0 all.1 l (outside_of d now.config.levels) (marks_before d now.pasts)
      (effects_since d now.pasts) more b root (on root.new root.owner)

  -- effects of another owner and from other accounts and levels, where these are the same
  on_same : (q i : ℕ) (es : List Effect) (a b c : Accounts) (x : Things) (n : Level)
      (ls js : List Level) → q ≡ i → a ≡ b → ls ≡ js →
      effects_on i es (record { now = record { accounts = b; things = x }; levels = n ∷ js })
      ≡ Some (record { now = record { accounts = c; things = x }; levels = n ∷ js }) →
      effects_on q es (record { now = record { accounts = a; things = x }; levels = n ∷ ls })
      ≡ Some (record { now = record { accounts = c; things = x }; levels = n ∷ ls })
  on_same q i es a b c x n ls js owner accounts levels h =
      ap (λ j. effects_on j es (record { now = record { accounts = a; things = x }; levels = n ∷ ls })) owner
      ∙ ap (λ (d : Accounts). effects_on i es
      (record { now = record { accounts = d; things = x }; levels = n ∷ ls })) accounts
      ∙ ap (λ ms. effects_on i es (record { now = record { accounts = b; things = x }; levels = n ∷ ms })) levels ∙ h
      ∙ ap (λ ms. Some (record { now = record { accounts = c; things = x }; levels = n ∷ ms })) (sym levels)

  -- by an instruction
  micro_falls : (w : Objects) (ls : List Level) →
      now.config ≡ record { now = w; levels = ls } → (d q pt : ℕ) (cause : Cause) →
      (micro_on v images p w ls).said ≡ Micro.Dropped (suc d) q pt cause →
      config_in (replay m v images s p t (fallen now ks (micro_on v images p w ls).effects (suc d)))
      ≡ Some (micro_on v images p w ls).config
  micro_falls w [] here d q pt cause said = absurd cc
  micro_falls w (l ∷ ls) here d q pt cause said =
      let h = subst (IsReplayed v s) here rooted.3 in
      let first : Contains (l ∷ ls) l = (0, below_suc (length ls), refl) in
      let r = levels_replay v images p w l ls (h.sound.grafts l first) in
      by_outer (h.sound.paid l first).0 r r.outer
    where
      below_suc : (n : ℕ) → 0 < suc n
      below_suc n = omega arith

      number_of : (a b q pt r pu : ℕ) (c e : Cause) → Micro.Dropped a q pt c ≡ Micro.Dropped b r pu e → a ≡ b
      number_of a b q pt r pu c e h = cc

      some_suc : (d : ℕ) → 1 ≤ suc d
      some_suc d = omega arith

      is_number : (a b : ℕ) → a ≡ b → (a == b) ≡ true
      is_number a b e = grind (arith, nat_tests)

      split : (ls : List Level) → length ls ≡ suc d → (k : Level) × (js : List Level) × (ls ≡ k ∷ js)
      split [] e = absurd (zero_suc d e)
        where
          zero_suc : (d : ℕ) → 0 ≡ suc d → ⊥
          zero_suc d e = omega arith
      split (k ∷ js) e = (k, js, refl)

      lost : outermost_touched (l ∷ ls) (Graft l.owner l.point) ≡ Held.Exclusive →
          (r : Replays v w l ls (micro_on v images p w (l ∷ ls))) → r.asked ≡ None →
          length ls ≡ suc d →
          config_in (replay m v images s p t (fallen now ks (micro_on v images p w (l ∷ ls)).effects (suc d)))
          ≡ Some (record {
            now = record { accounts = (micro_on v images p w (l ∷ ls)).config.now.accounts; things = l.kept };
            levels =
                answer_innermost l.point (default_of v l.kept l.owner l.point).0
                (default_of v l.kept l.owner l.point).1 ls;
          })
      lost paid r none size =
          let o = micro_on v images p w (l ∷ ls) in
          let top = is_number (length ls) (suc d) size in
          let at = ap (λ (c : Config). level_at (suc d) c.levels) here ∙ at_top (suc d) l ls top in
          let outside : outside_of (suc d) now.config.levels ≡ ls =
          ap (λ (c : Config). outside_of (suc d) c.levels) here ∙ ap (λ b.
          elim b as (λ _. List Level) [ true ↦ ls | false ↦ outside_of (suc d) ls ]) top in
          let k = split ls size in
          let held : outermost_touched (k.0 ∷ k.1) (Graft l.owner l.point) ≡ Held.Exclusive =
          subst (λ xs. outermost_touched (l ∷ xs) (Graft l.owner l.point) ≡ Held.Exclusive) k.2
          paid in
          falls_by (suc d) l o.effects o.config.now.accounts (some_suc d) at (λ new owner.
          on_same new.owner l.owner o.effects now.config.now.accounts w.accounts
          o.config.now.accounts l.kept new (outside_of (suc d) now.config.levels)
          (k.0 ∷ k.1) owner
          (ap (λ (c : Config). c.now.accounts) here) (outside ∙ k.2)
          (r.effects l.kept new k.0 k.1 held
          ∙ ap (λ x. Some (record {
            now = record { accounts = o.config.now.accounts; things = l.kept };
            levels = new ∷ touched_by l.owner x (k.0 ∷ k.1);
          })) none))
          ∙ ap (λ xs. Some (record {
            now = record { accounts = o.config.now.accounts; things = l.kept };
            levels =
                answer_innermost l.point (default_of v l.kept l.owner l.point).0
                (default_of v l.kept l.owner l.point).1 xs;
          })) outside

      by_outer : outermost_touched (l ∷ ls) (Graft l.owner l.point) ≡ Held.Exclusive →
          (r : Replays v w l ls (micro_on v images p w (l ∷ ls))) →
          Outer v l ls r.asked (micro_on v images p w (l ∷ ls)).said (micro_on v images p w (l ∷ ls)).config →
          config_in (replay m v images s p t (fallen now ks (micro_on v images p w (l ∷ ls)).effects
          (suc d))) ≡ Some (micro_on v images p w (l ∷ ls)).config
      by_outer paid r (Stays n went e same) = absurd (went_not (sym went ∙ said))
        where
          went_not : Micro.Went ≡ Micro.Dropped (suc d) q pt cause → ⊥
          went_not h = cc
      by_outer paid r (Starts n b went e same owner kept) = absurd (went_not (sym went ∙ said))
        where
          went_not : Micro.Went ≡ Micro.Dropped (suc d) q pt cause → ⊥
          went_not h = cc
      by_outer paid r (Answers a b rest went e f g same) = absurd (went_not (sym went ∙ said))
        where
          went_not : Micro.Went ≡ Micro.Dropped (suc d) q pt cause → ⊥
          went_not h = cc
      by_outer paid r (Over answer went) = absurd (over_not answer (sym went ∙ said))
        where
          over_not : (answer : List ℕ) → Micro.Completed answer ≡ Micro.Dropped (suc d) q pt cause → ⊥
          over_not answer h = cc
      by_outer paid r (Lost why went e none) =
          lost paid r none (number_of (length ls) (suc d) l.owner l.point q pt why cause
          (sym went ∙ said)) ∙ ap Some (sym e)

  -- by a time-out
  drop_falls : (d q pt : ℕ) (cause why : Cause) → (drop_level v now.config.now now.config.levels
      (suc d) why).said ≡ Micro.Dropped (suc d) q pt cause →
      let o = drop_level v now.config.now now.config.levels (suc d) why in
      config_in (replay m v images s p t (fallen now ks o.effects (suc d))) ≡ Some o.config
  drop_falls d q pt cause why said = by_level (level_at (suc d) now.config.levels) refl
    where
      some_suc : (d : ℕ) → 1 ≤ suc d
      some_suc d = omega arith

      went_not : Micro.Went ≡ Micro.Dropped (suc d) q pt cause → ⊥
      went_not h = cc

      by_level : (x : Option Level) → level_at (suc d) now.config.levels ≡ x →
          let o = drop_level v now.config.now now.config.levels (suc d) why in
          config_in (replay m v images s p t (fallen now ks o.effects (suc d))) ≡ Some o.config
      by_level None at = absurd (went_not (sym (drop_none v now.config.now now.config.levels (suc d) why at) ∙ said))
      by_level (Some l) at =
          let h = rooted.3 in
          let among = level_contains now.config.levels (suc d) l at in
          let a = now.config.now.accounts in
          let b = removed l.owner l.point a in
          let k = outside_outer now.config.levels (suc d) l (some_suc d) at in
          let held : outermost_touched (k.0 ∷ k.1) (Graft l.owner l.point) ≡ Held.Exclusive =
          ap (λ t. t (Graft l.owner l.point)) (sym k.3) ∙ (h.sound.paid l among).0 in
          subst (λ (o : Outcome).
          config_in (replay m v images s p t (fallen now ks o.effects (suc d))) ≡ Some o.config)
          (sym (drop_is v now.config.now now.config.levels (suc d) why l at))
          (falls_by (suc d) l (Removed l.point ∷ []) b (some_suc d) at (λ new owner.
          on_same new.owner l.owner (Removed l.point ∷ []) a a b l.kept new
          (outside_of (suc d) now.config.levels) (k.0 ∷ k.1) owner refl k.2
          (effect_then l.owner (Removed l.point) []
          (record { now = record { accounts = a; things = l.kept }; levels = new ∷ k.0 ∷ k.1 })
          (record { now = record { accounts = b; things = l.kept }; levels = new ∷ k.0 ∷ k.1 })
          (record { now = record { accounts = b; things = l.kept }; levels = new ∷ k.0 ∷ k.1 })
          (remove_again a l.kept new k.0 k.1 l.owner l.point held (h.sound.grafts l among)) refl)))

-- the same of a history from where a call stands, where the graft of each level stands
pub falls_replay : (m : Meaning) (v : World) (images : ImageTable) (s : Objects) (p : ℕ) (t : Stage)
    (ks : List Mark) (now : Trace) (o : Outcome) (d q pt : ℕ) (cause why : Cause) →
    Laws m → NeedsGraftsExclusively m → IsStanding m v images s p t →
    replay m v images s p t ks ≡ Some now → GraftsStand now.config →
    (o ≡ micro v images p now.config) ⊎ (o ≡ drop_level v now.config.now now.config.levels (suc d)
    why) → o.said ≡ Micro.Dropped (suc d) q pt cause →
    config_in (replay m v images s p t (fallen now ks o.effects (suc d))) ≡ Some o.config
falls_replay m v images s p t ks now o d q pt cause why laws owns standing leads stand (inl micro_is) said =
    subst (λ (x : Outcome). config_in (replay m v images s p t (fallen now ks x.effects (suc d)))
    ≡ Some x.config) (sym micro_is)
    (micro_falls m laws owns v images s p t ks now standing leads stand now.config.now
    now.config.levels refl d q pt cause (ap (λ (x : Outcome). x.said) (sym micro_is) ∙ said))
falls_replay m v images s p t ks now o d q pt cause why laws owns standing leads stand (inr drop_is) said =
    subst (λ (x : Outcome). config_in (replay m v images s p t (fallen now ks x.effects (suc d)))
    ≡ Some x.config) (sym drop_is)
    (drop_falls m laws owns v images s p t ks now standing leads stand d q pt cause why
    (ap (λ (x : Outcome). x.said) (sym drop_is) ∙ said))
