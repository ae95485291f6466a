-- What is known of an instruction, and of the drop of a level, where a call's history leads.
use Rattle.std.specs.Prelude.{◌≡◌, ℕ, suc, ◌<◌, ◌≤◌, Bool, true, false, List, [], ◌∷◌, ◌++◌}
use Rattle.std.specs.Prelude.{length, Option, Some, is_some, Contains}
use Rattle.std.proofs.Common.{arith, refl, subst, sym, ap, ◌∙◌, inl, inr}
use Rattle.kernel_model.specs.declared.Cause.{Cause}
use Rattle.kernel_model.specs.declared.Micro.{Micro}
use Rattle.kernel_model.specs.declared.Object.{Object}
use Rattle.kernel_model.specs.World.{World, ImageTable}
use Rattle.kernel_model.specs.Objects.{Objects, Things, SameThing}
use Rattle.kernel_model.specs.Meaning.{Meaning}
use Rattle.kernel_model.specs.Levels.{Level, Config, Outcome, is_going_on, level_at, drop_innermost, drop_level}
use Rattle.kernel_model.specs.GraftStep.{micro, micro_on}
use Rattle.kernel_model.specs.History.{Mark, Stepped, Trace, first_trace, trace_after, replay}
use Rattle.kernel_model.specs.Kernel.{Call, Kernel}
use Rattle.kernel_model.specs.Blocking.{config_in, trace_of}
use Rattle.kernel_model.specs.InPlace.{is_changed_in}
use Rattle.kernel_model.specs.Sound.{IsSoundKernel}
use Rattle.kernel_model.specs.Laws.{Laws}
use Rattle.graft_laws.specs.Histories.{outside_of}
use Rattle.graft_laws.proofs.GrownLemmas.{AreGrown}
use Rattle.graft_laws.proofs.TurnParts.{IsEnded}
use Rattle.graft_laws.proofs.TurnLemmas.{levels_turn}
use Rattle.graft_laws.proofs.MarkLemmas.{replay_split, replay_join, marks_join, stepped_join}
use Rattle.graft_laws.proofs.RootLemmas.{marks_both}
use Rattle.graft_laws.proofs.OuterLemmas.{Outer, Stays, Starts, Answers, Lost, Over, levels_replay}
use Rattle.graft_laws.proofs.DropReplayLemmas.{drops_replay}
use Rattle.graft_laws.proofs.FallLemmas.{falls_replay}
use Rattle.graft_laws.proofs.GraftEndLemmas.{IsInGraft, micro_ends, drop_ends}
use Rattle.graft_laws.proofs.StepCommitLemmas.{trace_is}
use Rattle.graft_laws.proofs.SoundCallLemmas.{contains_first}
use Rattle.placed_laws.proofs.GraftedLemmas.{call_stands}
use Rattle.placed_laws.proofs.OutcomeLemmas.{drop_is}
use Rattle.placed_laws.proofs.OutcomeStandLemmas.{OutcomeIs}

-- ---- an instruction

none_some : {A : Type 0} → 1 ≤ 0 → A
none_some h = absurd (bad h)
  where
    bad : 1 ≤ 0 → ⊥
    bad h = omega arith

module _ (v : World) (images : ImageTable) (p : ℕ) (w : Objects) where
  micro_completes : (ls : List Level) (answer : List ℕ) → 1 ≤ length ls →
      (micro_on v images p w ls).said ≡ Micro.Completed answer →
      (micro_on v images p w ls).config.levels ≡ []
  micro_completes [] answer some e = none_some some
  micro_completes (l ∷ ls) answer some e =
      subst (λ x. IsEnded ls x (micro_on v images p w (l ∷ ls)).config.levels) e
      (levels_turn v images p w l ls).ends

  micro_unblocked : (ls : List Level) (o : Object) (h : ℕ) (user : Bool) → 1 ≤ length ls →
      (micro_on v images p w ls).said ≡ Micro.Blocked o h user → ⊥
  micro_unblocked [] o h user some e = none_some some
  micro_unblocked (l ∷ ls) o h user some e =
      subst (λ x. IsEnded ls x (micro_on v images p w (l ∷ ls)).config.levels) e
      (levels_turn v images p w l ls).ends

  micro_loses : (ls : List Level) (q pt : ℕ) (cause : Cause) → 1 ≤ length ls →
      (micro_on v images p w ls).said ≡ Micro.Dropped 0 q pt cause →
      (micro_on v images p w ls).config.levels ≡ []
  micro_loses [] q pt cause some e = none_some some
  micro_loses (l ∷ ls) q pt cause some e =
      let ended = subst (λ x. IsEnded ls x (micro_on v images p w (l ∷ ls)).config.levels) e
      (levels_turn v images p w l ls).ends in
      by_rest ls ended.0 (micro_on v images p w (l ∷ ls)).config.levels ended.1
    where
      zero_suc : (n : ℕ) → 0 ≡ suc n → ⊥
      zero_suc n e = omega arith

      by_rest : (ls : List Level) → 0 ≡ length ls → (after : List Level) → AreGrown after ls → after ≡ []
      by_rest [] none [] grown = refl
      by_rest [] none (a ∷ after) grown = absurd grown
      by_rest (k ∷ ks) none after grown = absurd (zero_suc (length ks) none)

  -- what level 0 found comes back
  micro_lost : (s : Things) (ls : List Level) (q pt : ℕ) (cause : Cause) (o : Object) →
      1 ≤ length ls →
      ((l : Level) → Contains ls l → is_some (w.accounts.graft l.owner l.point) ≡ true) →
      ((n : ℕ) (l : Level) (o : Object) → level_at n ls ≡ Some l →
      is_changed_in (outside_of n ls) o ≡ false → SameThing o l.kept s) →
      (micro_on v images p w ls).said ≡ Micro.Dropped 0 q pt cause →
      SameThing o (micro_on v images p w ls).config.now.things s
  micro_lost s [] q pt cause o some stands kept e = none_some some
  micro_lost s (l ∷ ls) q pt cause o some stands kept e =
      by_outer (levels_replay v images p w l ls (stands l (contains_first l ls))).outer
    where
      went_not : (said : Micro) → said ≡ Micro.Went → said ≡ Micro.Dropped 0 q pt cause → ⊥
      went_not said f e = bad (sym f ∙ e)
        where
          bad : Micro.Went ≡ Micro.Dropped 0 q pt cause → ⊥
          bad h = cc

      over_not : (answer : List ℕ) → Micro.Completed answer ≡ Micro.Dropped 0 q pt cause → ⊥
      over_not answer h = cc

      number_of : (n r pu : ℕ) (why : Cause) → Micro.Dropped n r pu why ≡ Micro.Dropped 0 q pt cause → n ≡ 0
      number_of n r pu why h = cc

      zero_suc : (n : ℕ) → suc n ≡ 0 → ⊥
      zero_suc n e = omega arith

      first_kept : (ks : List Level) → length ks ≡ 0 →
          ((n : ℕ) (i : Level) (o : Object) → level_at n (l ∷ ks) ≡ Some i →
          is_changed_in (outside_of n (l ∷ ks)) o ≡ false → SameThing o i.kept s) →
          SameThing o l.kept s
      first_kept [] none kept = kept 0 l o refl refl
      first_kept (k ∷ ks) none kept = absurd (zero_suc (length ks) none)

      by_outer : {asked : Option ℕ} → Outer v l ls asked
          (micro_on v images p w (l ∷ ls)).said (micro_on v images p w (l ∷ ls)).config →
          SameThing o (micro_on v images p w (l ∷ ls)).config.now.things s
      by_outer (Stays n went f same) = absurd (went_not (micro_on v images p w (l ∷ ls)).said went e)
      by_outer (Starts n b went f same owner found) = absurd (went_not (micro_on v images p w (l ∷ ls)).said went e)
      by_outer (Answers a b rest went f h i same) = absurd (went_not (micro_on v images p w (l ∷ ls)).said went e)
      by_outer (Over answer went) = absurd (over_not answer (sym went ∙ e))
      by_outer (Lost why went f none) =
          subst (λ (c : Config). SameThing o c.now.things s) (sym f)
          (first_kept ls (number_of (length ls) l.owner l.point why (sym went ∙ e)) kept)

module _ (m : Meaning) (laws : Laws m) (k : Kernel) (sound : IsSoundKernel m k) (p : ℕ) (c : Call)
    (e : k.call p ≡ Some c) (ks : List Mark) (marked : c.marks ≡ Some ks)
    (t : Trace) (leads : trace_of m k p (Some c) ≡ Some t)
    (g : IsInGraft m k.world k.images k.objects p c.stage t) where
  replayed : replay m k.world k.images k.objects p c.stage ks ≡ Some t
  replayed = trace_is m laws laws.need.grafts k p c ks marked ∙ leads

  -- the history with one more instruction
  one_more : is_going_on (micro k.world k.images p t.config).said ≡ true →
      config_in (replay m k.world k.images k.objects p c.stage (ks ++ Stepped ∷ []))
      ≡ Some (micro k.world k.images p t.config).config
  one_more went =
      let f = replay_split m k.world k.images k.objects p c.stage ks t replayed in
      let r = micro k.world k.images p t.config in
      ap config_in (replay_join m k.world k.images k.objects p c.stage (ks ++ Stepped ∷ []) f.0 f.1
      ∙ marks_both k.world k.images p (first_trace f.0) ks
      (Stepped ∷ []) (first_trace f.0) t f.2
      ∙ marks_join k.world k.images p Stepped [] t (trace_after t r) (stepped_join t r went))

  pub micro_known : OutcomeIs m laws k p c ks t g (micro k.world k.images p t.config)
  micro_known =
      let o = micro k.world k.images p t.config in
      let some = g.replayed.sound.some in
      record {
        well = micro_ends m laws laws.need.grafts k.world k.images k.objects p c.stage t g;
        completes = λ answer f. micro_completes k.world k.images p t.config.now t.config.levels answer some f;
        loses = λ q pt cause f. micro_loses k.world k.images p t.config.now t.config.levels q pt cause some f;
        lost =
            λ q pt cause b f. micro_lost k.world k.images p t.config.now k.objects.things
            t.config.levels q pt cause b some g.replayed.sound.grafts g.replayed.kept f;
        goes = λ f. one_more (ap is_going_on f);
        falls = λ d q pt cause f.
            falls_replay m k.world k.images k.objects p c.stage ks t o d q pt cause
            cause laws laws.need.grafts (call_stands m k p c sound e) replayed
            g.replayed.sound.grafts (inl refl) f;
        unblocked = λ b h user f. micro_unblocked k.world k.images p t.config.now t.config.levels b h user some f;
      }

  pub drop_known : (n : ℕ) (cause : Cause) → n < length t.config.levels →
      OutcomeIs m laws k p c ks t g (drop_level k.world t.config.now t.config.levels n cause)
  drop_known n cause low =
      let v = k.world in
      let o = drop_level v t.config.now t.config.levels n cause in
      let d = drop_is v t.config.now t.config.levels n cause low in
      let said = ap (λ (x : Outcome). x.said) d.is in
      let ends = λ (q pt : ℕ) (why : Cause) (f : o.said ≡ Micro.Dropped 0 q pt why).
      none_left d.level d.rest d.is
      (number_of (length d.rest) 0 d.level.owner q d.level.point pt cause why (sym said ∙ f)) in
      record {
        well = drop_ends m laws laws.need.grafts v k.images k.objects p c.stage t n cause g;
        completes = λ answer f. absurd (not_over answer (length d.rest) d.level.owner d.level.point (sym said ∙ f));
        loses = ends;
        lost = λ q pt why b f. drops_replay.none v k.objects t.config n cause b g.replayed (ends q pt why f) low;
        goes = λ f. absurd (not_went (length d.rest) d.level.owner d.level.point (sym said ∙ f));
        falls = λ i q pt why f.
            let number = sym d.number ∙ number_of (length d.rest) (suc i) d.level.owner q
            d.level.point pt cause why (sym said ∙ f) in
            falls_replay m v k.images k.objects p c.stage ks t o i q pt why cause laws
            laws.need.grafts (call_stands m k p c sound e) replayed g.replayed.sound.grafts
            (inr (ap (λ x. drop_level v t.config.now t.config.levels x cause) number)) f;
        unblocked =
            λ b h user f. absurd
            (not_blocked b h user (length d.rest) d.level.owner d.level.point (sym said ∙ f));
      }
    where
      not_over : (answer : List ℕ) (i q pt : ℕ) → Micro.Dropped i q pt cause ≡ Micro.Completed answer → ⊥
      not_over answer i q pt f = cc

      not_went : (i q pt : ℕ) → Micro.Dropped i q pt cause ≡ Micro.Went → ⊥
      not_went i q pt f = cc

      not_blocked : (b : Object) (h : ℕ) (user : Bool) (i q pt : ℕ) →
          Micro.Dropped i q pt cause ≡ Micro.Blocked b h user → ⊥
      not_blocked b h user i q pt f = cc

      number_of : (a b q r pt pu : ℕ) (x y : Cause) → Micro.Dropped a q pt x ≡ Micro.Dropped b r pu y → a ≡ b
      number_of a b q r pt pu x y f = cc

      none_left : (l : Level) (rest : List Level) → drop_level k.world t.config.now t.config.levels
          n cause ≡ drop_innermost k.world t.config.now l rest cause → length rest ≡ 0 →
          (drop_level k.world t.config.now t.config.levels n cause).config.levels ≡ []
      none_left l [] f none = ap (λ (x : Outcome). x.config.levels) f
      none_left l (i ∷ rest) f none = absurd (suc_zero (length rest) none)
        where
          suc_zero : (n : ℕ) → suc n ≡ 0 → ⊥
          suc_zero n e = omega arith
