-- Steps, drops and settling keep runs sound.
use Rattle.std.specs.Prelude.{◌≡◌, ◌≢◌, ℕ, suc, ◌<◌, true, false, List, [], ◌∷◌, length, Option, Some, None, is_some}
use Rattle.std.proofs.Common.{arith, refl, subst, sym, ap, ◌∙◌, inl, inr}
use Rattle.kernel_model.specs.declared.Cause.{Cause}
use Rattle.kernel_model.specs.declared.Need.{Need}
use Rattle.kernel_model.specs.declared.Object.{Object}
use Rattle.kernel_model.specs.World.{World, Blocks}
use Rattle.kernel_model.specs.Policies.{default_of}
use Rattle.kernel_model.specs.Meaning.{Meaning}
use Rattle.kernel_model.specs.Levels.{Level, Config, Outcome, answer_innermost, drop_innermost, drop_level}
use Rattle.kernel_model.specs.GraftStep.{micro, next_needs}
use Rattle.kernel_model.specs.History.{Mark, Trace, fallen}
use Rattle.kernel_model.specs.Kernel.{Call, Run, requeue}
use Rattle.kernel_model.specs.Blocking.{config_of, levels_in, levels_of, trace_of, needs_at, needs_in, needs, blocker}
use Rattle.kernel_model.specs.Settle.{after_outcome, graft_step, marked_step, call_step, step}
use Rattle.kernel_model.specs.Events.{drop_call, drop_marked}
use Rattle.kernel_model.specs.InPlace.{is_changed_in}
use Rattle.kernel_model.specs.Sound.{IsSoundConfig, IsSoundKernel, HasWholeBlocks}
use Rattle.kernel_model.specs.Alike.{is_held_in}
use Rattle.kernel_model.specs.Laws.{Laws, NeedsGraftsExclusively}
use Rattle.kernel_laws.proofs.SoundConfigLemmas.{drops_stay_sound}
use Rattle.graft_laws.specs.Stability.{is_taken_in}
use Rattle.graft_laws.specs.Kernels.{IsSoundRun, StepsStaySound, DropsStaySound}
use Rattle.graft_laws.proofs.DropReplayLemmas.{drop_at as dropped_at}
use Rattle.graft_laws.proofs.FallLemmas.{falls_replay}
use Rattle.graft_laws.proofs.ShapeLemmas.{contrary}
use Rattle.graft_laws.proofs.GraftOriginLemmas.{ComeFrom, come_then, drop_come}
use Rattle.graft_laws.proofs.HolderLemmas.{apart_unchanged}
use Rattle.graft_laws.proofs.CommitLemmas.{EndsWell}
use Rattle.graft_laws.proofs.GraftEndLemmas.{IsInGraft, drop_ends}
use Rattle.graft_laws.proofs.StepCommitLemmas.{stands_in, requeue_commits, trace_is, config_is}
use Rattle.graft_laws.proofs.StepCommitLemmas.{levels_are, graft_of_call, marked_commits}
use Rattle.graft_laws.proofs.StepCommitLemmas.{drop_outcome_commits}
use Rattle.graft_laws.proofs.StabilityLemmas.{has_graft, caller_low, untaken}
use Rattle.graft_laws.proofs.OwnCallLemmas.{Kept, needs_free, nothing_free, few_levels, sound_after}
use Rattle.graft_laws.proofs.KernelSoundLemmas.{marks_kept, piece_kept, history_come, ended_kept, micro_kept}

-- blocks are whole also by the same world's other name
whole_in : (v w : World) (blocks : Blocks) → w ≡ v → HasWholeBlocks v blocks → HasWholeBlocks w blocks
whole_in v w blocks e h = subst (λ (x : World). HasWholeBlocks x blocks) (sym e) h

module _ (m : Meaning) (laws : Laws m) (owns : NeedsGraftsExclusively m) where
  -- ---- steps

  graft_kept : (r : Run) (q : ℕ) (c : Call) (ks : List Mark) (x : Option Trace) →
      IsSoundKernel m r.kernel → HasWholeBlocks r.kernel.world r.blocks → r.kernel.call q ≡ Some c →
      c.marks ≡ Some ks →
      trace_of m r.kernel q (Some c) ≡ x → Kept m q (needs m r.kernel q) r (graft_step m q c ks x r)
  graft_kept r q c ks None h whole e marked f = contrary (sym (h.runs q c ks e marked) ∙ ap is_some f)
  graft_kept r q c ks (Some t) h whole e marked f =
      let k = r.kernel in
      let needed : needs m k q ≡ next_needs k.world k.images t.config.now.accounts t.config.levels =
      ap (needs_in m k q) e ∙ ap (λ (y : Option (List Mark)). elim y as (λ _. List Need) [
        | None ↦ m.need k.world k.objects q c.stage
        | Some xs ↦ needs_at m k (config_of m k q)
      ]) marked
      ∙ ap (needs_at m k) (config_is m laws owns k q c t e f) in
      let o = micro k.world k.images q t.config in
      subst (λ ns. Kept m q ns r (after_outcome m q c t ks o o.said r)) (sym needed)
      (micro_kept m laws owns r q c ks t h whole e marked f)

  marked_kept : (r : Run) (q : ℕ) (c : Call) (x : Option (List Mark)) → IsSoundKernel m r.kernel →
      HasWholeBlocks r.kernel.world r.blocks → r.kernel.call q ≡ Some c → c.marks ≡ x →
      Kept m q (needs m r.kernel q) r (marked_step m q c x r)
  marked_kept r q c None h whole e marked =
      let k = r.kernel in
      let needed : needs m k q ≡ m.need k.world k.objects q c.stage =
      ap (needs_in m k q) e ∙ ap (λ (y : Option (List Mark)). elim y as (λ _. List Need) [
        | None ↦ m.need k.world k.objects q c.stage
        | Some xs ↦ needs_at m k (config_of m k q)
      ]) marked in
      subst (λ ns. Kept m q ns r (marked_step m q c None r)) (sym needed)
      (piece_kept m laws owns q c (m.asks k.world k.objects q c.stage) r h whole e refl)
  marked_kept r q c (Some ks) h whole e marked =
      graft_kept r q c ks (trace_of m r.kernel q (Some c)) h whole e marked refl

  pub step_sound : (r : Run) (q : ℕ) (c : Call) → IsSoundRun m r → r.kernel.call q ≡ Some c →
      blocker m r.kernel q ≡ None → IsSoundRun m (step m q r)
  step_sound r q c h e unblocked =
      let k = r.kernel in
      let u = marked_step m q c c.marks r in
      let free = λ (o : Object). is_taken_in m k q o (Some c) ≡ false in
      let commits = marked_commits m laws owns r q c c.marks h.kernel h.blocks e refl in
      let few = few_levels m laws owns r h.kernel h.blocks in
      subst (λ x. IsSoundRun m (requeue q (call_step m q x r))) (sym e)
      (record {
        kernel =
            sound_after m laws owns r u q c (needs m k q) free h.kernel
            h.blocks e commits (requeue_commits m laws owns q free r u commits)
            (marked_kept r q c c.marks h.kernel h.blocks e refl)
            (needs_free m k q few unblocked)
            (λ p o ne low held. sym (ap (is_taken_in m k q o) e)
            ∙ untaken m laws owns r p q c o h.kernel ne e unblocked low (few p) held);
        blocks = whole_in k.world u.kernel.world u.blocks commits.world commits.whole;
      })

  -- ---- drops

  drop_kept : (r : Run) (q : ℕ) (c : Call) (ks : List Mark) (t : Trace) (n : ℕ) (cause : Cause) →
      IsSoundKernel m r.kernel → HasWholeBlocks r.kernel.world r.blocks → r.kernel.call q ≡ Some c →
      c.marks ≡ Some ks → trace_of m r.kernel q (Some c) ≡ Some t → n < length t.config.levels →
      let o = drop_level r.kernel.world t.config.now t.config.levels n cause in
      Kept m q [] r (after_outcome m q c t ks o o.said r)
  drop_kept r q c ks t n cause h whole e marked f low =
      let k = r.kernel in
      let g = graft_of_call m laws owns r q c ks t h whole e marked f in
      let d = dropped_at k.world k.objects t.config n cause g.replayed low in
      let come = come_then k.objects.accounts t.config.now.accounts
      (drop_level k.world t.config.now t.config.levels n cause).config.now.accounts
      (history_come m laws owns r q c ks t h whole e marked f)
      (drop_come k.world t.config.now t.config.levels n cause) in
      let ends = drop_ends m laws owns k.world k.images k.objects q c.stage t n cause g in
      subst (λ (o : Outcome). Kept m q [] r (after_outcome m q c t ks o o.said r)) (sym d.is)
      (by_rest g d.level d.rest d.is d.number (λ o x. d.held o x) (λ o x. d.changed o x)
      (subst (λ (o : Outcome). ComeFrom k.objects.accounts o.config.now.accounts) d.is come)
      (subst (λ (o : Outcome). EndsWell m laws k.world k.objects g.point
      (λ b. is_changed_in t.config.levels b ≡ false) o o.said) d.is ends))
    where
      levels : levels_of m r.kernel q ≡ t.config.levels
      levels = levels_are m laws owns r.kernel q t.config (config_is m laws owns r.kernel q c t e f)

      answered_held : (pt r0 r1 : ℕ) (ls : List Level) (o : Object) →
          is_held_in (answer_innermost pt r0 r1 ls) o ≡ true → is_held_in ls o ≡ true
      answered_held pt r0 r1 [] o h = h
      answered_held pt r0 r1 (k ∷ ls) o h = h

      answered_changed : (pt r0 r1 : ℕ) (ls : List Level) (o : Object) →
          is_changed_in (answer_innermost pt r0 r1 ls) o ≡ true → is_changed_in ls o ≡ true
      answered_changed pt r0 r1 [] o h = h
      answered_changed pt r0 r1 (k ∷ ls) o h = h

      by_rest : (g : IsInGraft m r.kernel.world r.kernel.images r.kernel.objects q c.stage t)
          (l : Level) (rest : List Level) →
          drop_level r.kernel.world t.config.now t.config.levels n cause
          ≡ drop_innermost r.kernel.world t.config.now l rest cause → length rest ≡ n →
          ((o : Object) → is_held_in rest o ≡ true → is_held_in t.config.levels o ≡ true) →
          ((o : Object) → is_changed_in rest o ≡ true →
          is_changed_in t.config.levels o ≡ true) →
          ComeFrom r.kernel.objects.accounts
          (drop_innermost r.kernel.world t.config.now l rest cause).config.now.accounts →
          EndsWell m laws r.kernel.world r.kernel.objects g.point
          (λ b. is_changed_in t.config.levels b ≡ false)
          (drop_innermost r.kernel.world t.config.now l rest cause)
          (drop_innermost r.kernel.world t.config.now l rest cause).said →
          Kept m q [] r (after_outcome m q c t ks (drop_innermost r.kernel.world t.config.now l rest
          cause) (drop_innermost r.kernel.world t.config.now l rest cause).said r)
      by_rest g l [] is number held changed come ends =
          (ended_kept m laws owns q c t ks g.point (drop_innermost r.kernel.world
          t.config.now l [] cause) [] (λ b. is_changed_in t.config.levels b ≡ false) r h
          (stands_in m laws owns r q c h whole e) g.asks g.replayed.sound.some come).1
          l.owner l.point cause ends
      by_rest g l (x ∷ rest) is number held changed come ends =
          let k = r.kernel in
          let o = drop_innermost k.world t.config.now l (x ∷ rest) cause in
          let d = default_of k.world l.kept l.owner l.point in
          let own : o ≡ drop_level k.world t.config.now t.config.levels (suc (length rest)) cause =
          sym is
          ∙ ap (λ i. drop_level k.world t.config.now t.config.levels i cause) (sym number) in
          let leads = falls_replay m k.world k.images k.objects q c.stage ks t o (length rest)
          l.owner l.point cause cause laws owns (stands_in m laws owns r q c h whole e).standing
          (trace_is m laws owns k q c ks marked ∙ f) g.replayed.sound.grafts (inr own) refl in
          let sound = subst (λ (y : Outcome). y.config.levels ≢ [] → IsSoundConfig k.world y.config)
          is (drops_stay_sound k.world t.config n cause g.replayed.sound)
          (some_left l x rest) in
          let kept = marks_kept m laws owns q c (fallen t ks o.effects (suc (length rest)))
          o.config [] r h e leads sound.grafts
          (λ b y. inl (ap (λ ls. is_held_in ls b) levels ∙ held b (answered_held l.point d.0 d.1 (x ∷ rest) b y)))
          (λ b y. inl (ap (λ ls. is_changed_in ls b) levels
          ∙ changed b (answered_changed l.point d.0 d.1 (x ∷ rest) b y))) in
          record { order = kept.order; images = kept.images; own = kept.own }
        where
          some_left : (l x : Level) (rest : List Level) →
              (drop_innermost r.kernel.world t.config.now l (x ∷ rest) cause).config.levels ≢ []
          some_left l x rest e = cc

  pub drop_sound : (r : Run) (q n : ℕ) (cause : Cause) →
      IsSoundRun m r → n < length (levels_of m r.kernel q) →
      IsSoundRun m (drop_call m q (r.kernel.call q) (Some n) cause r)
  drop_sound r q n cause h low = by_config (config_of m r.kernel q) refl low
    where
      none_below : {A : Type 0} (k : ℕ) → k < 0 → A
      none_below k h = absurd (bad k h)
        where
          bad : (k : ℕ) → k < 0 → ⊥
          bad k h = omega arith

      by_config : (x : Option Config) → config_of m r.kernel q ≡ x → n < length (levels_in x) →
          IsSoundRun m (drop_call m q (r.kernel.call q) (Some n) cause r)
      by_config None e low = none_below n low
      by_config (Some y) e low =
          let k = r.kernel in
          let g = has_graft m k q y e in
          let c = g.call in
          let t = g.trace in
          let o = drop_level k.world t.config.now t.config.levels n cause in
          let u = after_outcome m q c t g.marks o o.said r in
          let free = λ (b : Object). is_changed_in (levels_of m k q) b ≡ false in
          let inside = subst (λ (z : Config). n < length z.levels) (sym g.config) low in
          let commits = drop_outcome_commits m laws owns r q c g.marks t n cause h.kernel h.blocks
          g.is g.marked g.leads in
          subst (λ x. IsSoundRun m (drop_call m q x (Some n) cause r)) (sym g.is)
          (subst (λ x. IsSoundRun m (drop_marked m q c x (trace_of m k q (Some c)) (Some n) cause r)) (sym g.marked)
          (subst (λ x. IsSoundRun m (drop_marked m q c (Some g.marks) x (Some n) cause r)) (sym g.leads)
          (record {
            kernel =
                sound_after m laws owns r u q c [] free h.kernel h.blocks g.is commits
                (requeue_commits m laws owns q free r u commits)
                (drop_kept r q c g.marks t n cause h.kernel h.blocks g.is g.marked g.leads inside) (nothing_free m q k)
                (λ p b ne below held. apart_unchanged m k p q b h.kernel ne below
                (caller_low m laws owns r q c h.kernel g.is) held);
            blocks = whole_in k.world u.kernel.world u.blocks commits.world commits.whole;
          })))

pub steps_stay_sound : (m : Meaning) → StepsStaySound m
steps_stay_sound m r p c laws h e unblocked = step_sound m laws laws.need.grafts r p c h e unblocked

pub drops_stay_sound_run : (m : Meaning) → DropsStaySound m
drops_stay_sound_run m r p n cause laws h low = drop_sound m laws laws.need.grafts r p n cause h low
