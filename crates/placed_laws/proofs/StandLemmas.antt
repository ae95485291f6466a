-- Whatever step a call takes, and whichever of its levels is dropped, the kernel in place goes on
-- to stand for the abstract one.
use Rattle.std.specs.Prelude.{◌≡◌, ◌≢◌, ℕ, suc, ◌<◌, ◌≤◌, true, List, [], ◌∷◌, length, map}
use Rattle.std.specs.Prelude.{is_some, Option, Some, None, slice_index}
use Rattle.std.proofs.Common.{arith, refl, subst, sym, ap, ◌∙◌}
use Rattle.kernel_model.specs.declared.Cause.{Cause}
use Rattle.kernel_model.specs.declared.Micro.{Micro}
use Rattle.kernel_model.specs.declared.Point.{Point}
use Rattle.kernel_model.specs.Objects.{Objects, Things, GraftValue}
use Rattle.kernel_model.specs.Policies.{valid}
use Rattle.kernel_model.specs.Meaning.{Meaning}
use Rattle.kernel_model.specs.Levels.{Level, Config, Outcome, drop_level}
use Rattle.kernel_model.specs.GraftStep.{next_needs, micro}
use Rattle.kernel_model.specs.History.{Mark, Trace}
use Rattle.kernel_model.specs.UndoLog.{undo_all}
use Rattle.kernel_model.specs.Kernel.{Call, Kernel, Run, requeue}
use Rattle.kernel_model.specs.Blocking.{config_in, levels_in, config_of, levels_of, trace_of, needs, blocker}
use Rattle.kernel_model.specs.Settle.{piece_at, piece_step, outcome_step, graft_step, marked_step, call_step, step}
use Rattle.kernel_model.specs.Events.{drop_marked, drop_call}
use Rattle.kernel_model.specs.Sound.{HasWholeBlocks}
use Rattle.kernel_model.specs.Laws.{Laws}
use Rattle.kernel_model.specs.Claims.{IsStable}
use Rattle.kernel_laws.specs.Soundness.{AnswersRightly}
use Rattle.kernel_laws.proofs.InstructionLemmas.{instructions_work}
use Rattle.graft_laws.specs.Kernels.{IsSoundRun}
use Rattle.graft_laws.proofs.GraftEndLemmas.{IsInGraft}
use Rattle.graft_laws.proofs.StepCommitLemmas.{config_is, graft_of_call}
use Rattle.graft_laws.proofs.StabilityLemmas.{calls_are_stable}
use Rattle.graft_laws.proofs.KernelStepLemmas.{steps_stay_sound, drops_stay_sound_run}
use Rattle.placed_laws.specs.Placed.{PlacedCall, PlacedLevel, Placed, PlacedRun, bare, levels_with}
use Rattle.placed_laws.specs.Placed.{placed_config, placed_blocker}
use Rattle.placed_laws.specs.PlacedSteps.{placed_requeue, placed_piece_at, placed_piece_step}
use Rattle.placed_laws.specs.PlacedSteps.{placed_outcome, placed_after_outcome, placed_step_by}
use Rattle.placed_laws.specs.PlacedSteps.{placed_call_step, placed_step, placed_drop_by}
use Rattle.placed_laws.specs.PlacedSteps.{placed_drop}
use Rattle.placed_laws.specs.Stands.{without_history, RunStandsFor}
use Rattle.placed_laws.specs.Keeping.{StepsStand, DropsStand}
use Rattle.placed_laws.proofs.LevelLemmas.{relaid, length_bare}
use Rattle.placed_laws.proofs.GraftedLemmas.{Grafted, grafted}
use Rattle.placed_laws.proofs.SourceLemmas.{IsPlaced}
use Rattle.placed_laws.proofs.AlignLemmas.{run_over, aligned, aligned_run, placed_of}
use Rattle.placed_laws.proofs.ConfigLemmas.{laid_over}
use Rattle.placed_laws.proofs.WorkLemmas.{laid_works}
use Rattle.placed_laws.proofs.FreeLemmas.{StandsWhere, AtPiece, InGraft, stands_where}
use Rattle.placed_laws.proofs.BlockerLemmas.{blocker_is}
use Rattle.placed_laws.proofs.OutcomeLemmas.{PlacedOutcome, micro_placed, drop_placed, drop_is}
use Rattle.placed_laws.proofs.OutcomeStandLemmas.{OutcomeIs, said_stands}
use Rattle.placed_laws.proofs.KnownLemmas.{micro_known, drop_known}
use Rattle.placed_laws.proofs.EndLemmas.{finish_stands}
use Rattle.placed_laws.proofs.PieceStandLemmas.{asks_are, graft_is, piece_ends, begin_stands}

-- runs by other names
by_names : (m : Meaning) (y z : PlacedRun) (u v : Run) → y ≡ z → u ≡ v → RunStandsFor m z v → RunStandsFor m y u
by_names m y z u v e f h =
    subst (λ (x : PlacedRun). RunStandsFor m x u) (sym e)
    (subst (λ (x : Run). RunStandsFor m z x) (sym f) h)

-- a step of levels that are there is an instruction
step_is : (m : Meaning) (p : ℕ) (c : PlacedCall) (bs : List PlacedLevel) (r : PlacedRun) → 1 ≤ length bs →
    placed_step_by m p c bs r ≡ placed_outcome m p c
    (micro r.placed.world r.placed.images p (placed_config r.placed p)) r
step_is m p c [] r some = absurd (none_some some)
  where
    none_some : 1 ≤ 0 → ⊥
    none_some h = omega arith
step_is m p c (b ∷ bs) r some = refl

-- and a drop is one of these levels
drop_by_is : (m : Meaning) (p : ℕ) (c : PlacedCall) (bs : List PlacedLevel) (d : ℕ) (cause : Cause)
    (r : PlacedRun) → 1 ≤ length bs →
    placed_drop_by m p (Some c) bs d cause r ≡ placed_requeue p (placed_outcome m p c (drop_level
    r.placed.world (placed_config r.placed p).now (placed_config r.placed p).levels d cause) r)
drop_by_is m p c [] d cause r some = absurd (none_some some)
  where
    none_some : 1 ≤ 0 → ⊥
    none_some h = omega arith
drop_by_is m p c (b ∷ bs) d cause r some = refl

module _ (m : Meaning) (laws : Laws m) (r : Run) (w : Objects) (here : IsPlaced m r.kernel w)
    (whole : HasWholeBlocks r.kernel.world r.blocks) (p : ℕ) (c : Call)
    (e : r.kernel.call p ≡ Some c) where
  abbrev k : Kernel
  k = r.kernel

  abbrev x : PlacedRun
  x = run_over m w r

  abbrev pc : PlacedCall
  pc = record { number = c.number; stage = c.stage }

  -- ---- a call in a graft

  module _ (ks : List Mark) (marked : c.marks ≡ Some ks) (t : Trace) (leads : trace_of m k p (Some c) ≡ Some t) where
    is : config_of m k p ≡ Some t.config
    is = config_is m laws laws.need.grafts k p c t e leads

    g : IsInGraft m k.world k.images k.objects p c.stage t
    g = graft_of_call m laws laws.need.grafts r p c ks t here.kernel whole e marked leads

    -- its levels in place are laid over the store
    config_there : placed_config x.placed p ≡ laid_over w t.config
    config_there = ap (λ y. laid_over w (record { now = w; levels = levels_in y })) is

    some_there : 1 ≤ length (x.placed.levels p)
    some_there =
        subst (λ n. 1 ≤ n) (sym (length_bare (levels_of m k p) ∙ ap (λ y. length (levels_in y)) is))
        g.replayed.sound.some

    -- the point is that which was asked
    point_is : (i : Grafted m k p t.config) → i.point ≡ g.point
    point_is i =
        let call = some_call i.has.call c (sym i.has.is ∙ e) in
        some_point i.point g.point (sym i.asks ∙ ap (λ (d : Call). m.asks k.world k.objects p d.stage) call ∙ g.asks)
      where
        some_call : (a b : Call) → Some a ≡ Some b → a ≡ b
        some_call a b h = cc

        some_point : (a b : Point) → Some a ≡ Some b → a ≡ b
        some_point a b h = cc

    -- any outcome, by what is said of it
    outcome_stands : (o q : Outcome) → OutcomeIs m laws k p c ks t g o → PlacedOutcome k w t.config o q →
        ((answer : List ℕ) → q.said ≡ Micro.Completed answer →
        valid q.config.now.things g.point.installer g.point.point g.point.args
        (slice_index answer 0) (slice_index answer 1) ≡ true) →
        IsSoundRun m (requeue p (outcome_step m p c t ks o r)) →
        ((i : ℕ) → i ≢ p → IsStable m k (requeue p (outcome_step m p c t ks o r)).kernel i) →
        RunStandsFor m (placed_requeue p (placed_outcome m p pc q x)) (requeue p (outcome_step m p c t ks o r))
    outcome_stands o q known outcome rightly sound stable =
        subst
        (λ said. RunStandsFor m (placed_requeue p (placed_after_outcome m p pc q.config said x))
        (requeue p (outcome_step m p c t ks o r))) outcome.alike.said
        (said_stands m laws r w here whole p c e ks marked t leads g o q known outcome rightly o.said refl sound stable)

    graft_stands : blocker m k p ≡ None →
        needs m k p ≡ next_needs k.world k.images t.config.now.accounts t.config.levels →
        RunStandsFor m (placed_step m p x) (step m p r)
    graft_stands unblocked needed =
        let o = micro k.world k.images p t.config in
        let q = micro k.world k.images p (laid_over w t.config) in
        let stepped : call_step m p (k.call p) r ≡ outcome_step m p c t ks o r =
        ap (λ y. call_step m p y r) e ∙ ap (λ y. marked_step m p c y r) marked
        ∙ ap (λ y. graft_step m p c ks y r) leads in
        let placed : placed_call_step m p (x.placed.call p) x ≡ placed_outcome m p pc q x =
        ap (λ y. placed_call_step m p (without_history y) x) e ∙ step_is m p pc (x.placed.levels p) x some_there
        ∙ ap (λ (f : Config). placed_outcome m p pc (micro k.world k.images p f) x) config_there in
        let after = steps_stay_sound m r p c laws (record { kernel = here.kernel; blocks = whole }) e unblocked in
        let works = instructions_work k.world k.images p w (grafted m laws k here.kernel p t.config
        is).point (laid_over w t.config) (laid_works m laws k w here p t.config is) in
        by_names m (placed_step m p x) (placed_requeue p (placed_outcome m p pc q x))
        (step m p r) (requeue p (outcome_step m p c t ks o r)) (ap (placed_requeue p) placed)
        (ap (requeue p) stepped)
        (outcome_stands o q (micro_known m laws k here.kernel p c e ks marked t leads g)
        (micro_placed m laws k w here p t.config is unblocked needed)
        (λ answer said. rightly answer q (subst (λ a. AnswersRightly a q.config.now.things q.said)
        (point_is (grafted m laws k here.kernel p t.config is)) works.1) said)
        (subst (IsSoundRun m) (ap (requeue p) stepped) after)
        (λ i ne. subst (λ (y : Run). IsStable m k y.kernel i) (ap (requeue p) stepped)
        ((calls_are_stable m).steps r i p c laws here.kernel whole ne e unblocked)))
      where
        rightly : (answer : List ℕ) (q : Outcome) →
            AnswersRightly g.point q.config.now.things q.said → q.said ≡ Micro.Completed answer →
            valid q.config.now.things g.point.installer g.point.point g.point.args
            (slice_index answer 0) (slice_index answer 1) ≡ true
        rightly answer q h said = subst (AnswersRightly g.point q.config.now.things) said h

    -- the drop of a level
    drop_stands : (d : ℕ) (cause : Cause) → d < length t.config.levels →
        RunStandsFor m (placed_drop m p d cause x) (drop_call m p (k.call p) (Some d) cause r)
    drop_stands d cause low =
        let o = drop_level k.world t.config.now t.config.levels d cause in
        let q = drop_level k.world w (relaid w.things t.config.levels) d cause in
        let dropped : drop_call m p (k.call p) (Some d) cause r ≡ requeue p (outcome_step m p c t ks o r) =
        ap (λ y. drop_call m p y (Some d) cause r) e
        ∙ ap (λ y. drop_marked m p c y (trace_of m k p (Some c)) (Some d) cause r) marked
        ∙ ap (λ y. drop_marked m p c (Some ks) y (Some d) cause r) leads in
        let placed : placed_drop m p d cause x ≡ placed_requeue p (placed_outcome m p pc q x) =
        ap (λ y. placed_drop_by m p (without_history y) (x.placed.levels p) d cause x) e
        ∙ drop_by_is m p pc (x.placed.levels p) d cause x some_there
        ∙ ap (λ (f : Config). placed_requeue p
        (placed_outcome m p pc (drop_level k.world f.now f.levels d cause) x)) config_there in
        let there = subst (λ n. d < n) (sym (length_bare t.config.levels)
        ∙ length_laid (map bare t.config.levels) w.things) low in
        let i = drop_is k.world w (relaid w.things t.config.levels) d cause there in
        let after = drops_stay_sound_run m r p d cause laws
        (record { kernel = here.kernel; blocks = whole })
        (subst (λ n. d < n) (sym (ap (λ y. length (levels_in y)) is)) low) in
        by_names m (placed_drop m p d cause x) (placed_requeue p (placed_outcome m p pc q x))
        (drop_call m p (k.call p) (Some d) cause r) (requeue p (outcome_step m p c t ks o r))
        placed dropped
        (outcome_stands o q (drop_known m laws k here.kernel p c e ks marked t leads g d cause low)
        (drop_placed m laws k w here p t.config is d cause there)
        (λ answer said. absurd (not_over answer (length i.rest) i.level.owner i.level.point
        (sym (ap (λ (y : Outcome). y.said) i.is) ∙ said)))
        (subst (IsSoundRun m) dropped after)
        (λ j ne. subst (λ (y : Run). IsStable m k y.kernel j) dropped
        ((calls_are_stable m).drops r j p (Some d) cause laws here.kernel whole ne)))
      where
        not_over : (answer : List ℕ) (i q pt : ℕ) → Micro.Dropped i q pt cause ≡ Micro.Completed answer → ⊥
        not_over answer i q pt f = cc

        length_laid : (bs : List PlacedLevel) (y : Things) → length bs ≡ length (levels_with y bs)
        length_laid [] y = refl
        length_laid (b ∷ bs) y = ap suc (length_laid bs (undo_all b.records y))

  -- ---- a call at a piece

  module _ (marked : c.marks ≡ None) (none : levels_of m k p ≡ [])
      (needed : needs m k p ≡ m.need k.world k.objects p c.stage)
      (unblocked : blocker m k p ≡ None) where
    -- the default, or a graft call begins
    ask_stands : (a : Option Point) → m.asks k.world k.objects p c.stage ≡ a →
        IsSoundRun m (requeue p (piece_step m p c a r)) →
        ((i : ℕ) → i ≢ p → IsStable m k (requeue p (piece_step m p c a r)).kernel i) →
        RunStandsFor m (placed_requeue p (placed_piece_step m p pc a x)) (requeue p (piece_step m p c a r))
    ask_stands None asks sound stable =
        finish_stands m laws r w here whole p c None k.objects w (m.need k.world k.objects p
        c.stage) (piece_ends m laws k w here p c e none needed unblocked) sound stable
    ask_stands (Some a) asks sound stable =
        subst (λ y. RunStandsFor m (placed_requeue p (placed_piece_at m p pc a y x))
        (requeue p (piece_at m p c (k.objects.accounts.graft a.installer a.point) r)))
        (sym (graft_is m laws k w here p c e none needed unblocked a asks).0)
        (by_graft (k.objects.accounts.graft a.installer a.point) sound stable)
      where
        by_graft : (y : Option GraftValue) → IsSoundRun m (requeue p (piece_at m p c y r)) →
            ((i : ℕ) → i ≢ p → IsStable m k (requeue p (piece_at m p c y r)).kernel i) →
            RunStandsFor m (placed_requeue p (placed_piece_at m p pc a y x)) (requeue p (piece_at m p c y r))
        by_graft None sound stable =
            finish_stands m laws r w here whole p c None k.objects w (m.need k.world k.objects p
            c.stage) (piece_ends m laws k w here p c e none needed unblocked) sound stable
        by_graft (Some v) sound stable = begin_stands m laws r w here p c e none needed unblocked a asks sound stable

    piece_stands : RunStandsFor m (placed_step m p x) (step m p r)
    piece_stands =
        let a = m.asks k.world k.objects p c.stage in
        let stepped : call_step m p (k.call p) r ≡ piece_step m p c a r =
        ap (λ y. call_step m p y r) e ∙ ap (λ y. marked_step m p c y r) marked in
        let placed : placed_call_step m p (x.placed.call p) x ≡ placed_piece_step m p pc a x =
        ap (λ y. placed_call_step m p (without_history y) x) e ∙ ap (λ ls. placed_step_by m p pc (map bare ls) x) none
        ∙ ap (λ y. placed_piece_step m p pc y x) (sym (asks_are m laws k w here p c e none needed unblocked)) in
        let after = steps_stay_sound m r p c laws (record { kernel = here.kernel; blocks = whole }) e unblocked in
        by_names m (placed_step m p x) (placed_requeue p (placed_piece_step m p pc a x))
        (step m p r) (requeue p (piece_step m p c a r)) (ap (placed_requeue p) placed)
        (ap (requeue p) stepped)
        (ask_stands a refl (subst (IsSoundRun m) (ap (requeue p) stepped) after)
        (λ i ne. subst (λ (y : Run). IsStable m k y.kernel i) (ap (requeue p) stepped)
        ((calls_are_stable m).steps r i p c laws here.kernel whole ne e unblocked)))

  -- ---- any call

  -- where the history of a call leads
  trace_there : (ks : List Mark) → c.marks ≡ Some ks → (t : Trace) × (trace_of m k p (Some c) ≡ Some t)
  trace_there ks marked = by_trace (trace_of m k p (Some c)) (here.kernel.runs p c ks e marked)
    where
      by_trace : (y : Option Trace) → is_some y ≡ true → (t : Trace) × (y ≡ Some t)
      by_trace None h = absurd cc
      by_trace (Some t) h = (t, refl)

  -- a config is that of the trace
  config_same : (f : Config) (t : Trace) → config_of m k p ≡ Some f → trace_of m k p (Some c) ≡ Some t → f ≡ t.config
  config_same f t is leads = is_it f t.config (sym is ∙ config_is m laws laws.need.grafts k p c t e leads)
    where
      is_it : (a b : Config) → Some a ≡ Some b → a ≡ b
      is_it a b h = cc

  pub step_stands : blocker m k p ≡ None → RunStandsFor m (placed_step m p x) (step m p r)
  step_stands unblocked = by_where (stands_where m k p c e (λ ks marked. here.kernel.runs p c ks e marked))
    where
      by_where : StandsWhere m k p c → RunStandsFor m (placed_step m p x) (step m p r)
      by_where (AtPiece marked none needed) = piece_stands marked none needed unblocked
      by_where (InGraft f ks marked is needed) =
          let t = trace_there ks marked in
          graft_stands ks marked t.0 t.1 unblocked (subst (λ (y : Config). needs m k p ≡ next_needs
          k.world k.images y.now.accounts y.levels) (config_same f t.0 is t.1) needed)

  pub dropped_stands : (d : ℕ) (cause : Cause) → d < length (levels_of m k p) →
      RunStandsFor m (placed_drop m p d cause x) (drop_call m p (k.call p) (Some d) cause r)
  dropped_stands d cause low = by_where (stands_where m k p c e (λ ks marked. here.kernel.runs p c ks e marked))
    where
      none_lower : {A : Type 0} → d < 0 → A
      none_lower h = absurd (bad d h)
        where
          bad : (d : ℕ) → d < 0 → ⊥
          bad d h = omega arith

      by_where : StandsWhere m k p c →
          RunStandsFor m (placed_drop m p d cause x) (drop_call m p (k.call p) (Some d) cause r)
      by_where (AtPiece marked none needed) = none_lower (subst (λ (ls : List Level). d < length ls) none low)
      by_where (InGraft f ks marked h needed) =
          let t = trace_there ks marked in
          drop_stands ks marked t.0 t.1 d cause (subst (λ n. d < n) (ap (λ y. length (levels_in y))
          (config_is m laws laws.need.grafts k p c t.0 e t.1)) low)

-- ---- the laws

-- a call in place is one of the abstract kernel
pub call_there : (x : Option Call) (c : PlacedCall) → without_history x ≡ Some c → (d : Call) × (x ≡ Some d)
call_there None c h = absurd cc
call_there (Some d) c h = (d, refl)

pub steps_stand : (m : Meaning) → Laws m → StepsStand m
steps_stand m laws x r p c h call free =
    let w = x.placed.objects in
    let k = r.kernel in
    let here = placed_of m x.placed k h.kernel in
    let d = call_there (k.call p) c (sym (h.kernel.calls p) ∙ call) in
    let unblocked = sym (blocker_is m laws k w here p)
    ∙ ap (λ (y : Placed). placed_blocker m y p) (sym (aligned m x.placed k h.kernel)) ∙ free in
    subst (λ (y : PlacedRun). RunStandsFor m (placed_step m p y) (step m p r))
    (sym (aligned_run m x r h)) (step_stands m laws r w here h.whole p d.0 d.1 unblocked)

pub drops_stand : (m : Meaning) → Laws m → DropsStand m
drops_stand m laws x r p n cause h low =
    let w = x.placed.objects in
    let k = r.kernel in
    let here = placed_of m x.placed k h.kernel in
    let there = subst (λ i. n < i) (ap length (h.kernel.levels p) ∙ length_bare (levels_of m k p)) low in
    by_call (k.call p) refl here there
  where
    none_lower : {A : Type 0} → n < 0 → A
    none_lower b = absurd (bad n b)
      where
        bad : (n : ℕ) → n < 0 → ⊥
        bad n h = omega arith

    by_call : (y : Option Call) → r.kernel.call p ≡ y → IsPlaced m r.kernel x.placed.objects →
        n < length (levels_of m r.kernel p) →
        RunStandsFor m (placed_drop m p n cause x) (drop_call m p (r.kernel.call p) (Some n) cause r)
    by_call None e here there =
        none_lower (subst
        (λ (z : Option Call). n < length (levels_in (config_in (trace_of m r.kernel p z)))) e there)
    by_call (Some d) e here there =
        subst (λ (y : PlacedRun). RunStandsFor m (placed_drop m p n cause y)
        (drop_call m p (r.kernel.call p) (Some n) cause r)) (sym (aligned_run m x r h))
        (dropped_stands m laws r x.placed.objects here h.whole p d e n cause there)
