-- What an instruction, or the drop of a level, makes of a call in place.
use Rattle.std.specs.Prelude.{◌≡◌, ◌≢◌, ℕ, zero, suc, Bool, true, false, List, [], ◌∷◌, ◌++◌}
use Rattle.std.specs.Prelude.{Option, Some, None, slice_index}
use Rattle.std.proofs.Common.{refl, subst, sym, ap, ◌∙◌}
use Rattle.kernel_model.specs.declared.Cause.{Cause}
use Rattle.kernel_model.specs.declared.Micro.{Micro}
use Rattle.kernel_model.specs.declared.Note.TheVariants.{Dropped}
use Rattle.kernel_model.specs.declared.Object.{Object}
use Rattle.kernel_model.specs.Objects.{Objects, SameAt, SameThing}
use Rattle.kernel_model.specs.Policies.{valid}
use Rattle.kernel_model.specs.Meaning.{Meaning, Answer}
use Rattle.kernel_model.specs.Levels.{Level, Outcome, answer_of}
use Rattle.kernel_model.specs.History.{Mark, Stepped, Trace, fallen, replay}
use Rattle.kernel_model.specs.Kernel.{Call, Kernel, Run, noted, requeue, with_marks}
use Rattle.kernel_model.specs.Blocking.{config_in, levels_in, config_of, trace_of}
use Rattle.kernel_model.specs.Settle.{lost_objects, finish_on, after_outcome}
use Rattle.kernel_model.specs.InPlace.{is_changed_in}
use Rattle.kernel_model.specs.Sound.{HasWholeBlocks}
use Rattle.kernel_model.specs.Alike.{LevelsAlike}
use Rattle.kernel_model.specs.Laws.{Laws, IsReady}
use Rattle.kernel_model.specs.Claims.{IsStable}
use Rattle.kernel_laws.proofs.BodyLemmas.{answer_whole, answer_right}
use Rattle.kernel_laws.proofs.StepLemmas.{alike_disk, right_answer}
use Rattle.call_laws.specs.Ledgers.{at_here}
use Rattle.graft_laws.specs.Kernels.{IsSoundRun}
use Rattle.graft_laws.proofs.CommitLemmas.{EndsWell, stands_on}
use Rattle.graft_laws.proofs.GraftEndLemmas.{IsInGraft}
use Rattle.graft_laws.proofs.StepCommitLemmas.{config_is}
use Rattle.placed_laws.specs.Placed.{PlacedCall, placed_levels}
use Rattle.placed_laws.specs.PlacedSteps.{placed_finish_on, placed_requeue, placed_after_outcome}
use Rattle.placed_laws.specs.Stands.{RunStandsFor}
use Rattle.placed_laws.proofs.LevelLemmas.{relaid, answer_laid}
use Rattle.placed_laws.proofs.GraftedLemmas.{call_stands}
use Rattle.placed_laws.proofs.SourceLemmas.{IsPlaced, fits_disk}
use Rattle.placed_laws.proofs.AlignLemmas.{run_over}
use Rattle.placed_laws.proofs.OutcomeLemmas.{PlacedOutcome}
use Rattle.placed_laws.proofs.GoLemmas.{goes_stands}
use Rattle.placed_laws.proofs.EndLemmas.{finish_stands}
use Rattle.placed_laws.proofs.PointLemmas.{near_alike, point_on}
use Rattle.placed_laws.proofs.WorkLemmas.{near_after}
use Rattle.placed_laws.proofs.GraftEndLemmas.{alike_stands, base_needs, call_same, graft_ends, lost_agrees}

-- what is known of an outcome where a call's history leads, whether of an instruction or of a drop
pub record OutcomeIs (m : Meaning) (laws : Laws m) (k : Kernel) (p : ℕ) (c : Call)
    (ks : List Mark) (t : Trace) (g : IsInGraft m k.world k.images k.objects p c.stage t)
    (o : Outcome) : Type 0 where
  pub well : EndsWell m laws k.world k.objects g.point (λ b. is_changed_in t.config.levels b ≡ false) o o.said
  -- the last level leaves none
  pub completes : (answer : List ℕ) → o.said ≡ Micro.Completed answer → o.config.levels ≡ []
  pub loses : (q pt : ℕ) (cause : Cause) → o.said ≡ Micro.Dropped 0 q pt cause → o.config.levels ≡ []
  pub lost : (q pt : ℕ) (cause : Cause) (b : Object) → o.said ≡ Micro.Dropped 0 q pt cause →
      SameThing b o.config.now.things k.objects.things
  -- the history after it leads to its config
  pub goes : o.said ≡ Micro.Went →
      config_in (replay m k.world k.images k.objects p c.stage (ks ++ Stepped ∷ [])) ≡ Some o.config
  pub falls : (d q pt : ℕ) (cause : Cause) → o.said ≡ Micro.Dropped (suc d) q pt cause →
      config_in (replay m k.world k.images k.objects p c.stage (fallen t ks o.effects (suc d)))
      ≡ Some o.config
  pub unblocked : (b : Object) (h : ℕ) (user : Bool) → o.said ≡ Micro.Blocked b h user → ⊥

-- levels alike to none are none
none_alike : (ls : List Level) → LevelsAlike [] ls → ls ≡ []
none_alike [] h = refl
none_alike (l ∷ ls) h = absurd h

module _ (m : Meaning) (laws : Laws m) (u : Run) (w : Objects) (here : IsPlaced m u.kernel w)
    (whole : HasWholeBlocks u.kernel.world u.blocks) (p : ℕ) (c : Call)
    (e : u.kernel.call p ≡ Some c)
    (ks : List Mark) (marked : c.marks ≡ Some ks) (t : Trace)
    (leads : trace_of m u.kernel p (Some c) ≡ Some t)
    (g : IsInGraft m u.kernel.world u.kernel.images u.kernel.objects p c.stage t)
    (o r : Outcome) (known : OutcomeIs m laws u.kernel p c ks t g o) (outcome : PlacedOutcome u.kernel w t.config o r)
    (rightly : (answer : List ℕ) → r.said ≡ Micro.Completed answer →
    valid r.config.now.things g.point.installer g.point.point g.point.args
    (slice_index answer 0) (slice_index answer 1) ≡ true) where
  abbrev pc : PlacedCall
  pc = record { number = c.number; stage = c.stage }

  is : config_of m u.kernel p ≡ Some t.config
  is = config_is m laws laws.need.grafts u.kernel p c t e leads

  -- where the history after a mark leads
  leads_to : (v : Run) (hs : List Mark) → v.kernel ≡ u.kernel → config_in (replay m u.kernel.world
      u.kernel.images u.kernel.objects p c.stage hs) ≡ Some o.config →
      config_of m (with_marks p c hs v).kernel p ≡ Some o.config
  leads_to v hs same h =
      let n = (with_marks p c hs v).kernel in
      ap (λ x. config_in (trace_of m n p x))
      (at_here p (Some (record c { marks = Some hs })) v.kernel.call)
      ∙ ap (λ (k : Kernel). config_in (replay m k.world k.images k.objects p c.stage hs)) same
      ∙ h

  -- over the store all is as it was, but for what the call holds exclusively
  frame_ends : o.config.levels ≡ [] → (b : Object) → is_changed_in t.config.levels b ≡ false → SameAt b r.config.now w
  frame_ends ended b free =
      outcome.frame b free (ap (λ ls. is_changed_in ls b) (none_alike r.config.levels
      (subst (λ ls. LevelsAlike ls r.config.levels) ended outcome.alike.config.levels)))

  -- its levels in place answer as those to which the history leads
  answer_there : (answer : List ℕ) →
      answer_of answer (placed_levels (run_over m w u).placed p) ≡ answer_of answer t.config.levels
  answer_there answer =
      ap (λ y. answer_of answer (relaid w.things (levels_in y))) is
      ∙ answer_laid answer w.things t.config.levels

  pub said_stands : (said : Micro) → o.said ≡ said → IsSoundRun m (requeue p (after_outcome m p c t ks o said u)) →
      ((q : ℕ) → q ≢ p → IsStable m u.kernel (requeue p (after_outcome m p c t ks o said u)).kernel q) →
      RunStandsFor m (placed_requeue p (placed_after_outcome m p pc r.config said (run_over m w u)))
      (requeue p (after_outcome m p c t ks o said u))
  said_stands Micro.Went f sound stable =
      goes_stands m laws u w here p c e t.config is (ks ++ Stepped ∷ []) o r outcome
      (leads_to u (ks ++ Stepped ∷ []) refl (known.goes f)) sound stable
  said_stands (Micro.Blocked b h user) f sound stable = absurd (known.unblocked b h user f)
  said_stands (Micro.Completed answer) f sound stable =
      let k = u.kernel in
      let v = k.world in
      let s = o.config.now in
      let d = r.config.now in
      let well = subst (EndsWell m laws v k.objects g.point
      (λ b. is_changed_in t.config.levels b ≡ false) o) f known.well in
      let given : Option Answer = Some (answer_of answer t.config.levels) in
      let whole_given = answer_whole answer t.config.levels g.replayed.sound.some in
      let fits = here.kernel.fit p c e in
      let standing = call_stands m k p c here.kernel e in
      let first : IsReady m v k.images s p c.stage given =
      record {
        standing = stands_on m laws v k.images k.objects s p c.stage standing well.0.store well.0.alike;
        disk = alike_disk v k.objects s well.0.alike here.kernel.state.disk;
        right =
            answer_right s (m.asks v s p c.stage) answer t.config.levels (right_answer m laws v
            k.objects s p c.stage g.point answer fits well.0.alike g.asks well.1);
        body = whole_given;
      } in
      let near = near_after m laws k w here d outcome.near in
      let stands = alike_stands m laws k w here p c e d outcome.store outcome.near in
      let point = point_on m laws v k.images k.objects d p c.stage g.point fits g.asks near stands in
      let second : IsReady m v k.images d p c.stage given =
      record {
        standing = stands;
        disk = alike_disk v w d outcome.near (fits_disk m laws k w here);
        right =
            answer_right d (m.asks v d p c.stage) answer t.config.levels
            (point.right answer (rightly answer (sym outcome.alike.said ∙ f)));
        body = whole_given;
      } in
      subst (λ a. RunStandsFor m (placed_requeue p (placed_finish_on m p pc d (Some a)
      (run_over m w u))) (requeue p (finish_on m p c s given u))) (sym (answer_there answer))
      (finish_stands m laws u w here whole p c given s d (base_needs m laws k w here p c e ks marked t leads g)
      (graft_ends m laws k w here p c e ks marked t leads g given s d
      (near_alike k.objects s well.0.alike) first near second
      (λ b range none. outcome.alike.keeps b (call_same m laws k w here p c e ks marked t leads g b
      range none)) (frame_ends (known.completes answer f))) sound stable)
  said_stands (Micro.Dropped zero q pt cause) f sound stable =
      let k = u.kernel in
      let v = k.world in
      let s = lost_objects o.config.now k.objects in
      let d = r.config.now in
      let n = noted (Dropped c.number q pt cause) u in
      let well = subst (EndsWell m laws v k.objects g.point
      (λ b. is_changed_in t.config.levels b ≡ false) o) f known.well in
      let standing = call_stands m k p c here.kernel e in
      let first : IsReady m v k.images s p c.stage None =
      record {
        standing =
            stands_on m laws v k.images k.objects s p c.stage standing well.0.store well.0.alike;
        disk = here.kernel.state.disk;
        right = tt;
        body = tt;
      } in
      let near = near_after m laws k w here d outcome.near in
      let second : IsReady m v k.images d p c.stage None =
      record {
        standing = alike_stands m laws k w here p c e d outcome.store outcome.near;
        disk = alike_disk v w d outcome.near (fits_disk m laws k w here);
        right = tt;
        body = tt;
      } in
      finish_stands m laws n w here whole p c None s d (base_needs m laws k w here p c e ks marked t leads g)
      (graft_ends m laws k w here p c e ks marked t leads g None s d
      (near_alike k.objects s well.0.alike) first near second
      (λ b range none. lost_agrees m laws k w here p c e ks marked t leads g o.config.now d b
      (outcome.alike.keeps b (call_same m laws k w here p c e ks marked t leads g b range none))
      (known.lost q pt cause b f))
      (frame_ends (known.loses q pt cause f))) sound stable
  said_stands (Micro.Dropped (suc d) q pt cause) f sound stable =
      let n = noted (Dropped c.number q pt cause) u in
      let hs = fallen t ks o.effects (suc d) in
      goes_stands m laws n w here p c e t.config is hs o r outcome
      (leads_to n hs refl (known.falls d q pt cause f)) sound stable
