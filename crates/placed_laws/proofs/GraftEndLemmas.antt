-- The end of a graft call, on what its history leads to and over the store: the piece does the same.
use Rattle.std.specs.Prelude.{◌≡◌, ◌≢◌, ℕ, true, false, List, ◌++◌, Option, Some}
use Rattle.std.proofs.Common.{subst, sym, ap, ◌∙◌, inl, inr}
use Rattle.std.proofs.lemmas.Bool.{cases_Bool}
use Rattle.kernel_model.specs.declared.Need.{Need}
use Rattle.kernel_model.specs.declared.Object.{Object}
use Rattle.kernel_model.specs.declared.Object.TheVariants.{Graft, Acct, Cell, OpenFile, Queue, Cache, Lock, Pol}
use Rattle.kernel_model.specs.Objects.{Objects, SameAt, SameThing}
use Rattle.kernel_model.specs.Meaning.{Meaning, Answer}
use Rattle.kernel_model.specs.History.{Mark, Trace}
use Rattle.kernel_model.specs.Kernel.{Call, Kernel}
use Rattle.kernel_model.specs.Blocking.{levels_in, config_of, levels_of, trace_of}
use Rattle.kernel_model.specs.Settle.{lost_objects}
use Rattle.kernel_model.specs.InPlace.{is_changed_in}
use Rattle.kernel_model.specs.Sound.{IsSoundStore}
use Rattle.kernel_model.specs.Alike.{AreAlike, is_needed, is_needed_exclusively, is_held_in}
use Rattle.kernel_model.specs.Laws.{Laws, IsReady, IsStanding, PieceAlike, before_point, needs_of_point}
use Rattle.kernel_laws.proofs.StepLemmas.{niceless_lives}
use Rattle.graft_laws.specs.Histories.{HasRange}
use Rattle.graft_laws.proofs.EffectLemmas.{same_back}
use Rattle.graft_laws.proofs.HoldLemmas.{changed_held}
use Rattle.graft_laws.proofs.CommitLemmas.{stands_on}
use Rattle.graft_laws.proofs.GraftEndLemmas.{IsInGraft}
use Rattle.graft_laws.proofs.ShapeLemmas.{contrary}
use Rattle.graft_laws.proofs.StepCommitLemmas.{trace_is, config_is}
use Rattle.graft_laws.proofs.InPlaceLemmas.{others_apart}
use Rattle.placed_laws.proofs.GraftedLemmas.{needs_held}
use Rattle.placed_laws.proofs.SourceLemmas.{IsPlaced, shown, committed, held_same, none_of, others_free, living, files}
use Rattle.placed_laws.proofs.EndLemmas.{EndsAlike}
use Rattle.placed_laws.proofs.PointLemmas.{point_on}
use Rattle.placed_laws.proofs.NeedLemmas.{first_needed, first_taken}
use Rattle.kernel_laws.proofs.FrameLemmas.{same_then}

module _ (m : Meaning) (laws : Laws m) (k : Kernel) (w : Objects) (here : IsPlaced m k w) (p : ℕ)
    (c : Call) (e : k.call p ≡ Some c) where
  -- a call stands in the store too
  pub store_stands : IsStanding m k.world k.images w p c.stage
  store_stands =
      record {
        store = here.store;
        caller = living m laws k w here p ∙ here.kernel.callers p c e;
        granted = here.kernel.granted p c e;
        fits =
            sym (laws.stages.fits_same k.world k.objects w p c.stage (files m laws k w here p))
            ∙ here.kernel.fit p c e;
      }

  -- and so it does on a state that is alike to the store
  pub alike_stands : (d : Objects) → IsSoundStore k.world d → AreAlike w d → IsStanding m k.world k.images d p c.stage
  alike_stands d sound alike = stands_on m laws k.world k.images w d p c.stage store_stands sound alike

module _ (m : Meaning) (laws : Laws m) (k : Kernel) (w : Objects) (here : IsPlaced m k w) (p : ℕ)
    (c : Call) (e : k.call p ≡ Some c) (ks : List Mark) (marked : c.marks ≡ Some ks)
    (t : Trace) (leads : trace_of m k p (Some c) ≡ Some t)
    (g : IsInGraft m k.world k.images k.objects p c.stage t) where
  is : config_of m k p ≡ Some t.config
  is = config_is m laws laws.need.grafts k p c t e leads

  -- the objects before the point
  abbrev pub base_needs : List Need
  base_needs = before_point k.objects g.point (m.need k.world k.objects p c.stage)

  all_needs : m.need k.world k.objects p c.stage ≡ base_needs ++ needs_of_point k.objects g.point
  all_needs = laws.need.point k.world k.objects p c.stage g.point (here.kernel.fit p c e) g.asks

  base_held : (o : Object) → is_needed o base_needs ≡ true → is_held_in t.config.levels o ≡ true
  base_held o need =
      needs_held m k.world k.images k.objects p c.stage ks t o
      (trace_is m laws laws.need.grafts k p c ks marked ∙ leads)
      (subst (λ ns. is_needed o ns ≡ true) (sym all_needs)
      (first_needed o base_needs (needs_of_point k.objects g.point) need))

  -- what another call holds exclusively isn't among those needed so
  base_free : (o : Object) (q : ℕ) → q ≢ p → is_changed_in (levels_of m k q) o ≡ true →
      is_needed_exclusively o base_needs ≡ false
  base_free o q ne changed = elim (cases_Bool (is_needed_exclusively o base_needs)) [
    | inr free ↦ free
    | inl taken ↦
        let mine = g.base o (subst (λ ns. is_needed_exclusively o ns ≡ true) (sym all_needs)
        (first_taken o base_needs (needs_of_point k.objects g.point) taken)) in
        contrary (sym mine ∙ ap (λ x. is_changed_in (levels_in x) o) (sym is)
        ∙ others_apart m k here.kernel q p o (λ i. ne (sym i)) changed)
  ]

  -- where no other call holds an object exclusively, the call has it as the store does
  pub call_same : (o : Object) → HasRange o →
      ((q : ℕ) → q ≢ p → is_changed_in (levels_of m k q) o ≡ false) → SameAt o t.config.now w
  call_same o range none = elim (cases_Bool (is_held_in t.config.levels o)) [
    | inl held ↦ held_same m laws k w here p t.config o is held
    | inr away ↦
        let mine = unchanged away in
        same_then o t.config.now k.objects w (g.replayed.now o mine)
        (same_back o w k.objects (committed m laws k w here o range
        (none_of m laws k w here p o (ap (λ x. is_changed_in (levels_in x) o) is ∙ mine) none)))
  ]
    where
      unchanged : is_held_in t.config.levels o ≡ false → is_changed_in t.config.levels o ≡ false
      unchanged away =
          elim (cases_Bool (is_changed_in t.config.levels o)) [
            | inr none ↦ none
            | inl some ↦ contrary (sym (changed_held t.config.levels o some) ∙ away)
          ]

  pub graft_ends : (answer : Option Answer) (s d : Objects) →
      AreAlike k.objects (shown k.objects s) → IsReady m k.world k.images s p c.stage answer →
      AreAlike k.objects (shown k.objects d) → IsReady m k.world k.images d p c.stage answer →
      ((o : Object) → HasRange o → ((q : ℕ) → q ≢ p → is_changed_in (levels_of m k q) o ≡ false) → SameAt o s d) →
      ((o : Object) → is_changed_in t.config.levels o ≡ false → SameAt o d w) →
      EndsAlike m k w p c.stage answer s d base_needs
  graft_ends answer s d near_s first near_d second agree frame =
      let v = k.world in
      let fits = here.kernel.fit p c e in
      let one = point_on m laws v k.images k.objects s p c.stage g.point fits g.asks near_s first.standing in
      let two = point_on m laws v k.images k.objects d p c.stage g.point fits g.asks near_d second.standing in
      let held_agree = λ (o : Object) (need : is_needed o base_needs ≡ true).
      agree o (g.replayed.ranges o (base_held o need))
      (others_free m laws k w here p t.config o is (base_held o need)) in
      record {
        first = first;
        second = second;
        pieces =
            λ blocks io. subst (λ ns. PieceAlike ns (m.piece v k.images s blocks p c.stage answer
            io) (m.piece v k.images d blocks p c.stage answer io)) one.before
            (laws.footprint.asking_looks v k.images s d blocks p c.stage answer io one.point first second one.asks
            (λ o need. held_agree o (subst (λ ns. is_needed o ns ≡ true) one.before need))
            (λ q. sym (niceless_lives k.objects.things.queue s.things.queue q near_s.queue)
            ∙ niceless_lives k.objects.things.queue d.things.queue q near_d.queue));
        changes = λ blocks io o range free. (
          laws.footprint.asking_changes v k.images s blocks p
              c.stage answer io one.point o first range one.asks
              (subst (λ ns. is_needed_exclusively o ns ≡ false) (sym one.before) free),
          laws.footprint.asking_changes v k.images d blocks p
              c.stage answer io two.point o second range two.asks
              (subst (λ ns. is_needed_exclusively o ns ≡ false) (sym two.before) free),
        );
        agree = agree;
        frame =
            λ o q range ne changed. frame o (ap (λ x. is_changed_in (levels_in x) o) (sym is)
            ∙ others_apart m k here.kernel q p o (λ i. ne (sym i)) changed);
        free = base_free;
      }

  -- level 0 was lost: all but accounts and grafts is as committed
  pub lost_agrees : (a d : Objects) (o : Object) → SameAt o a d →
      SameThing o a.things k.objects.things → SameAt o (lost_objects a k.objects) d
  lost_agrees a d (Graft q pt) same thing = (same.0, sym thing ∙ same.1)
  lost_agrees a d (Acct q) same thing = same
  lost_agrees a d (Cell q i) same thing = sym thing ∙ same
  lost_agrees a d (OpenFile q fd) same thing = sym thing ∙ same
  lost_agrees a d Queue same thing = (sym thing.0 ∙ same.0, sym thing.1 ∙ same.1)
  lost_agrees a d Cache same thing = sym thing ∙ same
  lost_agrees a d (Lock u) same thing = sym thing ∙ same
  lost_agrees a d (Pol i) same thing = sym thing ∙ same
