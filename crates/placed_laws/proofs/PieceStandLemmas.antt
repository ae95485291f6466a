-- A piece in place: it ends, or a graft call begins.
use Rattle.std.specs.Prelude.{◌≡◌, ◌≢◌, ℕ, ◌≤◌, ◌||◌, true, false, List, [], ◌∷◌, ◌++◌, length, map, Option, Some, None}
use Rattle.std.proofs.Common.{refl, subst, sym, ap, ◌∙◌, inl, inr}
use Rattle.std.proofs.lemmas.Bool.{cases_Bool}
use Rattle.kernel_model.specs.declared.Need.{Need}
use Rattle.kernel_model.specs.declared.Object.{Object}
use Rattle.kernel_model.specs.declared.Object.TheVariants.{Graft}
use Rattle.kernel_model.specs.declared.Point.{Point}
use Rattle.kernel_model.specs.World.{World, ImageTable}
use Rattle.kernel_model.specs.Objects.{Objects, GraftValue, SameAt, same_object}
use Rattle.kernel_model.specs.Needs.{exclusive, payer_needs}
use Rattle.kernel_model.specs.Machine.{first_machine, fed}
use Rattle.kernel_model.specs.Meaning.{Meaning, Stage}
use Rattle.kernel_model.specs.Locks.{touch_all, untouched, is_held_exclusively}
use Rattle.kernel_model.specs.Levels.{Config, image_of, keeps_in, segment_with, base_of}
use Rattle.kernel_model.specs.History.{Trace, first_trace, begin_at, begin_with, replay, marks_on}
use Rattle.kernel_model.specs.Kernel.{Call, Kernel, Run, requeue, with_marks}
use Rattle.kernel_model.specs.Blocking.{config_in, levels_in, config_of, levels_of, trace_of, needs, blocker}
use Rattle.kernel_model.specs.InPlace.{is_changed_in}
use Rattle.kernel_model.specs.Alike.{AgreeOn, is_needed, is_needed_exclusively}
use Rattle.kernel_model.specs.Laws.{Laws, IsReady, needs_of_point, before_point}
use Rattle.kernel_model.specs.Claims.{IsStable}
use Rattle.call_laws.specs.Ledgers.{at_here, at_other}
use Rattle.graft_laws.specs.Histories.{HasRange}
use Rattle.graft_laws.specs.Kernels.{IsSoundRun}
use Rattle.graft_laws.proofs.EffectLemmas.{same_back}
use Rattle.graft_laws.proofs.HoldLemmas.{changed_held, touch_all_changed}
use Rattle.graft_laws.proofs.HolderLemmas.{free_unneeded}
use Rattle.graft_laws.proofs.OrderLemmas.{config_same}
use Rattle.graft_laws.proofs.PointLemmas.{or_right, needed_here}
use Rattle.graft_laws.proofs.ShapeLemmas.{contrary}
use Rattle.graft_laws.proofs.InPlaceLemmas.{changer_config, caller_low}
use Rattle.placed_laws.specs.Placed.{PlacedLevel, bare}
use Rattle.placed_laws.specs.PlacedSteps.{placed_requeue, with_config}
use Rattle.placed_laws.specs.Stands.{RunStandsFor}
use Rattle.placed_laws.proofs.GraftedLemmas.{grafted, call_stands}
use Rattle.placed_laws.proofs.SourceLemmas.{IsPlaced, committed, none_of, living, fits_disk}
use Rattle.placed_laws.proofs.AlignLemmas.{run_over}
use Rattle.placed_laws.proofs.FreeLemmas.{piece_needs_agree}
use Rattle.placed_laws.proofs.AfterLemmas.{stands_after}
use Rattle.placed_laws.proofs.GoLemmas.{same_history}
use Rattle.placed_laws.proofs.EndLemmas.{EndsAlike}
use Rattle.placed_laws.proofs.GraftEndLemmas.{store_stands}
use Rattle.placed_laws.proofs.NeedLemmas.{unneeded_free}
use Rattle.graft_laws.proofs.AlikeHistoryLemmas.{needs_same}
use Rattle.call_laws.specs.NeedGrafts.{or_cases}
use Rattle.call_laws.specs.FileChanges.{same_self}

module _ (m : Meaning) (laws : Laws m) (k : Kernel) (w : Objects) (here : IsPlaced m k w) (p : ℕ)
    (c : Call) (e : k.call p ≡ Some c) (none : levels_of m k p ≡ [])
    (needed : needs m k p ≡ m.need k.world k.objects p c.stage) (unblocked : blocker m k p ≡ None) where
  -- the store has what the piece needs as committed
  pub agrees : AgreeOn (m.need k.world k.objects p c.stage) k.objects w
  agrees = piece_needs_agree m laws k w here p c e none needed unblocked

  pub needs_are : m.need k.world k.objects p c.stage ≡ m.need k.world w p c.stage
  needs_are =
      needs_same m laws k.world k.objects w p c.stage (here.kernel.fit p c e)
      (store_stands m laws k w here p c e).fits agrees

  pub asks_are : m.asks k.world k.objects p c.stage ≡ m.asks k.world w p c.stage
  asks_are =
      laws.ask.looks k.world k.objects w p c.stage (here.kernel.fit p c e)
      (store_stands m laws k w here p c e).fits agrees

  -- what another call holds exclusively the piece doesn't need so
  other_free : (o : Object) (q : ℕ) → q ≢ p → is_changed_in (levels_of m k q) o ≡ true →
      is_needed_exclusively o (m.need k.world k.objects p c.stage) ≡ false
  other_free o q ne changed =
      let f = changer_config m k here.kernel q o changed in
      ap (is_needed_exclusively o) (sym needed)
      ∙ free_unneeded m k q p o unblocked ne (caller_low m k here.kernel q f.0 f.1)
      (subst (λ n. n ≤ 4) (sym (ap (λ x. length (levels_in x)) f.1)) (grafted m laws k here.kernel q
      f.0 f.1).replayed.sound.most) (changed_held (levels_of m k q) o changed)

  -- what no other call holds exclusively is as committed
  pub others_committed : (o : Object) → HasRange o →
      ((q : ℕ) → q ≢ p → is_changed_in (levels_of m k q) o ≡ false) → SameAt o w k.objects
  others_committed o range free =
      committed m laws k w here o range
      (none_of m laws k w here p o (ap (λ ls. is_changed_in ls o) none) free)

  -- the default
  pub piece_ends : EndsAlike m k w p c.stage None k.objects w (m.need k.world k.objects p c.stage)
  piece_ends =
      let v = k.world in
      let s = k.objects in
      let first : IsReady m v k.images s p c.stage None = record {
        standing = call_stands m k p c here.kernel e;
        disk = here.kernel.state.disk;
        right = tt;
        body = tt;
      } in
      let second : IsReady m v k.images w p c.stage None = record {
        standing = store_stands m laws k w here p c e;
        disk = fits_disk m laws k w here;
        right = tt;
        body = tt;
      } in
      record {
        first = first;
        second = second;
        pieces =
            λ blocks io. laws.footprint.looks v k.images s w blocks p c.stage None io first second
            agrees (λ q. sym (living m laws k w here q));
        changes = λ blocks io o range free. (
          laws.footprint.changes v k.images s blocks p c.stage None io o first range free,
          laws.footprint.changes v k.images w blocks p c.stage None io o second range
              (subst (λ ns. is_needed_exclusively o ns ≡ false) needs_are free),
        );
        agree = λ o range free. same_back o w s (others_committed o range free);
        frame = λ o q range ne changed. same_self o w;
        free = other_free;
      }

  -- the graft of the point that is asked, and what is kept for it
  pub graft_is : (a : Point) → m.asks k.world k.objects p c.stage ≡ Some a →
      SameAt (Graft a.installer a.point) w k.objects
  graft_is a asks =
      same_back (Graft a.installer a.point) k.objects w (agrees (Graft a.installer a.point)
      (subst (λ ns. is_needed (Graft a.installer a.point) ns ≡ true)
      (sym (laws.need.point k.world k.objects p c.stage a (here.kernel.fit p c e) asks))
      (later_needed (before_point k.objects a (m.need k.world k.objects p c.stage))
      (needs_of_point k.objects a) (Graft a.installer a.point) (first_of_point a))))
    where
      first_of_point : (a : Point) → is_needed (Graft a.installer a.point) (needs_of_point k.objects a) ≡ true
      first_of_point a =
          needed_here (exclusive (Graft a.installer a.point))
          (payer_needs a.installer (k.objects.accounts.graft a.installer a.point))

      later_needed : (xs ys : List Need) (o : Object) → is_needed o ys ≡ true → is_needed o (xs ++ ys) ≡ true
      later_needed [] ys o h = h
      later_needed (x ∷ xs) ys o h = or_right (same_object o x.object) (is_needed o (xs ++ ys)) (later_needed xs ys o h)

-- ---- a graft call begins

-- where a history of no marks leads
begun_config : (m : Meaning) (v : World) (images : ImageTable) (s : Objects) (p : ℕ) (t : Stage)
    (a : Point) → m.asks v s p t ≡ Some a →
    config_in (replay m v images s p t []) ≡ Some (begin_at images s p (m.need v s p t) (m.feed t) a)
begun_config m v images s p t a asks =
    ap (λ (x : Option Point). config_in (elim (begin_with images s p (m.need v s p t) (m.feed t) x)
    as (λ _. Option Trace) [ None ↦ None | Some c ↦ marks_on v images p [] (first_trace c) ]))
    asks

-- level 0 without what it found, by its graft, what is kept for that and its needs
abbrev begun_level : ImageTable → ℕ → (feed : List ℕ) → Point → Option GraftValue → Option (ℕ → ℕ) →
    List Need → PlacedLevel
begun_level images p feed a g kept ns =
    record {
      owner = a.installer;
      point = a.point;
      machine =
          first_machine (base_of p 0) a.args
          (fed feed (segment_with (image_of images g) (keeps_in (image_of images g)) kept));
      count = 0;
      touched = touch_all ns untouched;
      args = a.args;
      records = [];
    }

pub begin_stands : (m : Meaning) (laws : Laws m) (u : Run) (w : Objects) →
    (here : IsPlaced m u.kernel w) → (p : ℕ) (c : Call) → u.kernel.call p ≡ Some c →
    levels_of m u.kernel p ≡ [] →
    needs m u.kernel p ≡ m.need u.kernel.world u.kernel.objects p c.stage →
    blocker m u.kernel p ≡ None → (a : Point) →
    m.asks u.kernel.world u.kernel.objects p c.stage ≡ Some a →
    IsSoundRun m (requeue p (with_marks p c [] u)) →
    ((q : ℕ) → q ≢ p → IsStable m u.kernel (requeue p (with_marks p c [] u)).kernel q) →
    RunStandsFor m (placed_requeue p (with_config p (begin_at u.kernel.images w p
    (m.need u.kernel.world w p c.stage) (m.feed c.stage) a) (run_over m w u)))
    (requeue p (with_marks p c [] u))
begin_stands m laws u w here p c e none needed unblocked a asks sound stable =
    let k = u.kernel in
    let n = with_marks p c [] u in
    let l = (requeue p n).kernel in
    let begun = begin_at k.images k.objects p (m.need k.world k.objects p c.stage) (m.feed c.stage) a in
    let placed = begin_at k.images w p (m.need k.world w p c.stage) (m.feed c.stage) a in
    let calls = λ (q : ℕ) (ne : q ≢ p). at_other p q (Some (record c { marks = Some [] })) k.call ne in
    let leads : config_of m n.kernel p ≡ Some begun =
    ap (λ x. config_in (trace_of m n.kernel p x)) (at_here p (Some (record c { marks = Some [] }))
    k.call) ∙ begun_config m k.world k.images k.objects p c.stage a asks in
    let leads_then = config_same m n.kernel n.kernel.clock l.order p ∙ leads in
    let same = graft_is m laws k w here p c e none needed unblocked a asks in
    let g = k.objects.accounts.graft a.installer a.point in
    let kept = k.objects.things.segment a.installer a.point in
    let level = ap (λ x. begun_level k.images p (m.feed c.stage) a x
    (w.things.segment a.installer a.point) (m.need k.world w p c.stage)) same.0
    ∙ ap (λ x. begun_level k.images p (m.feed c.stage) a g x (m.need k.world w p c.stage)) same.1
    ∙ ap (begun_level k.images p (m.feed c.stage) a g kept)
    (sym (needs_are m laws k w here p c e none needed unblocked)) in
    stands_after m laws k w here p (with_config p placed (run_over m w u)) n
    (record {
      world = refl;
      images = refl;
      clock = refl;
      order = refl;
      blocks = refl;
      notes = refl;
      io = refl;
      calls = λ q. same_history p q c (record c { marks = Some [] }) k.call e refl;
      levels =
          at_here p (map bare placed.levels) (λ i. map bare (levels_of m k i))
          ∙ ap (λ b. b ∷ []) level ∙ ap (λ x. map bare (levels_in x)) (sym leads);
      others = λ q ne. at_other p q (map bare placed.levels) (λ i. map bare (levels_of m k i)) ne;
      store = here.store;
    }) sound
    (record {
      beside = λ o q range ne changed. same_self o w;
      own = λ f o there range changed.
          let is = is_it begun f (sym leads_then ∙ there) in
          subst (λ (x : Config). SameAt o w x.now) is
          (same_back o k.objects w (agrees m laws k w here p c e none needed unblocked o
          (taken_needed o (m.need k.world k.objects p c.stage)
          (begun_taken o (m.need k.world k.objects p c.stage)
          (subst (λ (x : Config). is_changed_in x.levels o ≡ true) (sym is) changed)))));
      rest = λ o range free mine. others_committed m laws k w here p c e none needed unblocked o range free;
    }) calls stable
  where
    is_it : (x y : Config) → Some x ≡ Some y → x ≡ y
    is_it x y h = cc

    -- what level 0 holds exclusively is needed so
    begun_taken : (o : Object) (ns : List Need) →
        (is_held_exclusively (touch_all ns untouched o) || false) ≡ true →
        is_needed_exclusively o ns ≡ true
    begun_taken o ns h = elim (or_cases (is_held_exclusively (touch_all ns untouched o)) false h) [
      | inr bad ↦ contrary (sym bad)
      | inl taken ↦ elim (touch_all_changed ns untouched o taken) [ inl bad ↦ contrary (sym bad) | inr need ↦ need ]
    ]

    taken_needed : (o : Object) (ns : List Need) → is_needed_exclusively o ns ≡ true → is_needed o ns ≡ true
    taken_needed o ns h =
        elim (cases_Bool (is_needed o ns)) [
          | inl need ↦ need
          | inr away ↦ contrary (sym h ∙ unneeded_free o ns away)
        ]
