-- What a call is after its own step or drop.
use Rattle.std.specs.Prelude.{◌≡◌, ◌≢◌, ℕ, ◌<◌, ◌≤◌, ◌&&◌, nat_lt, Bool, true, false, cond, List}
use Rattle.std.specs.Prelude.{[], ◌∷◌, ◌++◌, length, option_map, Contains, Option, Some, None}
use Rattle.std.specs.Prelude.{is_some}
use Rattle.std.specs.List.{AllByRecursion}
use Rattle.std.specs.Result.{is_ok}
use Rattle.std.proofs.Common.{◌⊎◌, arith, refl, subst, sym, ap, ◌∙◌, inl, inr}
use Rattle.std.proofs.lemmas.Bool.{cases_Bool}
use Rattle.std.proofs.lemmas.Bool.Decides.{nat_tests}
use Rattle.kernel_model.specs.declared.Held.{Held}
use Rattle.kernel_model.specs.declared.Mode.{Mode}
use Rattle.kernel_model.specs.declared.Need.{Need}
use Rattle.kernel_model.specs.declared.Object.{Object}
use Rattle.kernel_model.specs.World.{World, ImageTable}
use Rattle.kernel_model.specs.Objects.{Objects, at, same_object}
use Rattle.kernel_model.specs.SameObject.{same_object_is}
use Rattle.kernel_model.specs.Policies.{lives}
use Rattle.kernel_model.specs.Meaning.{Meaning, Stage, After, Continues, EndsWith, Fails}
use Rattle.kernel_model.specs.Locks.{Touched, Hindrance, conflicts, is_held, is_held_exclusively}
use Rattle.kernel_model.specs.Locks.{untouched, lowest_holder, first_hindrance}
use Rattle.kernel_model.specs.Levels.{Level, Config, level_at, touched_in}
use Rattle.kernel_model.specs.GraftStep.{lock_user}
use Rattle.kernel_model.specs.History.{Mark, Trace, replay}
use Rattle.kernel_model.specs.Kernel.{Call, Waiter, Kernel, Run, call_after, requeue, less_entry}
use Rattle.kernel_model.specs.Kernel.{new_entry, is_at_piece}
use Rattle.kernel_model.specs.Blocking.{config_in, config_of, levels_in, levels_of, trace_of}
use Rattle.kernel_model.specs.Blocking.{holds, needs, blocker, blocker_from}
use Rattle.kernel_model.specs.InPlace.{is_changed_in}
use Rattle.kernel_model.specs.Sound.{IsSoundKernel, HasWholeBlocks, ImagesAreLoaded}
use Rattle.kernel_model.specs.Alike.{is_exclusive, is_held_in, is_needed, is_needed_exclusively}
use Rattle.kernel_model.specs.Laws.{Laws, NeedsGraftsExclusively}
use Rattle.kernel_model.specs.Claims.{IsStable}
use Rattle.call_laws.specs.Ledgers.{at_here}
use Rattle.graft_laws.specs.Histories.{IsReplayed}
use Rattle.graft_laws.specs.Kernels.{CallsReplay}
use Rattle.graft_laws.proofs.ShapeLemmas.{contrary}
use Rattle.graft_laws.proofs.HolderLemmas.{holds_of, each_free, no_conflict}
use Rattle.graft_laws.proofs.CommitLemmas.{Commits}
use Rattle.graft_laws.proofs.StepCommitLemmas.{graft_of_call}
use Rattle.graft_laws.proofs.StabilityLemmas.{has_graft, caller_low, stable_after}
use Rattle.graft_laws.proofs.KeptKernelLemmas.{OwnCall, AreFree, kept_kernel}
use Rattle.call_laws.specs.NeedGrafts.{or_cases}
use Rattle.kernel_laws.proofs.SoundConfigLemmas.{at_below}

-- ---- a call after its piece

-- what a piece leaves of its call
pub record PieceEnds (m : Meaning) (k : Kernel) (q : ℕ) (c : Call) (s : Objects) (a : After) : Type 0 where
  pub caller : (t : Stage) → a ≡ Continues t → lives s.things.queue q ≡ true
  pub granted : (t : Stage) → a ≡ Continues t → is_ok (m.early k.world k.images q t.call) ≡ true
  pub fits : (t : Stage) → a ≡ Continues t → m.fits k.world s q t ≡ true

module _ (m : Meaning) (k : Kernel) (q : ℕ) (c : Call) (s : Objects) (es : List Waiter) where
  -- the kernel after a piece of q's call
  abbrev pub after_piece : After → Kernel
  after_piece a = record k { objects = s; call = at q (call_after c a) k.call; order = es }

  -- the call then
  call_is : (a : After) → (after_piece a).call q ≡ call_after c a
  call_is a = at_here q (call_after c a) k.call

  -- it is in no graft
  no_config : (a : After) → config_of m (after_piece a) q ≡ None
  no_config a = ap (λ x. config_in (trace_of m (after_piece a) q x)) (call_is a) ∙ no_trace (after_piece a) a
    where
      no_trace : (l : Kernel) (a : After) → config_in (trace_of m l q (call_after c a)) ≡ None
      no_trace l (Continues t) = refl
      no_trace l (EndsWith reply) = refl
      no_trace l (Fails refusal) = refl

  pub own_piece : (ns : List Need) (a : After) → PieceEnds m k q c s a → OwnCall m q ns k (after_piece a)
  own_piece ns a h =
      record {
        callers = λ d e. let t = stage_is a d (sym (call_is a) ∙ e) in h.caller t.0 t.1;
        granted = λ d e.
            let t = stage_is a d (sym (call_is a) ∙ e) in
            subst (λ (x : Stage). is_ok (m.early k.world k.images q x.call) ≡ true) (sym t.2)
            (h.granted t.0 t.1);
        fit =
            λ d e. let t = stage_is a d (sym (call_is a) ∙ e) in
            subst (λ (x : Stage). m.fits k.world s q x ≡ true) (sym t.2) (h.fits t.0 t.1);
        runs = λ d ks e marked. absurd (no_marks a d ks (sym (call_is a) ∙ e) marked);
        grafts = λ f l e i. absurd (none_some f (sym (no_config a) ∙ e));
        held = λ o e. absurd (nothing (sym (ap (λ x. is_held_in (levels_in x) o) (no_config a)) ∙ e));
        changed = λ o e. absurd (nothing (sym (ap (λ x. is_changed_in (levels_in x) o) (no_config a)) ∙ e));
      }
    where
      none_some : (f : Config) → None ≡ Some f → ⊥
      none_some f e = cc

      nothing : false ≡ true → ⊥
      nothing e = cc

      some_call : (x y : Call) → Some x ≡ Some y → x ≡ y
      some_call x y e = cc

      stage_is : (a : After) (d : Call) → call_after c a ≡ Some d → (t : Stage) × (a ≡ Continues t) × (d.stage ≡ t)
      stage_is (Continues t) d e = (
        t,
        refl,
        ap (λ (x : Call). x.stage)
            (sym (some_call (record { number = c.number; stage = t; marks = None }) d e)),
      )
      stage_is (EndsWith reply) d e = absurd cc
      stage_is (Fails refusal) d e = absurd cc

      no_marks : (a : After) (d : Call) (ks : List Mark) → call_after c a ≡ Some d → d.marks ≡ Some ks → ⊥
      no_marks (Continues t) d ks e f =
          marks_none (ap (λ (x : Call). x.marks)
          (some_call (record { number = c.number; stage = t; marks = None }) d e) ∙ f)
        where
          marks_none : None ≡ Some ks → ⊥
          marks_none e = cc
      no_marks (EndsWith reply) d ks e f = absurd cc
      no_marks (Fails refusal) d ks e f = absurd cc

-- ---- a call with another history

-- the kernel whose call of q has this history
abbrev pub after_marks : Kernel → ℕ → Call → List Mark → List Waiter → Kernel
after_marks k q c hs es = record k { call = at q (Some (record c { marks = Some hs })) k.call; order = es }

pub own_marks : (m : Meaning) (k : Kernel) (q : ℕ) (c : Call) (hs : List Mark) (es : List Waiter)
    (ns : List Need) (z : Config) → IsSoundKernel m k → k.call q ≡ Some c →
    config_in (replay m k.world k.images k.objects q c.stage hs) ≡ Some z → ((l : Level) →
    Contains z.levels l → is_some (z.now.accounts.graft l.owner l.point) ≡ true) →
    ((o : Object) → is_held_in z.levels o ≡ true → (is_held_in (levels_of m k q) o ≡ true) ⊎ (is_needed o ns ≡ true)) →
    ((o : Object) → is_changed_in z.levels o ≡ true →
    (is_changed_in (levels_of m k q) o ≡ true) ⊎ (is_needed_exclusively o ns ≡ true)) →
    OwnCall m q ns k (after_marks k q c hs es)
own_marks m k q c hs es ns z h e leads stand held changed =
    record {
      callers = λ d f. h.callers q c e;
      granted =
          λ d f. subst (λ (x : Call). is_ok (m.early k.world k.images q x.stage.call) ≡ true)
          (is_call d f) (h.granted q c e);
      fit = λ d f. subst (λ (x : Call). m.fits k.world k.objects q x.stage ≡ true) (is_call d f) (h.fit q c e);
      runs =
          λ d ks f marked.
          subst (λ (x : Call). is_some (trace_of m (after_marks k q c hs es) q (Some x)) ≡ true)
          (is_call d f)
          (some_trace (replay m k.world k.images k.objects q c.stage hs) z leads);
      grafts =
          λ f l g i. subst (λ (x : Config). is_some (x.now.accounts.graft l.owner l.point) ≡ true)
          (is_config f g)
          (stand l (subst (λ (x : Config). Contains x.levels l) (sym (is_config f g)) i));
      held = λ o g. held o (sym (ap (λ x. is_held_in (levels_in x) o) config) ∙ g);
      changed = λ o g. changed o (sym (ap (λ x. is_changed_in (levels_in x) o) config) ∙ g);
    }
  where
    here : (after_marks k q c hs es).call q ≡ Some (record c { marks = Some hs })
    here = at_here q (Some (record c { marks = Some hs })) k.call

    some_call : (x y : Call) → Some x ≡ Some y → x ≡ y
    some_call x y e = cc

    is_call : (d : Call) → (after_marks k q c hs es).call q ≡ Some d → record c { marks = Some hs } ≡ d
    is_call d f = some_call (record c { marks = Some hs }) d (sym here ∙ f)

    config : config_of m (after_marks k q c hs es) q ≡ Some z
    config = ap (λ x. config_in (trace_of m (after_marks k q c hs es) q x)) here ∙ leads

    some_config : (x y : Config) → Some x ≡ Some y → x ≡ y
    some_config x y e = cc

    is_config : (f : Config) → config_of m (after_marks k q c hs es) q ≡ Some f → z ≡ f
    is_config f g = some_config z f (sym config ∙ g)

    some_trace : (t : Option Trace) (f : Config) → config_in t ≡ Some f → is_some t ≡ true
    some_trace None f e = absurd cc
    some_trace (Some t) f e = refl

-- ---- what a step that nothing blocks needs

-- beyond the levels nothing is held
pub touched_beyond : (ls : List Level) (d : ℕ) (x : Option Level) → length ls ≤ d →
    level_at d ls ≡ x → touched_in x ≡ untouched
touched_beyond ls d None h e = refl
touched_beyond ls d (Some l) h e = absurd (beyond (length ls) d h (at_below d ls l e))
  where
    beyond : (n d : ℕ) → n ≤ d → d < n → ⊥
    beyond n d h k = omega arith

conflict_shared : (h : Held) → conflicts h Mode.Shared ≡ false → is_held_exclusively h ≡ false
conflict_shared Held.Free e = refl
conflict_shared Held.Shared e = refl
conflict_shared Held.Exclusive e = e

conflict_exclusive : (h : Held) → conflicts h Mode.Exclusive ≡ false → is_held h ≡ false
conflict_exclusive Held.Free e = refl
conflict_exclusive Held.Shared e = e
conflict_exclusive Held.Exclusive e = e

unheld_unchanged : (h : Held) → is_held h ≡ false → is_held_exclusively h ≡ false
unheld_unchanged Held.Free e = refl
unheld_unchanged Held.Shared e = refl
unheld_unchanged Held.Exclusive e = e

module _ (m : Meaning) (k : Kernel) (q : ℕ) (few : (p : ℕ) → length (levels_of m k p) ≤ 4)
    (unblocked : blocker m k q ≡ None) where
  need_free : (n : Need) (p d : ℕ) (o : Object) →
      lowest_holder (holds m k) q n.object n.mode ≡ None → p ≢ q → p < 16 →
      same_object o n.object ≡ true → conflicts (holds m k p d o) n.mode ≡ false
  need_free n p d o none ne low same = elim (cases_Bool (nat_lt d 4)) [
    | inl inside ↦ no_conflict (holds m k) p q d o n.mode (subst (λ a. lowest_holder (holds m k) q a
        n.mode ≡ None) (sym (same_object_is o n.object same)) none) low ne (below d inside)
    | inr outside ↦
        let ls = levels_of m k p in
        ap (λ (t : Touched). conflicts (t o) n.mode) (holds_of m k p d low
        ∙ touched_beyond ls d (level_at d ls) (over d (length ls) (few p) outside) refl)
  ]
    where
      below : (d : ℕ) → nat_lt d 4 ≡ true → d < 4
      below d h = grind (arith, nat_tests)

      over : (d n : ℕ) → n ≤ 4 → nat_lt d 4 ≡ false → n ≤ d
      over d n h e = grind (arith, nat_tests)

  each_unheld : (ns : List Need) (p d : ℕ) (o : Object) →
      AllByRecursion (λ (n : Need). lowest_holder (holds m k) q n.object n.mode ≡ None) ns → p ≢ q → p < 16 →
      (is_needed o ns ≡ true → is_held_exclusively (holds m k p d o) ≡ false)
      × (is_needed_exclusively o ns ≡ true → is_held (holds m k p d o) ≡ false)
  each_unheld [] p d o each ne low = (λ h. contrary (sym h), λ h. contrary (sym h))
  each_unheld (n ∷ ns) p d o each ne low =
      let rest = each_unheld ns p d o each.1 ne low in (
        λ h. elim (or_cases (same_object o n.object) (is_needed o ns) h) [
          | inl same ↦ by_mode n.mode (need_free n p d o each.0 ne low same)
          | inr later ↦ rest.0 later
        ],
        λ h. elim (or_cases (is_exclusive n.mode && same_object o n.object) (is_needed_exclusively o ns) h) [
          | inl same ↦ exclusively n.mode (same_object o n.object) same (λ here. need_free n p d o each.0 ne low here)
          | inr later ↦ rest.1 later
        ],
      )
    where
      by_mode : (mode : Mode) → conflicts (holds m k p d o) mode ≡ false → is_held_exclusively (holds m k p d o) ≡ false
      by_mode Mode.Shared e = conflict_shared (holds m k p d o) e
      by_mode Mode.Exclusive e = unheld_unchanged (holds m k p d o) (conflict_exclusive (holds m k p d o) e)

      exclusively : (mode : Mode) (b : Bool) → (is_exclusive mode && b) ≡ true →
          (b ≡ true → conflicts (holds m k p d o) mode ≡ false) → is_held (holds m k p d o) ≡ false
      exclusively Mode.Shared b e h = contrary (sym e)
      exclusively Mode.Exclusive b e h = conflict_exclusive (holds m k p d o) (h e)

  pub needs_free : AreFree m q (needs m k q) k
  needs_free =
      let each = each_free (holds m k) k.objects.things.lock q (lock_user q (levels_of m k q)) (needs m k q)
      (unmapped (first_hindrance (holds m k) k.objects.things.lock q (lock_user q (levels_of m k q))
      (needs m k q)) unblocked) in
      record {
        shared = λ p d o ne low h. (each_unheld (needs m k q) p d o each ne low).0 h;
        exclusive = λ p d o ne low h. (each_unheld (needs m k q) p d o each ne low).1 h;
      }
    where
      unmapped : (x : Option Hindrance) → option_map (blocker_from k) x ≡ None → x ≡ None
      unmapped None e = refl
      unmapped (Some h) e = absurd cc

-- where nothing is needed
pub nothing_free : (m : Meaning) (q : ℕ) (k : Kernel) → AreFree m q [] k
nothing_free m q k =
    record {
      shared = λ p d o ne low h. contrary (sym h);
      exclusive = λ p d o ne low h. contrary (sym h);
    }

-- ---- a whole kernel

-- what a step or drop of q's call keeps, before q takes its place in the order
pub record Kept (m : Meaning) (q : ℕ) (ns : List Need) (r u : Run) : Type 0 where
  pub order : u.kernel.order ≡ r.kernel.order
  pub images : ImagesAreLoaded r.kernel.images u.kernel.objects.accounts
  pub own : OwnCall m q ns r.kernel (requeue q u).kernel

module _ (m : Meaning) (laws : Laws m) (owns : NeedsGraftsExclusively m) where
  -- graft calls of a sound kernel are replayed
  pub all_replayed : (r : Run) → IsSoundKernel m r.kernel → HasWholeBlocks r.kernel.world r.blocks →
      (p : ℕ) (c : Config) → config_of m r.kernel p ≡ Some c →
      IsReplayed r.kernel.world r.kernel.objects c
  all_replayed r h whole p c e =
      let g = has_graft m r.kernel p c e in
      subst (IsReplayed r.kernel.world r.kernel.objects) g.config (graft_of_call m laws owns r p
      g.call g.marks g.trace h whole g.is g.marked g.leads).replayed

  -- they have at most four levels
  pub few_levels : (r : Run) → IsSoundKernel m r.kernel → HasWholeBlocks r.kernel.world r.blocks →
      (p : ℕ) → length (levels_of m r.kernel p) ≤ 4
  few_levels r h whole p = by_config (config_of m r.kernel p) refl
    where
      none_few : 0 ≤ 4
      none_few = omega arith

      by_config : (x : Option Config) → config_of m r.kernel p ≡ x → length (levels_in x) ≤ 4
      by_config None e = none_few
      by_config (Some c) e = (all_replayed r h whole p c e).sound.most

  -- the kernel after a step or a drop is sound
  pub sound_after : (r u : Run) (q : ℕ) (c : Call) (ns : List Need) (free : Object → Type 0) →
      IsSoundKernel m r.kernel → HasWholeBlocks r.kernel.world r.blocks → r.kernel.call q ≡ Some c →
      Commits q free r u → Commits q free r (requeue q u) → Kept m q ns r u → AreFree m q ns r.kernel →
      ((p : ℕ) (o : Object) → p ≢ q → p < 16 → is_held_in (levels_of m r.kernel p) o ≡ true →
      free o) → IsSoundKernel m (requeue q u).kernel
  sound_after r u q c ns free h whole e commits requeued kept are_free unheld =
      let k = r.kernel in
      let l = u.kernel in
      let kernel_of = λ (w : World) (i : ImageTable) (es : List Waiter).
      record l {
        world = w;
        images = i;
        order = less_entry q es ++ cond (is_at_piece (l.call q)) (new_entry q ∷ []) [];
      } in
      let same : (requeue q u).kernel ≡ kernel_of k.world k.images k.order =
      ap (λ w. kernel_of w l.images l.order) commits.world
      ∙ ap (λ i. kernel_of k.world i l.order) commits.images
      ∙ ap (kernel_of k.world k.images) kept.order in
      subst (IsSoundKernel m) (sym same)
      (kept_kernel m q k l.objects l.call l.clock laws owns h (λ p ne. commits.calls p ne)
      (record { store = commits.store; images_loaded = kept.images; disk = commits.disk })
      (λ p ne alive. commits.live p ne alive) (λ p ne. commits.files p ne) (λ p x f. all_replayed r h whole p x f)
      (λ p ne. subst (λ (x : Kernel). IsStable m k x p) same
      (stable_after m laws owns r (requeue q u) p q free h whole ne requeued
      (λ o low few held. unheld p o ne low held)))
      ns (subst (OwnCall m q ns k) same kept.own) (caller_low m laws owns r q c h e) are_free)

pub calls_replay : (m : Meaning) → CallsReplay m
calls_replay m r p c laws sound e = all_replayed m laws laws.need.grafts r sound.kernel sound.blocks p c e
