-- Where a call stands, and what no other call holds exclusively.
use Rattle.std.specs.Prelude.{◌≡◌, ◌≢◌, ℕ, ◌<◌, ◌≤◌, true, false, List, [], ◌∷◌, length}
use Rattle.std.specs.Prelude.{option_map, Option, Some, None, is_some, Contains}
use Rattle.std.specs.List.{AllByRecursion}
use Rattle.std.proofs.Common.{arith, refl, subst, sym, ap, ◌∙◌, inl, inr}
use Rattle.std.proofs.lemmas.Bool.{cases_Bool}
use Rattle.kernel_model.specs.declared.Held.{Held}
use Rattle.kernel_model.specs.declared.Mode.{Mode}
use Rattle.kernel_model.specs.declared.Need.{Need}
use Rattle.kernel_model.specs.declared.Object.{Object}
use Rattle.kernel_model.specs.Objects.{Objects, GraftValue, SameAt}
use Rattle.kernel_model.specs.Locks.{Hindrance, conflicts, lowest_holder, first_hindrance}
use Rattle.kernel_model.specs.Meaning.{Meaning}
use Rattle.kernel_model.specs.Levels.{Level, Config}
use Rattle.kernel_model.specs.GraftStep.{next_needs, lock_user}
use Rattle.kernel_model.specs.History.{Mark, Trace}
use Rattle.kernel_model.specs.Kernel.{Call, Kernel}
use Rattle.kernel_model.specs.Blocking.{config_in, levels_in, trace_of, config_of, levels_of}
use Rattle.kernel_model.specs.Blocking.{holds, needs_at, needs_in, needs, blocker_from, blocker}
use Rattle.kernel_model.specs.InPlace.{is_changed_in}
use Rattle.kernel_model.specs.Alike.{is_needed, is_held_in, AgreeOn}
use Rattle.kernel_model.specs.Laws.{Laws, IsInRange}
use Rattle.graft_laws.specs.Histories.{HasRange}
use Rattle.graft_laws.proofs.EffectLemmas.{same_back}
use Rattle.graft_laws.proofs.HoldLemmas.{changed_held}
use Rattle.graft_laws.proofs.HolderLemmas.{holds_of, changed_somewhere, each_free, no_conflict}
use Rattle.graft_laws.proofs.RangeLemmas.{needed_contains, reached_range, needs_range}
use Rattle.graft_laws.proofs.ShapeLemmas.{contrary}
use Rattle.graft_laws.proofs.InPlaceLemmas.{changer_config, caller_low}
use Rattle.graft_laws.proofs.SoundCallLemmas.{contains_first}
use Rattle.placed_laws.proofs.GraftedLemmas.{Grafted, grafted, call_stands}
use Rattle.placed_laws.proofs.SourceLemmas.{IsPlaced, committed, held_same, none_of}
use Rattle.graft_laws.proofs.BeginningLemmas.{in_range}
use Rattle.kernel_laws.proofs.FrameLemmas.{same_then}
use Rattle.kernel_laws.proofs.LevelLemmas.{each_contains}

-- ---- where a call stands

-- a call is at a piece, and has no level, or in a graft
pub data StandsWhere (m : Meaning) (k : Kernel) (p : ℕ) (c : Call) : Type 0 where
  AtPiece : c.marks ≡ None → levels_of m k p ≡ [] →
      needs m k p ≡ m.need k.world k.objects p c.stage → StandsWhere m k p c
  InGraft : (f : Config) → (ks : List Mark) → c.marks ≡ Some ks → config_of m k p ≡ Some f →
      needs m k p ≡ next_needs k.world k.images f.now.accounts f.levels → StandsWhere m k p c

pub stands_where : (m : Meaning) (k : Kernel) (p : ℕ) (c : Call) → k.call p ≡ Some c →
    ((ks : List Mark) → c.marks ≡ Some ks → is_some (trace_of m k p (Some c)) ≡ true) →
    StandsWhere m k p c
stands_where m k p c e runs = by_marks c.marks refl
  where
    by_marks : (x : Option (List Mark)) → c.marks ≡ x → StandsWhere m k p c
    by_marks None marked =
        AtPiece marked
        (ap (λ y. levels_in (config_in (trace_of m k p y))) e ∙ ap levels_in (ap config_in (no_trace marked)))
        (ap (needs_in m k p) e ∙ ap (λ (y : Option (List Mark)). elim y as (λ _. List Need) [
          | None ↦ m.need k.world k.objects p c.stage
          | Some ks ↦ needs_at m k (config_of m k p)
        ]) marked)
      where
        no_trace : c.marks ≡ None → trace_of m k p (Some c) ≡ None
        no_trace marked = rw marked refl
    by_marks (Some ks) marked = by_trace (trace_of m k p (Some c)) refl (runs ks marked)
      where
        by_trace : (t : Option Trace) → trace_of m k p (Some c) ≡ t → is_some t ≡ true → StandsWhere m k p c
        by_trace None f some = contrary (sym some)
        by_trace (Some t) f some =
            let config = ap (λ y. config_in (trace_of m k p y)) e ∙ ap config_in f in
            InGraft t.config ks marked config
            (ap (needs_in m k p) e
            ∙ ap (λ (y : Option (List Mark)). elim y as (λ _. List Need) [
              | None ↦ m.need k.world k.objects p c.stage
              | Some ks ↦ needs_at m k (config_of m k p)
            ]) marked
            ∙ ap (needs_at m k) config)

module _ (m : Meaning) (laws : Laws m) (k : Kernel) (x : Objects) (here : IsPlaced m k x) where
  -- ---- what is held exclusively

  few : (q : ℕ) (o : Object) → is_changed_in (levels_of m k q) o ≡ true → (q < 16) × (length (levels_of m k q) ≤ 4)
  few q o changed =
      let f = changer_config m k here.kernel q o changed in (
        caller_low m k here.kernel q f.0 f.1,
        subst (λ n. n ≤ 4) (sym (ap (λ y. length (levels_in y))
            f.1)) (grafted m laws k here.kernel q f.0 f.1).replayed.sound.most,
      )

  -- what nobody else keeps p from having, in any mode, no other call holds exclusively
  pub unhindered_free : (p : ℕ) (o : Object) (mode : Mode) →
      lowest_holder (holds m k) p o mode ≡ None → (q : ℕ) → q ≢ p →
      is_changed_in (levels_of m k q) o ≡ false
  unhindered_free p o mode free q ne = elim (cases_Bool (is_changed_in (levels_of m k q) o)) [
    | inr none ↦ none
    | inl some ↦
        let low = few q o some in
        let d = changed_somewhere (levels_of m k q) o some in
        contrary (sym (ap (λ (h : Held). conflicts h mode) (ap (λ t. t o) (holds_of m k q d.0 low.0) ∙ d.2))
        ∙ no_conflict (holds m k) q p d.0 o mode free low.0 ne (lower d.0 (length (levels_of m k q)) d.1 low.1))
  ]
    where
      lower : (d n : ℕ) → d < n → n ≤ 4 → d < 4
      lower d n h i = omega arith

  -- ---- what the next step needs, where nothing blocks it

  -- a piece's objects are as committed, if a call without levels isn't kept from them
  pub piece_agrees : (p : ℕ) (c : Call) (ns : List Need) (o : Object) → k.call p ≡ Some c → levels_of m k p ≡ [] →
      ((o : Object) → is_needed o ns ≡ true →
      is_needed o (m.need k.world k.objects p c.stage) ≡ true) →
      AllByRecursion (λ (n : Need). lowest_holder (holds m k) p n.object n.mode ≡ None) ns →
      is_needed o ns ≡ true → SameAt o x k.objects
  piece_agrees p c ns o e none more free need =
      let n = needed_contains o ns need in
      let wide = needed_contains o (m.need k.world k.objects p c.stage) (more o need) in
      let range = in_range o (subst IsInRange (sym wide.2) (laws.need.ranges k.world k.images
      k.objects p c.stage wide.0 (call_stands m k p c here.kernel e) wide.1)) in
      let holder = each_contains (λ (i : Need). lowest_holder (holds m k) p i.object i.mode ≡ None) ns n.0 free n.1 in
      committed m laws k x here o range (none_of m laws k x here p o (ap (λ ls. is_changed_in ls o)
      none) (λ q ne. subst (λ a. is_changed_in (levels_of m k q) a ≡ false) (sym n.2)
      (unhindered_free p n.0.object n.0.mode holder q ne)))

  -- nobody keeps p from what it needs
  pub unblocked_free : (p : ℕ) → blocker m k p ≡ None →
      AllByRecursion (λ (n : Need). lowest_holder (holds m k) p n.object n.mode ≡ None) (needs m k p)
  unblocked_free p free = each_free (holds m k) k.objects.things.lock p (lock_user p (levels_of m k p)) (needs m k p)
      (unmapped (first_hindrance (holds m k) k.objects.things.lock p (lock_user p (levels_of m k p))
      (needs m k p)) free)
    where
      unmapped : (y : Option Hindrance) → option_map (blocker_from k) y ≡ None → y ≡ None
      unmapped None e = refl
      unmapped (Some h) e = absurd cc

  pub piece_needs_agree : (p : ℕ) (c : Call) → k.call p ≡ Some c → levels_of m k p ≡ [] →
      needs m k p ≡ m.need k.world k.objects p c.stage → blocker m k p ≡ None →
      AgreeOn (m.need k.world k.objects p c.stage) k.objects x
  piece_needs_agree p c e none needed free o need =
      same_back o x k.objects (piece_agrees p c (m.need k.world k.objects p c.stage) o e none (λ a h. h)
      (subst (AllByRecursion (λ (n : Need). lowest_holder (holds m k) p n.object n.mode ≡ None)) needed
      (unblocked_free p free)) need)

  pub next_needs_agree : (p : ℕ) (f : Config) → config_of m k p ≡ Some f →
      needs m k p ≡ next_needs k.world k.images f.now.accounts f.levels → blocker m k p ≡ None →
      AgreeOn (next_needs k.world k.images f.now.accounts f.levels) f.now x
  next_needs_agree p f is needed free o need = elim (cases_Bool (is_held_in f.levels o)) [
    | inl held ↦ held_same m laws k x here p f o is held
    | inr away ↦
        let g = grafted m laws k here.kernel p f is in
        let mine = unchanged away in
        let n = needed_contains o (next_needs k.world k.images f.now.accounts f.levels) need in
        let holder =
        each_contains (λ (i : Need). lowest_holder (holds m k) p i.object i.mode ≡ None)
        (next_needs k.world k.images f.now.accounts f.levels) n.0
        (subst (AllByRecursion (λ (i : Need). lowest_holder (holds m k) p i.object i.mode ≡ None)) needed
        (unblocked_free p free)) n.1 in
        same_then o f.now k.objects x (g.replayed.now o mine)
        (same_back o x k.objects (committed m laws k x here o (range g f.levels refl need)
        (none_of m laws k x here p o (ap (λ y. is_changed_in (levels_in y) o) is ∙ mine)
        (λ q ne. subst (λ a. is_changed_in (levels_of m k q) a ≡ false) (sym n.2)
        (unhindered_free p n.0.object n.0.mode holder q ne)))))
  ]
    where
      unchanged : is_held_in f.levels o ≡ false → is_changed_in f.levels o ≡ false
      unchanged away =
          elim (cases_Bool (is_changed_in f.levels o)) [
            | inr none ↦ none
            | inl some ↦ contrary (sym (changed_held f.levels o some) ∙ away)
          ]

      range : Grafted m k p f → (ls : List Level) → f.levels ≡ ls →
          is_needed o (next_needs k.world k.images f.now.accounts ls) ≡ true → HasRange o
      range g [] e need = absurd cc
      range g (l ∷ ls) e need =
          let stands = g.replayed.sound.grafts l (subst (λ ks. Contains ks l) (sym e) (contains_first l ls)) in
          reached_range o
          (needs_range k.world k.images f.now.accounts l ls o here.store.world.callable
          (owner_low g l (f.now.accounts.graft l.owner l.point) refl stands) need)
        where
          owner_low : Grafted m k p f → (l : Level) (y : Option GraftValue) →
              f.now.accounts.graft l.owner l.point ≡ y → is_some y ≡ true → l.owner < 16
          owner_low g l None e some = contrary (sym some)
          owner_low g l (Some v) e some =
              g.replayed.sound.now.numbers l.owner
              (g.replayed.sound.now.grafts l.owner l.point v e).1
