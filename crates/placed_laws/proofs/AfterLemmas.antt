-- The one store after a step or a drop of one call, which leaves alone what other calls hold exclusively.
use Rattle.std.specs.Prelude.{◌≡◌, ◌≢◌, ℕ, true, false, cond, List, [], ◌∷◌, ◌++◌, map, Option, Some, None, ◌⊎◌}
use Rattle.std.proofs.Common.{arith, refl, subst, sym, ap, ◌∙◌, inl, inr}
use Rattle.std.proofs.lemmas.Bool.{cases_Bool}
use Rattle.std.proofs.lemmas.Bool.Decides.{nat_tests}
use Rattle.kernel_model.specs.declared.Object.{Object}
use Rattle.kernel_model.specs.Objects.{Objects, SameAt}
use Rattle.kernel_model.specs.Locks.{is_held_exclusively}
use Rattle.kernel_model.specs.Meaning.{Meaning}
use Rattle.kernel_model.specs.Levels.{Level, Config}
use Rattle.kernel_model.specs.History.{Mark}
use Rattle.kernel_model.specs.Kernel.{Call, Kernel, Run, new_entry, less_entry, requeue, is_at_piece}
use Rattle.kernel_model.specs.Blocking.{config_in, levels_in, trace_of, config_of, levels_of}
use Rattle.kernel_model.specs.InPlace.{in_place, is_changed_in}
use Rattle.kernel_model.specs.Sound.{IsSoundStore, IsSoundKernel}
use Rattle.kernel_model.specs.Alike.{LevelsAlike}
use Rattle.kernel_model.specs.Laws.{Laws}
use Rattle.kernel_model.specs.Claims.{IsStable}
use Rattle.graft_laws.specs.Histories.{HasRange}
use Rattle.graft_laws.specs.Kernels.{IsSoundRun}
use Rattle.graft_laws.proofs.EffectLemmas.{same_back}
use Rattle.graft_laws.proofs.HoldLemmas.{changed_held}
use Rattle.graft_laws.proofs.LevelsAlikeLemmas.{any_alike}
use Rattle.graft_laws.proofs.OrderLemmas.{levels_same}
use Rattle.graft_laws.proofs.InPlaceLemmas.{in_place_reads, changer, changer_config, others_apart}
use Rattle.placed_laws.specs.Placed.{PlacedRun, bare}
use Rattle.placed_laws.specs.PlacedSteps.{placed_requeue, is_placed_at_piece}
use Rattle.placed_laws.specs.Stands.{without_history, RunStandsFor}
use Rattle.placed_laws.proofs.LevelLemmas.{bare_alike}
use Rattle.placed_laws.proofs.FreeLemmas.{StandsWhere, AtPiece, InGraft, stands_where}
use Rattle.placed_laws.proofs.PieceLemmas.{piece_is}
use Rattle.placed_laws.proofs.SourceLemmas.{IsPlaced}
use Rattle.kernel_laws.proofs.FrameLemmas.{same_then}

-- levels that are alike hold the same exclusively
pub changed_alike : (ls ks : List Level) (o : Object) → LevelsAlike ls ks → is_changed_in ls o ≡ is_changed_in ks o
changed_alike ls ks o h = any_alike (λ (l : Level). is_held_exclusively (l.touched o)) ls ks (λ l x. refl) h

-- what a step of p's call, or a drop, has to leave in the one store, of which w is the former state
pub record OwnPart (m : Meaning) (k : Kernel) (w : Objects) (p : ℕ) (y : Objects) (l : Kernel) : Type 0 where
  -- what another call holds exclusively is as it was
  pub beside : (o : Object) (q : ℕ) → HasRange o → q ≢ p → is_changed_in (levels_of m k q) o ≡ true → SameAt o y w
  -- what p's call then holds exclusively is as that call has it
  pub own : (f : Config) (o : Object) → config_of m l p ≡ Some f → HasRange o →
      is_changed_in f.levels o ≡ true → SameAt o y f.now
  -- all else is as then committed
  pub rest : (o : Object) → HasRange o →
      ((q : ℕ) → q ≢ p → is_changed_in (levels_of m k q) o ≡ false) →
      is_changed_in (levels_of m l p) o ≡ false → SameAt o y l.objects

-- numbers are the same or not
pub number_cases : (q p : ℕ) → (q ≡ p) ⊎ (q ≢ p)
number_cases q p = grind (arith, nat_tests)

-- another call holds an object exclusively, or none does
pub other_changer : (m : Meaning) (k : Kernel) → IsSoundKernel m k → (p : ℕ) (o : Object) →
    ((q : ℕ) × (q ≢ p) × (is_changed_in (levels_of m k q) o ≡ true))
    ⊎ ((q : ℕ) → q ≢ p → is_changed_in (levels_of m k q) o ≡ false)
other_changer m k sound p o = elim (changer m k sound o) [
  | inr none ↦ inr (λ q ne. none q)
  | inl found ↦ by_number found.0 found.1 (number_cases found.0 p)
]
  where
    by_number : (q : ℕ) → is_changed_in (levels_of m k q) o ≡ true → (q ≡ p) ⊎ (q ≢ p) →
        ((q : ℕ) × (q ≢ p) × (is_changed_in (levels_of m k q) o ≡ true))
        ⊎ ((q : ℕ) → q ≢ p → is_changed_in (levels_of m k q) o ≡ false)
    by_number q changed (inr ne) = inl (q, ne, changed)
    by_number q changed (inl e) =
        inr (λ i ne. others_apart m k sound p i o ne
        (subst (λ j. is_changed_in (levels_of m k j) o ≡ true) e changed))

-- what a call that is the same in another kernel holds exclusively stands in place there as before
pub stable_placed : (m : Meaning) (k l : Kernel) → IsSoundKernel m k → IsSoundKernel m l →
    (q : ℕ) (o : Object) → IsStable m k l q → is_changed_in (levels_of m k q) o ≡ true →
    SameAt o (in_place m k) (in_place m l)
stable_placed m k l before after q o stable changed =
    let f = changer_config m k before q o changed in
    let d = stable f.0 f.1 in
    let now = d.2.now o (changed_held f.0.levels o f.2) in
    let still = sym (changed_alike f.0.levels d.0.levels o d.2.levels) ∙ f.2 in
    same_then o (in_place m k) f.0.now (in_place m l) ((in_place_reads m).own k q f.0 o before f.1 f.2)
    (same_then o f.0.now d.0.now (in_place m l) now
    (same_back o (in_place m l) d.0.now ((in_place_reads m).own l q d.0 o after d.1 still)))

module _ (m : Meaning) (laws : Laws m) (k : Kernel) (w : Objects) (here : IsPlaced m k w)
    (l : Kernel) (after : IsSoundKernel m l) (p : ℕ)
    (calls : (q : ℕ) → q ≢ p → l.call q ≡ k.call q) (stable : (q : ℕ) → q ≢ p → IsStable m k l q) where
  -- the levels of the others are the same
  pub others_alike : (q : ℕ) → q ≢ p → LevelsAlike (levels_of m k q) (levels_of m l q)
  others_alike q ne = by_call (k.call q) refl
    where
      none_there : (y : Kernel) → y.call q ≡ None → levels_of m y q ≡ []
      none_there y e = ap (λ z. levels_in (config_in (trace_of m y q z))) e

      both_none : levels_of m k q ≡ [] → levels_of m l q ≡ [] → LevelsAlike (levels_of m k q) (levels_of m l q)
      both_none e f =
          subst (λ ls. LevelsAlike ls (levels_of m l q)) (sym e)
          (subst (λ ls. LevelsAlike [] ls) (sym f) tt)

      no_marks : (c : Call) → c.marks ≡ None → StandsWhere m l q c → levels_of m l q ≡ []
      no_marks c marked (AtPiece e none needed) = none
      no_marks c marked (InGraft f ks e is needed) = absurd (none_some ks (sym marked ∙ e))
        where
          none_some : (ks : List Mark) → None ≡ Some ks → ⊥
          none_some ks e = cc

      by_where : (c : Call) → k.call q ≡ Some c → StandsWhere m k q c → LevelsAlike (levels_of m k q) (levels_of m l q)
      by_where c e (AtPiece marked none needed) =
          both_none none (no_marks c marked (stands_where m l q c
          (calls q ne ∙ e) (λ ks f. after.runs q c ks (calls q ne ∙ e) f)))
      by_where c e (InGraft f ks marked is needed) =
          let d = stable q ne f is in
          subst (λ y. LevelsAlike (levels_in y) (levels_of m l q)) (sym is)
          (subst (λ y. LevelsAlike f.levels (levels_in y)) (sym d.1) d.2.levels)

      by_call : (x : Option Call) → k.call q ≡ x → LevelsAlike (levels_of m k q) (levels_of m l q)
      by_call None e = both_none (none_there k e) (none_there l (calls q ne ∙ e))
      by_call (Some c) e = by_where c e (stands_where m k q c e (λ ks marked. here.kernel.runs q c ks e marked))

  -- they hold the same exclusively
  pub others_changed : (q : ℕ) (o : Object) → q ≢ p →
      is_changed_in (levels_of m l q) o ≡ is_changed_in (levels_of m k q) o
  others_changed q o ne = sym (changed_alike (levels_of m k q) (levels_of m l q) o (others_alike q ne))

  -- and it stands in place as before
  others_placed : (q : ℕ) (o : Object) → q ≢ p → is_changed_in (levels_of m k q) o ≡ true →
      SameAt o (in_place m k) (in_place m l)
  others_placed q o ne changed = stable_placed m k l here.kernel after q o (stable q ne) changed

  pub placed_after : (y : Objects) → OwnPart m k w p y l → (o : Object) → HasRange o → SameAt o y (in_place m l)
  placed_after y part o range = elim (other_changer m k here.kernel p o) [
    | inl found ↦
        same_then o y w (in_place m l) (part.beside o found.0 range found.1 found.2)
        (same_then o w (in_place m k) (in_place m l) (here.objects o range) (others_placed found.0 o found.1 found.2))
    | inr none ↦ elim (cases_Bool (is_changed_in (levels_of m l p) o)) [
      | inl mine ↦
          let f = changer_config m l after p o mine in
          same_then o y f.0.now (in_place m l) (part.own f.0 o f.1 range f.2)
          (same_back o (in_place m l) f.0.now ((in_place_reads m).own l p f.0 o after f.1 f.2))
      | inr free ↦
          same_then o y l.objects (in_place m l) (part.rest o range none free)
          (same_back o (in_place m l) l.objects
          ((in_place_reads m).committed l o (λ q. by_number q free none (number_cases q p))))
    ]
  ]
    where
      by_number : (q : ℕ) → is_changed_in (levels_of m l p) o ≡ false →
          ((q : ℕ) → q ≢ p → is_changed_in (levels_of m k q) o ≡ false) → (q ≡ p) ⊎ (q ≢ p) →
          is_changed_in (levels_of m l q) o ≡ false
      by_number q free none (inl e) = ap (λ i. is_changed_in (levels_of m l i) o) e ∙ free
      by_number q free none (inr ne) = others_changed q o ne ∙ none q ne

-- ---- an event under way

-- a run in place after a step or a drop of p's call, before the call takes its place in the order, and the abstract one
pub record CameAlike (m : Meaning) (k : Kernel) (w : Objects) (p : ℕ) (y : PlacedRun) (u : Run) : Type 0 where
  pub world : y.placed.world ≡ u.kernel.world
  pub images : y.placed.images ≡ u.kernel.images
  pub clock : y.placed.clock ≡ u.kernel.clock
  pub order : y.placed.order ≡ u.kernel.order
  pub blocks : y.blocks ≡ u.blocks
  pub notes : y.notes ≡ u.notes
  pub io : y.io ≡ u.io
  pub calls : (q : ℕ) → y.placed.call q ≡ without_history (u.kernel.call q)
  pub levels : y.placed.levels p ≡ map bare (levels_of m u.kernel p)
  pub others : (q : ℕ) → q ≢ p → y.placed.levels q ≡ map bare (levels_of m k q)
  pub store : IsSoundStore u.kernel.world y.placed.objects

pub stands_after : (m : Meaning) (laws : Laws m) (k : Kernel) (w : Objects) → IsPlaced m k w →
    (p : ℕ) (y : PlacedRun) (u : Run) → CameAlike m k w p y u → IsSoundRun m (requeue p u) →
    OwnPart m k w p y.placed.objects (requeue p u).kernel →
    ((q : ℕ) → q ≢ p → u.kernel.call q ≡ k.call q) →
    ((q : ℕ) → q ≢ p → IsStable m k (requeue p u).kernel q) →
    RunStandsFor m (placed_requeue p y) (requeue p u)
stands_after m laws k w here p y u came sound part calls stable =
    let l = (requeue p u).kernel in
    let same = λ (q : ℕ). levels_same m u.kernel u.kernel.clock l.order q in
    record {
      kernel = record {
        world = came.world;
        images = came.images;
        clock = came.clock;
        order =
            ap (λ es. less_entry p es ++ cond (is_placed_at_piece (y.placed.call p)
            (y.placed.levels p)) (new_entry p ∷ []) []) came.order
            ∙ ap (λ b. less_entry p u.kernel.order ++ cond b (new_entry p ∷ []) []) (at_piece same);
        calls = came.calls;
        levels = λ q. by_number q same (number_cases q p);
        objects = placed_after m laws k w here l sound.kernel p calls stable y.placed.objects part;
        store = subst (λ v. IsSoundStore v y.placed.objects) (sym came.world) came.store;
        kernel = sound.kernel;
      };
      blocks = came.blocks;
      notes = came.notes;
      io = came.io;
      whole = sound.blocks;
    }
  where
    at_piece : ((q : ℕ) → levels_of m (requeue p u).kernel q ≡ levels_of m u.kernel q) →
        is_placed_at_piece (y.placed.call p) (y.placed.levels p) ≡ is_at_piece (u.kernel.call p)
    at_piece same =
        ap (λ c. is_placed_at_piece c (y.placed.levels p)) (came.calls p)
        ∙ ap (λ ls. is_placed_at_piece (without_history (u.kernel.call p)) ls) (came.levels
        ∙ ap (map bare) (sym (same p)))
        ∙ piece_is m laws (requeue p u).kernel sound.kernel p

    by_number : (q : ℕ) → ((q : ℕ) → levels_of m (requeue p u).kernel q ≡ levels_of m u.kernel q) →
        (q ≡ p) ⊎ (q ≢ p) → y.placed.levels q ≡ map bare (levels_of m (requeue p u).kernel q)
    by_number q same (inl e) =
        subst (λ i. y.placed.levels i ≡ map bare (levels_of m (requeue p u).kernel i)) (sym e)
        (came.levels ∙ ap (map bare) (sym (same p)))
    by_number q same (inr ne) =
        came.others q ne ∙ bare_alike (levels_of m k q) (levels_of m (requeue p u).kernel q)
        (others_alike m laws k w here (requeue p u).kernel sound.kernel p calls stable q ne)
