-- What another call holds exclusively stays in the one store through a step or a drop.
use Rattle.std.specs.Prelude.{◌≡◌, ℕ, ◌<◌, ◌≤◌, nat_lt, true, false, Some}
use Rattle.std.proofs.Common.{arith, sym, ap, ◌∙◌, inl, inr}
use Rattle.std.proofs.lemmas.Bool.{cases_Bool}
use Rattle.std.proofs.lemmas.Bool.Decides.{nat_tests}
use Rattle.kernel_model.specs.declared.Held.{Held}
use Rattle.kernel_model.specs.declared.Object.{Object}
use Rattle.kernel_model.specs.Objects.{SameAt}
use Rattle.kernel_model.specs.Locks.{is_held_exclusively}
use Rattle.kernel_model.specs.Meaning.{Meaning}
use Rattle.kernel_model.specs.Levels.{touched_at}
use Rattle.kernel_model.specs.Kernel.{Kernel}
use Rattle.kernel_model.specs.Blocking.{levels_of, holds}
use Rattle.kernel_model.specs.Settle.{step}
use Rattle.kernel_model.specs.Events.{drop_call}
use Rattle.kernel_model.specs.InPlace.{in_place, is_changed_in}
use Rattle.kernel_model.specs.Sound.{IsSoundKernel}
use Rattle.kernel_model.specs.Laws.{Laws}
use Rattle.kernel_model.specs.Claims.{IsStable}
use Rattle.graft_laws.specs.Histories.{HasRange}
use Rattle.graft_laws.proofs.EffectLemmas.{same_back}
use Rattle.graft_laws.proofs.HoldLemmas.{changed_held}
use Rattle.graft_laws.proofs.KernelLemmas.{changed_at}
use Rattle.graft_laws.proofs.StabilityLemmas.{calls_are_stable}
use Rattle.graft_laws.proofs.InPlaceLemmas.{changer_config, row_low, row_high}
use Rattle.placed_laws.specs.Keeping.{HeldStays}
use Rattle.placed_laws.specs.Placed.{Placed, placed_holds}
use Rattle.placed_laws.specs.PlacedSteps.{placed_step, placed_drop}
use Rattle.placed_laws.specs.Stands.{StandsFor}
use Rattle.placed_laws.proofs.GraftedLemmas.{grafted}
use Rattle.placed_laws.proofs.BlockerLemmas.{same_blockers}
use Rattle.placed_laws.proofs.AfterLemmas.{stable_placed}
use Rattle.placed_laws.proofs.StandLemmas.{call_there, steps_stand, drops_stand}
use Rattle.kernel_laws.proofs.FrameLemmas.{same_then}

-- what the table says is held exclusively, a level of the call holds so
table_changed : (m : Meaning) (k : Kernel) (q d : ℕ) (o : Object) →
    holds m k q d o ≡ Held.Exclusive → is_changed_in (levels_of m k q) o ≡ true
table_changed m k q d o held = elim (cases_Bool (nat_lt q 16)) [
  | inl low ↦ changed_at (levels_of m k q) d o (ap is_held_exclusively
      (ap (λ ls. touched_at ls d o) (sym (row_low (levels_of m k) q (below q low))) ∙ held))
  | inr high ↦ absurd (free_held
      (ap (λ ls. touched_at ls d o) (sym (row_high (levels_of m k) q (beyond q high))) ∙ held))
]
  where
    below : (q : ℕ) → nat_lt q 16 ≡ true → q < 16
    below q h = grind (arith, nat_tests)

    beyond : (q : ℕ) → nat_lt q 16 ≡ false → 16 ≤ q
    beyond q h = grind (arith, nat_tests)

    free_held : Held.Free ≡ Held.Exclusive → ⊥
    free_held h = cc

module _ (m : Meaning) (laws : Laws m) where
  -- what a call holds exclusively is in range
  held_range : (k : Kernel) → IsSoundKernel m k → (q : ℕ) (o : Object) →
      is_changed_in (levels_of m k q) o ≡ true → HasRange o
  held_range k sound q o changed =
      let f = changer_config m k sound q o changed in
      (grafted m laws k sound q f.0 f.1).replayed.ranges o (changed_held f.0.levels o f.2)

  -- a call that is the same in two kernels has in the store of the one what it holds exclusively in that of the other
  stays_between : (x y : Placed) (k l : Kernel) (q d : ℕ) (o : Object) → StandsFor m x k →
      StandsFor m y l → IsStable m k l q → placed_holds x q d o ≡ Held.Exclusive →
      SameAt o y.objects x.objects
  stays_between x y k l q d o before after stable held =
      let changed = table_changed m k q d o (sym ((same_blockers m laws).held x k q d o before) ∙ held) in
      let range = held_range k before.kernel q o changed in
      same_back o x.objects y.objects
      (same_then o x.objects (in_place m k) y.objects (before.objects o range)
      (same_then o (in_place m k) (in_place m l) y.objects
      (stable_placed m k l before.kernel after.kernel q o stable changed)
      (same_back o y.objects (in_place m l) (after.objects o range))))

  pub held_stays : HeldStays m
  held_stays =
      record {
        steps = λ x r p q d c o h call free ne held.
            let e = call_there (r.kernel.call p) c (sym (h.kernel.calls p) ∙ call) in
            let unblocked = sym ((same_blockers m laws).blockers x.placed r.kernel p h.kernel) ∙ free in
            stays_between x.placed (placed_step m p x).placed r.kernel (step m p r).kernel q d o
            h.kernel (steps_stand m laws x r p c h call free).kernel
            ((calls_are_stable m).steps r q p e.0 laws h.kernel.kernel h.whole ne e.1 unblocked) held;
        drops = λ x r p q d n cause o h low ne held.
            stays_between x.placed (placed_drop m p n cause x).placed r.kernel
            (drop_call m p (r.kernel.call p) (Some n) cause r).kernel q d o h.kernel
            (drops_stand m laws x r p n cause h low).kernel ((calls_are_stable m).drops r q p
            (Some n) cause laws h.kernel.kernel h.whole ne) held;
      }
