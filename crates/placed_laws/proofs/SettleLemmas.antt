-- Settling, in place and in the abstract kernel.
use Rattle.std.specs.Prelude.{◌≡◌, ℕ, zero, suc, Option, Some, None}
use Rattle.std.proofs.Common.{refl, subst, sym, ap, ◌∙◌}
use Rattle.kernel_model.specs.Meaning.{Meaning}
use Rattle.kernel_model.specs.Kernel.{Call, Run}
use Rattle.kernel_model.specs.Blocking.{blocker}
use Rattle.kernel_model.specs.Settle.{first_free, rested, settle, settled, step}
use Rattle.kernel_model.specs.Sound.{IsAtRest}
use Rattle.kernel_model.specs.Laws.{Laws}
use Rattle.kernel_laws.proofs.SettleLemmas.{settles_to_rest}
use Rattle.graft_laws.proofs.OrderLemmas.{entry_called}
use Rattle.graft_laws.proofs.SettleSoundLemmas.{first_free_is}
use Rattle.placed_laws.specs.Placed.{Placed, PlacedRun}
use Rattle.placed_laws.specs.PlacedSteps.{placed_step, placed_first_free}
use Rattle.placed_laws.specs.PlacedEvents.{placed_rested, placed_settle, placed_settled}
use Rattle.placed_laws.specs.Stands.{without_history, RunStandsFor}
use Rattle.placed_laws.proofs.AlignLemmas.{aligned, placed_of}
use Rattle.placed_laws.proofs.BlockerLemmas.{free_is}
use Rattle.placed_laws.proofs.OtherLemmas.{blocker_there, others_stand}
use Rattle.placed_laws.proofs.StandLemmas.{steps_stand}

-- two runs, the abstract one at rest
pub record RunsAtRest (m : Meaning) (x : PlacedRun) (r : Run) : Type 0 where
  pub stands : RunStandsFor m x r
  pub rests : IsAtRest m r.kernel

module _ (m : Meaning) (laws : Laws m) where
  first_there : (x : PlacedRun) (r : Run) → RunStandsFor m x r →
      placed_first_free m x.placed x.placed.order ≡ first_free m r.kernel r.kernel.order
  first_there x r h =
      ap (λ (y : Placed). placed_first_free m y y.order) (aligned m x.placed r.kernel h.kernel)
      ∙ free_is m laws r.kernel x.placed.objects (placed_of m x.placed r.kernel h.kernel) r.kernel.order

  -- a step of a call of the abstract kernel
  pub step_there : (x : PlacedRun) (r : Run) (p : ℕ) (c : Call) →
      RunStandsFor m x r → r.kernel.call p ≡ Some c → blocker m r.kernel p ≡ None →
      RunStandsFor m (placed_step m p x) (step m p r)
  step_there x r p c h e free =
      steps_stand m laws x r p (record { number = c.number; stage = c.stage }) h
      (h.kernel.calls p ∙ ap without_history e) (blocker_there m laws x r p h ∙ free)

  pub settle_stands : (n : ℕ) (x : PlacedRun) (r : Run) → RunStandsFor m x r →
      RunStandsFor m (placed_settle m n x) (settle m n r)
  settle_stands zero x r h = (others_stand m laws).resting x r h
  settle_stands (suc n) x r h =
      by_first (first_free m r.kernel r.kernel.order) (placed_first_free m x.placed x.placed.order)
      refl (first_there x r h) (settle_stands n)
    where
      by_first : (y z : Option ℕ) → first_free m r.kernel r.kernel.order ≡ y →
          z ≡ first_free m r.kernel r.kernel.order →
          ((x : PlacedRun) (r : Run) → RunStandsFor m x r → RunStandsFor m (placed_settle m n x) (settle m n r)) →
          RunStandsFor m (elim z as (λ _. PlacedRun) [
            | None ↦ placed_rested m x
            | Some p ↦ placed_settle m n (placed_step m p x)
          ])
          (elim y as (λ _. Run) [ None ↦ rested m r | Some p ↦ settle m n (step m p r) ])
      by_first None z e f again =
          subst (λ (o : Option ℕ). RunStandsFor m (elim o as (λ _. PlacedRun) [
            | None ↦ placed_rested m x
            | Some p ↦ placed_settle m n (placed_step m p x)
          ]) (rested m r)) (sym (f ∙ e))
          ((others_stand m laws).resting x r h)
      by_first (Some p) z e f again =
          let i = first_free_is m laws laws.need.grafts r.kernel r.kernel.order p e in
          let c = entry_called m r.kernel i.0 h.kernel.kernel i.1 in
          subst (λ (o : Option ℕ). RunStandsFor m (elim o as (λ _. PlacedRun) [
            | None ↦ placed_rested m x
            | Some q ↦ placed_settle m n (placed_step m q x)
          ])
          (settle m n (step m p r))) (sym (f ∙ e))
          (again (placed_step m p x) (step m p r) (step_there x r p c.0 h (ap r.kernel.call (sym i.2) ∙ c.1) i.3))

  pub settled_stands : (x : PlacedRun) (r : Run) → RunStandsFor m x r → RunsAtRest m (placed_settled m x) (settled m r)
  settled_stands x r h =
      record {
        stands = settle_stands 256 x r h;
        rests = settles_to_rest m laws r h.kernel.kernel h.whole;
      }
