-- Events leave the world.
use Rattle.std.specs.Prelude.{◌≡◌, ℕ, List, [], Option, Some, None}
use Rattle.std.proofs.Common.{refl, ap, ◌∙◌}
use Rattle.script_model.specs.declared.Cause.{Cause}
use Rattle.script_model.specs.declared.Event.TheVariants.{Tick}
use Rattle.script_model.specs.Blocking.{trace_of}
use Rattle.script_model.specs.Events.{drop_marked, drop_call, tick_event}
use Rattle.script_model.specs.History.{Mark, Trace}
use Rattle.script_model.specs.Kernel.{Call, Run}
use Rattle.script_model.specs.Laws.{Laws}
use Rattle.script_model.specs.Meaning.{Meaning}
use Rattle.script_model.specs.World.{World}
use Rattle.graft_laws.specs.Kernels.{IsSoundRun}
use Rattle.graft_laws.proofs.NoteLemmas.{sound_stands}
use Rattle.graft_laws.proofs.StepMoveLemmas.{call_moves, drop_moves}
use Rattle.kernel_laws.proofs.Laws.{instructions_work, histories_work, effects_stay_sound}
use Rattle.run_laws.proofs.MoveLemmas.{Kept, event_kept}

module _ (m : Meaning) (laws : Laws m) (v : World) where
  world_kept : Kept m (λ l r. r.kernel.world ≡ v)
  world_kept = record {
    steps = λ l p c r sound is free h.
        (call_moves m laws instructions_work (histories_work m) p c r
        (sound_stands m r.kernel r.blocks sound.kernel sound.blocks) is).world ∙ h;
    drops = λ l e p n cause r sound low does h. dropped p n cause r sound (r.kernel.call p) refl ∙ h;
    ends = λ l e p b c r sound is none does h. h;
    idle = λ l e r does h. h;
    notes = λ l x r other h. h;
    begins = λ l number p call t r sound none alive early h. h;
    joined = λ l p b r sound level away blocked h. h;
    rests = λ l r sound h. h;
    ticks = λ l number r sound h. h;
  }
    where
      by_marks : (p n : ℕ) (cause : Cause) (r : Run) (c : Call) → IsSoundRun m r → r.kernel.call p ≡ Some c →
          (x : Option (List Mark)) → c.marks ≡ x → (y : Option Trace) → trace_of m r.kernel p (Some c) ≡ y →
          (drop_marked m p c x y (Some n) cause r).kernel.world ≡ r.kernel.world
      by_marks p n cause r c sound is None marked y leads = refl
      by_marks p n cause r c sound is (Some ks) marked None leads = refl
      by_marks p n cause r c sound is (Some ks) marked (Some t) leads =
          (drop_moves m laws instructions_work (histories_work m) effects_stay_sound p c ks t n cause r
          (sound_stands m r.kernel r.blocks sound.kernel sound.blocks) is marked leads).world

      dropped : (p n : ℕ) (cause : Cause) (r : Run) → IsSoundRun m r → (x : Option Call) → r.kernel.call p ≡ x →
          (drop_call m p (r.kernel.call p) (Some n) cause r).kernel.world ≡ r.kernel.world
      dropped p n cause r sound None is =
          ap (λ x. (drop_call m p x (Some n) cause r).kernel.world) is
      dropped p n cause r sound (Some c) is =
          ap (λ x. (drop_call m p x (Some n) cause r).kernel.world) is
          ∙ by_marks p n cause r c sound is c.marks refl (trace_of m r.kernel p (Some c)) refl

-- a tick does
pub tick_world : (m : Meaning) (laws : Laws m) (number : ℕ) (r : Run) → IsSoundRun m r →
    (tick_event m number r).kernel.world ≡ r.kernel.world
tick_world m laws number r sound =
    (event_kept m laws (λ l u. u.kernel.world ≡ r.kernel.world) (world_kept m laws r.kernel.world) number Tick [] r
    (sound, refl)).1
