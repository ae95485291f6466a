-- What a call's steps and drops leave to the other calls.
use Rattle.std.specs.Prelude.{◌≡◌, ℕ, Bool, false, Option, Some, None}
use Rattle.kernel_model.specs.declared.Cause.{Cause}
use Rattle.kernel_model.specs.declared.Object.{Object}
use Rattle.kernel_model.specs.Objects.{SameAt}
use Rattle.kernel_model.specs.Meaning.{Meaning}
use Rattle.kernel_model.specs.Kernel.{Call, Kernel, Run}
use Rattle.kernel_model.specs.Blocking.{levels_of}
use Rattle.kernel_model.specs.Settle.{step}
use Rattle.kernel_model.specs.Events.{drop_call}
use Rattle.kernel_model.specs.InPlace.{is_changed_in}
use Rattle.kernel_model.specs.Sound.{IsSoundKernel, HasWholeBlocks}
use Rattle.kernel_model.specs.Alike.{is_needed_exclusively}
use Rattle.kernel_model.specs.Laws.{Laws}
use Rattle.graft_laws.specs.Histories.{HasRange}

-- an object that a call of p holds exclusively, or that it needs so where its next step is a piece
abbrev pub is_taken_in : Meaning → Kernel → ℕ → Object → Option Call → Bool
is_taken_in m k p o None = false
is_taken_in m k p o (Some c) =
    elim c.marks [
      | None ↦ is_needed_exclusively o (m.need k.world k.objects p c.stage)
      | Some ks ↦ is_changed_in (levels_of m k p) o
    ]

-- the same of the call that a process has in flight
abbrev pub is_taken_by : Meaning → Kernel → ℕ → Object → Bool
is_taken_by m k p o = is_taken_in m k p o (k.call p)

-- What a step commits: changes only of what the call takes; and the drop of a level: only of what
-- the call holds exclusively.
pub record CommitsWhatIsTaken (m : Meaning) : Type 0 where
  pub steps : (r : Run) (p : ℕ) (o : Object) → Laws m → IsSoundKernel m r.kernel →
      HasWholeBlocks r.kernel.world r.blocks → HasRange o →
      is_taken_by m r.kernel p o ≡ false → SameAt o r.kernel.objects (step m p r).kernel.objects
  pub drops : (r : Run) (p : ℕ) (d : Option ℕ) (cause : Cause) (o : Object) → Laws m →
      IsSoundKernel m r.kernel →
      HasWholeBlocks r.kernel.world r.blocks → HasRange o →
      is_changed_in (levels_of m r.kernel p) o ≡ false →
      SameAt o r.kernel.objects (drop_call m p (r.kernel.call p) d cause r).kernel.objects
