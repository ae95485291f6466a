-- How many slices the processes of a run have.
use Rattle.std.specs.Prelude.{◌≡◌, ℕ, ◌+◌, ◌≤◌, Bool, List, Some, is_some}
use Rattle.script_model.specs.declared.Keys.{Keys}
use Rattle.script_model.specs.Directory.{Disk}
use Rattle.script_model.specs.Kernel.{Kernel}
use Rattle.script_model.specs.Laws.{slices_in}
use Rattle.script_model.specs.Session.{Build}
use Rattle.script_model.specs.Sound.{once_if, sum_below}
use Rattle.session_laws.specs.Sessions.{run_of, IsRunnable}

-- how many calls are in flight
abbrev pub calls_in_flight : Kernel → ℕ
calls_in_flight k = sum_below 16 (λ p. once_if (is_some (k.call p)))

-- the slices of all processes, and one for each call in flight, which may still give one
abbrev pub slices_due : Kernel → ℕ
slices_due k = slices_in k.objects.things.queue + calls_in_flight k

-- in each kernel of a run as in `IsRunnable`, `slices_due` is at most the number of the run's
-- events
abbrev pub SlicesWithinEvents : Type 0
SlicesWithinEvents =
    (b : Build) (keys : Keys) (d : Disk) (texts : List (List ℕ)) (ios : List (List Bool))
    (k : Kernel) →
    IsRunnable b d → (run_of b keys d texts ios).kernel ≡ Some k →
    slices_due k ≤ (run_of b keys d texts ios).events
