use Rattle.std.proofs.Common.{◌≡◌, drop}
use Rattle.lab_task.specs.Submission.{unasked}
use Rattle.lab_task.proofs.submission.check_asked.Given as goal

abbrev pub invariant-loop-graft : goal.invariant-loop-graft
invariant-loop-graft l =
    unasked l.gives l.grafts ≡ unasked l.gives (drop l.graft-index l.grafts)
