use Rattle.std.proofs.Common.{take}
use Rattle.lab_grading.specs.Graded.{AreSaid}
use Rattle.lab_grading.proofs.submission.outcomes_of.Given as goal

abbrev pub invariant-loop-checked : goal.invariant-loop-checked
invariant-loop-checked l = AreSaid l.text l.to (take l.checked-index l.all) l.outcomes.items
