use Rattle.std.proofs.Common.{length}
use Rattle.lab_session.proofs.steps.notes_before_ran.Given as goal

abbrev pub decreases-loop-line : goal.decreases-loop-line
decreases-loop-line l = length l.lines
