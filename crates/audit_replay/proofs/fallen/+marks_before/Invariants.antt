use Rattle.std.proofs.Common.{length}
use Rattle.audit_replay.proofs.fallen.+marks_before.Given as goal

abbrev pub decreases-marks_before : goal.decreases-marks_before
decreases-marks_before l = length l.pasts.now
