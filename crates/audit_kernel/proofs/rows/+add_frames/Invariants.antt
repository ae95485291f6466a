use Rattle.std.proofs.Common.{length}
use Rattle.audit_kernel.proofs.rows.+add_frames.Given as goal

abbrev pub decreases-add_frames : goal.decreases-add_frames
decreases-add_frames l = length l.frames.now
