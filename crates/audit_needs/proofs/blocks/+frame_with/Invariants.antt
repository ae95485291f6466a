use Rattle.std.proofs.Common.{length}
use Rattle.audit_needs.proofs.blocks.+frame_with.Given as goal

abbrev pub decreases-frame_with : goal.decreases-frame_with
decreases-frame_with l = length l.frames.now
