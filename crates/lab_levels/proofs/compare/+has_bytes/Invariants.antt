-- Fewer bytes are left.
use Rattle.std.proofs.Common.{length}
use Rattle.lab_levels.proofs.compare.+has_bytes.Given as goal

abbrev pub decreases-has_bytes : goal.decreases-has_bytes
decreases-has_bytes l = length l.wanted.now
