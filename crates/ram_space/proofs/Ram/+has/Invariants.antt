-- Fewer bytes are left.
use Rattle.std.proofs.Common.{length}
use Rattle.ram_space.proofs.Ram.+has.Given as goal

abbrev pub decreases-has : goal.decreases-has
decreases-has l = length l.wanted.now
