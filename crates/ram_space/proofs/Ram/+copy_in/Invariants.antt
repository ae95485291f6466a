-- Fewer bytes are left.
use Rattle.std.proofs.Common.{length}
use Rattle.ram_space.proofs.Ram.+copy_in.Given as goal

abbrev pub decreases-copy_in : goal.decreases-copy_in
decreases-copy_in l = length l.from.now
