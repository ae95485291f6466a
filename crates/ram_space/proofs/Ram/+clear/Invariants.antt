-- Fewer bytes are left.
use Rattle.std.proofs.Common.{◌-◌}
use Rattle.ram_space.proofs.Ram.+clear.Given as goal

abbrev pub decreases-clear : goal.decreases-clear
decreases-clear l = l.to - l.from
