use Rattle.std.proofs.Common.{length}
use Rattle.audit_kernel.proofs.Run.+add_cells.Given as goal

abbrev pub decreases-add_cells : goal.decreases-add_cells
decreases-add_cells l = length l.living.now
