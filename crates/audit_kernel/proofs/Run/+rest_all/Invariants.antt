use Rattle.std.proofs.Common.{length}
use Rattle.audit_kernel.proofs.Run.+rest_all.Given as goal

abbrev pub decreases-rest_all : goal.decreases-rest_all
decreases-rest_all l = length l.entries.now
