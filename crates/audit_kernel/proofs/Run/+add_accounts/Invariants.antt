use Rattle.std.proofs.Common.{length}
use Rattle.audit_kernel.proofs.Run.+add_accounts.Given as goal

abbrev pub decreases-add_accounts : goal.decreases-add_accounts
decreases-add_accounts l = length l.living.now
