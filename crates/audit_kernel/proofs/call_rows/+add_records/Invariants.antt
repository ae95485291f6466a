use Rattle.std.proofs.Common.{length}
use Rattle.audit_kernel.proofs.call_rows.+add_records.Given as goal

abbrev pub decreases-add_records : goal.decreases-add_records
decreases-add_records l = length l.records.now
