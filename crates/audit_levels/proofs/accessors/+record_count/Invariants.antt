use Rattle.std.proofs.Common.{length}
use Rattle.audit_levels.proofs.accessors.+record_count.Given as goal

abbrev pub decreases-record_count : goal.decreases-record_count
decreases-record_count l = length l.levels.now
