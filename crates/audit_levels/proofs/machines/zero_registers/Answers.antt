use Rattle.audit_levels.proofs.Segments.{zeros}
use Rattle.audit_levels.proofs.machines.zero_registers.Goals as goal

pub returns : goal.returns
returns c = λ i. zeros 256 i
