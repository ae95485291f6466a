use Rattle.audit_state.proofs.Computed.{computed}
use Rattle.audit_state.proofs.sample.rows_are.Goals as goal

pub returns : goal.returns
returns c = computed
