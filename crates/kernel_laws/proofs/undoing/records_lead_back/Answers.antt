use Rattle.kernel_laws.proofs.UndoingLemmas.{records_lead_back}
use Rattle.kernel_laws.proofs.undoing.records_lead_back.Goals as goal

pub returns : goal.returns
returns c = records_lead_back
