use Rattle.session_laws.proofs.SyncLemmas.{syncs_write_back_alone}
use Rattle.session_laws.proofs.syncs.syncs_write_back_alone.Goals as goal

pub returns : goal.returns
returns c = syncs_write_back_alone
