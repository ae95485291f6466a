use Rattle.run_laws.proofs.SyncEndLemmas.{syncs_end_written}
use Rattle.run_laws.proofs.seen.syncs_end_written.Goals as goal

pub returns : goal.returns
returns c = syncs_end_written
