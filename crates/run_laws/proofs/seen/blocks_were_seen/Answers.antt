use Rattle.run_laws.proofs.SeenRunLemmas.{blocks_were_seen}
use Rattle.run_laws.proofs.seen.blocks_were_seen.Goals as goal

pub returns : goal.returns
returns c = blocks_were_seen
