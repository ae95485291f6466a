use Rattle.session_laws.proofs.CountLemmas.{instructions_keep_counts}
use Rattle.session_laws.proofs.counts.instructions_keep_counts.Goals as goal

pub returns : goal.returns
returns c = instructions_keep_counts
