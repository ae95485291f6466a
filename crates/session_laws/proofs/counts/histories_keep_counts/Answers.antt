use Rattle.session_laws.proofs.TraceCountLemmas.{histories_keep_counts}
use Rattle.session_laws.proofs.counts.histories_keep_counts.Goals as goal

pub returns : goal.returns
returns g c = histories_keep_counts g.R.Rules.meaning
