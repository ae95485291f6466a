use Rattle.session_laws.proofs.TraceCountLemmas.{calls_keep_counts}
use Rattle.session_laws.proofs.counts.calls_keep_counts.Goals as goal

pub returns : goal.returns
returns g c = calls_keep_counts g.R.Rules.meaning
