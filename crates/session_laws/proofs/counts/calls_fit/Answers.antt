use Rattle.session_laws.proofs.TraceCountLemmas.{calls_fit}
use Rattle.session_laws.proofs.counts.calls_fit.Goals as goal

pub returns : goal.returns
returns g c = calls_fit g.R.Rules.meaning
