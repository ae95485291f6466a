use Rattle.graft_laws.proofs.Laws.{calls_are_stable}
use Rattle.graft_laws.proofs.stability.calls_are_stable.Goals as goal

pub returns : goal.returns
returns g c = calls_are_stable g.R.Rules.meaning
