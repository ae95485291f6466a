use Rattle.graft_laws.proofs.HistoryLaws.{calls_are_sound}
use Rattle.graft_laws.proofs.fallen.calls_are_sound.Goals as goal

pub returns : goal.returns
returns g c = calls_are_sound g.R.Rules.meaning g.R.Rules.laws
