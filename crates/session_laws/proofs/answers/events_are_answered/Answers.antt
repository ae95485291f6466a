use Rattle.session_laws.proofs.AnswerLemmas.{events_are_answered}
use Rattle.session_laws.proofs.answers.events_are_answered.Goals as goal

pub returns : goal.returns
returns g c = events_are_answered g.R.Rules.meaning g.R.Rules.laws
