use Rattle.graft_laws.proofs.AnswerLemmas.{histories_hold_answers}
use Rattle.graft_laws.proofs.histories.histories_hold_answers.Goals as goal

pub returns : goal.returns
returns g c = histories_hold_answers g.R.Rules.meaning
