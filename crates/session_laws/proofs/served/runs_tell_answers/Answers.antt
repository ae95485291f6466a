use Rattle.session_laws.proofs.ServedLineLemmas.{runs_tell_answers}
use Rattle.session_laws.proofs.served.runs_tell_answers.Goals as goal

pub returns : goal.returns
returns c = runs_tell_answers
