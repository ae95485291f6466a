use Rattle.session_laws.proofs.ServedLineLemmas.{lines_tell_answers}
use Rattle.session_laws.proofs.served.lines_tell_answers.Goals as goal

pub returns : goal.returns
returns c = lines_tell_answers
