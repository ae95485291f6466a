use Rattle.session_laws.proofs.SentLemmas.{all_calls_tell_answers}
use Rattle.session_laws.proofs.served.all_calls_tell_answers.Goals as goal

pub returns : goal.returns
returns c = all_calls_tell_answers
