use Rattle.session_laws.proofs.SentLemmas.{serves_tell_answers}
use Rattle.session_laws.proofs.served.serves_tell_answers.Goals as goal

pub returns : goal.returns
returns c = serves_tell_answers
