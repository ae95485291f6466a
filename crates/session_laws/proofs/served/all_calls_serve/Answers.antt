use Rattle.session_laws.proofs.SentLemmas.{all_calls_serve}
use Rattle.session_laws.proofs.served.all_calls_serve.Goals as goal

pub returns : goal.returns
returns c = all_calls_serve
