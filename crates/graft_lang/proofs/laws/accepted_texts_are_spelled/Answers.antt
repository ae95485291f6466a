use Rattle.graft_lang.proofs.Spelled.{accepted_texts_are_spelled}
use Rattle.graft_lang.proofs.laws.accepted_texts_are_spelled.Goals as goal

pub returns : goal.returns
returns c = accepted_texts_are_spelled
