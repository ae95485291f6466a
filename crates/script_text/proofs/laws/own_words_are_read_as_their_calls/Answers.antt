use Rattle.script_text.proofs.OwnWordLemmas.{read_as_its_call}
use Rattle.script_text.proofs.laws.own_words_are_read_as_their_calls.Goals as goal

pub returns : goal.returns
returns c = read_as_its_call
