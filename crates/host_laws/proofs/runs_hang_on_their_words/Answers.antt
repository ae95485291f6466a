use Rattle.host_laws.proofs.Aloneness.{runs_hang_on_their_words}
use Rattle.host_laws.proofs.runs_hang_on_their_words.Goals as goal

pub returns : goal.returns
returns c = runs_hang_on_their_words
