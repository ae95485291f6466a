use Rattle.script_text.proofs.OwnWordLemmas.{others_stay}
use Rattle.script_text.proofs.laws.other_lines_stay.Goals as goal

pub returns : goal.returns
returns c = others_stay
