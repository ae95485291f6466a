use Rattle.lab_picture.proofs.Whole.{words-whole}
use Rattle.lab_picture.proofs.laws.words_are_whole.Goals as goal

pub returns : goal.returns
returns c = words-whole
