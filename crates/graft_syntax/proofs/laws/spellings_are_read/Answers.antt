use Rattle.graft_syntax.proofs.Filling as filling
use Rattle.graft_syntax.proofs.laws.spellings_are_read.Goals as goal

pub returns : goal.returns
returns c = filling.spellings_are_read
