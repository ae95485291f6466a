use Rattle.graft_syntax.proofs.Filling as filling
use Rattle.graft_syntax.proofs.laws.read_tokens_go_on.Goals as goal

pub returns : goal.returns
returns c = filling.read_tokens_go_on
