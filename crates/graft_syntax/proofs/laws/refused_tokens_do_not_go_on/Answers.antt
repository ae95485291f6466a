use Rattle.graft_syntax.proofs.Filling as filling
use Rattle.graft_syntax.proofs.laws.refused_tokens_do_not_go_on.Goals as goal

pub returns : goal.returns
returns c = filling.refused_tokens_do_not_go_on
