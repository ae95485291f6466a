use Rattle.graft_laws.proofs.ConfigAlikeLemmas.{drops_alike}
use Rattle.graft_laws.proofs.alike.drops_alike.Goals as goal

pub returns : goal.returns
returns c = drops_alike
