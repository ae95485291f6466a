use Rattle.graft_laws.proofs.ConfigAlikeLemmas.{instructions_alike}
use Rattle.graft_laws.proofs.alike.instructions_alike.Goals as goal

pub returns : goal.returns
returns c = instructions_alike
