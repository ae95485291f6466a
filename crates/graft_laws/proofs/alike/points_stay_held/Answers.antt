use Rattle.graft_laws.proofs.ConfigAlikeLemmas.{points_stay_held}
use Rattle.graft_laws.proofs.alike.points_stay_held.Goals as goal

pub returns : goal.returns
returns c = points_stay_held
