use Rattle.placed_laws.proofs.Laws.{quiet_kernels_stand}
use Rattle.placed_laws.proofs.keeping.quiet_kernels_stand.Goals as goal

pub returns : goal.returns
returns g c = quiet_kernels_stand g.R.Rules.meaning
