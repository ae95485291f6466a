use Rattle.kernel_model.specs.Alone.{nothing_is_left}
use Rattle.kernel_laws.proofs.alone.nothing_is_left.Goals as goal

pub returns : goal.returns
returns g c = nothing_is_left g.R.Rules.meaning g.R.Rules.laws
