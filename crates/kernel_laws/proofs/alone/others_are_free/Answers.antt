use Rattle.kernel_model.specs.Alone.{others_are_free}
use Rattle.kernel_laws.proofs.alone.others_are_free.Goals as goal

pub returns : goal.returns
returns g c = others_are_free g.R.Rules.meaning g.R.Rules.laws
