use Rattle.kernel_laws.proofs.Laws.{settles_to_rest}
use Rattle.kernel_laws.proofs.rest.settles_to_rest.Goals as goal

pub returns : goal.returns
returns g c = settles_to_rest g.R.Rules.meaning g.R.Rules.laws
