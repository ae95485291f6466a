use Rattle.placed_laws.proofs.Laws.{images_keep_rest}
use Rattle.placed_laws.proofs.keeping.images_keep_rest.Goals as goal

pub returns : goal.returns
returns g c = images_keep_rest g.R.Rules.meaning g.R.Rules.laws
