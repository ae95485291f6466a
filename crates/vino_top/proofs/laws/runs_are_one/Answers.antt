use Rattle.vino_top.proofs.OneRunLemmas.{runs_are_one}
use Rattle.vino_top.proofs.laws.runs_are_one.Goals as goal

pub returns : goal.returns
returns c = runs_are_one
