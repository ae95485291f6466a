use Rattle.vino_top.proofs.OneRunLemmas.{calls_are_one}
use Rattle.vino_top.proofs.laws.calls_are_one.Goals as goal

pub returns : goal.returns
returns c = calls_are_one
