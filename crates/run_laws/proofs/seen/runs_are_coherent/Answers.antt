use Rattle.run_laws.proofs.SeenRunLemmas.{runs_are_coherent}
use Rattle.run_laws.proofs.seen.runs_are_coherent.Goals as goal

pub returns : goal.returns
returns c = runs_are_coherent
