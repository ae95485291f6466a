use Rattle.run_laws.proofs.SeenRunLemmas.{runs_keep_shown}
use Rattle.run_laws.proofs.seen.runs_keep_shown.Goals as goal

pub returns : goal.returns
returns c = runs_keep_shown
