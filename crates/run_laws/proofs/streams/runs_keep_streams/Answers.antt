use Rattle.run_laws.proofs.StreamRunLemmas.{runs_keep_streams}
use Rattle.run_laws.proofs.streams.runs_keep_streams.Goals as goal

pub returns : goal.returns
returns c = runs_keep_streams
