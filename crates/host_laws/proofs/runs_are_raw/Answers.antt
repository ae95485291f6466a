use Rattle.host_laws.proofs.RawRuns.{runs_are_raw}
use Rattle.host_laws.proofs.runs_are_raw.Goals as goal

pub returns : goal.returns
returns c = runs_are_raw
