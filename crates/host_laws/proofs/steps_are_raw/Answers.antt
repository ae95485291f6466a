use Rattle.host_laws.proofs.Masked.{steps_are_raw}
use Rattle.host_laws.proofs.steps_are_raw.Goals as goal

pub returns : goal.returns
returns c = steps_are_raw
