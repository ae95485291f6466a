use Rattle.host_laws.proofs.BoxedCalls.{boxed_calls_are_raw}
use Rattle.host_laws.proofs.boxed_calls_are_raw.Goals as goal

pub returns : goal.returns
returns c = boxed_calls_are_raw c.boxed_plugins_are_raw.ensures
