use Rattle.host_laws.proofs.OneAtATime.{calls_are_one_at_a_time}
use Rattle.host_laws.proofs.calls_are_one_at_a_time.Goals as goal

pub returns : goal.returns
returns c = calls_are_one_at_a_time
