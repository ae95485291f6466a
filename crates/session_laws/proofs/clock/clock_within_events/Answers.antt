use Rattle.session_laws.proofs.ClockLemmas.{clock_within_events}
use Rattle.session_laws.proofs.clock.clock_within_events.Goals as goal

pub returns : goal.returns
returns c = clock_within_events
