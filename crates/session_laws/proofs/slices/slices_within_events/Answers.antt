use Rattle.session_laws.proofs.SliceLemmas.{slices_within_events}
use Rattle.session_laws.proofs.slices.slices_within_events.Goals as goal

pub returns : goal.returns
returns c = slices_within_events
