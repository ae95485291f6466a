use Rattle.session_laws.proofs.SessionLemmas.{runs_are_sound}
use Rattle.session_laws.proofs.TraceCountLemmas.{runs_keep_counts}
use Rattle.session_laws.proofs.counts.runs_keep_counts.Goals as goal

pub returns : goal.returns
returns c = runs_keep_counts runs_are_sound
