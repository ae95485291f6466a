use Rattle.session_laws.proofs.SessionLemmas.{runs_are_sound}
use Rattle.session_laws.proofs.sessions.runs_are_sound.Goals as goal

pub returns : goal.returns
returns c = runs_are_sound
