use Rattle.session_laws.proofs.SoundLineLemmas.{lines_stay_sound}
use Rattle.session_laws.proofs.sessions.lines_stay_sound.Goals as goal

pub returns : goal.returns
returns c = lines_stay_sound
