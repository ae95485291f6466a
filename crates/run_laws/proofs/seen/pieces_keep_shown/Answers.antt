use Rattle.run_laws.proofs.PieceSeenLemmas.{pieces_keep_shown}
use Rattle.run_laws.proofs.seen.pieces_keep_shown.Goals as goal

pub returns : goal.returns
returns c = pieces_keep_shown
