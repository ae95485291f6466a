use Rattle.lab_codes.proofs.Found.{rewriter-is-found}
use Rattle.lab_codes.proofs.laws.rewriter_is_found.Goals as goal

pub returns : goal.returns
returns c = rewriter-is-found
