use Rattle.lab_codes.proofs.Found.{calls-are-found}
use Rattle.lab_codes.proofs.laws.calls_are_found.Goals as goal

pub returns : goal.returns
returns c = calls-are-found
