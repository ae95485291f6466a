use Rattle.lab_codes.proofs.Found.{codes-are-found}
use Rattle.lab_codes.proofs.laws.codes_are_found.Goals as goal

pub returns : goal.returns
returns c = codes-are-found
