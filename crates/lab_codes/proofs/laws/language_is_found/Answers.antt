use Rattle.lab_codes.proofs.Found.{language-is-found}
use Rattle.lab_codes.proofs.laws.language_is_found.Goals as goal

pub returns : goal.returns
returns c = language-is-found
