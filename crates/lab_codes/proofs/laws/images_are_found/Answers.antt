use Rattle.lab_codes.proofs.Found.{images-are-found}
use Rattle.lab_codes.proofs.laws.images_are_found.Goals as goal

pub returns : goal.returns
returns c = images-are-found
