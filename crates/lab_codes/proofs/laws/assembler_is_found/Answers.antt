use Rattle.lab_codes.proofs.Found.{assembler-is-found}
use Rattle.lab_codes.proofs.laws.assembler_is_found.Goals as goal

pub returns : goal.returns
returns c = assembler-is-found
