use Rattle.lab_codes.proofs.Found.{script-lines-are-found}
use Rattle.lab_codes.proofs.laws.script_lines_are_found.Goals as goal

pub returns : goal.returns
returns c = script-lines-are-found
