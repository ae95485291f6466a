use Rattle.call_laws.specs.BesideLaws.{laws_of_beside}
use Rattle.call_laws.proofs.beside.tables_stand_beside.Goals as goal

pub returns : goal.returns
returns c = laws_of_beside
