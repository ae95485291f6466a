use Rattle.hex_tables.proofs.Loops.{digits_are}
use Rattle.hex_tables.proofs.digit.Goals as goal

pub returns : goal.returns
returns c = digits_are c.args.at c.requires
