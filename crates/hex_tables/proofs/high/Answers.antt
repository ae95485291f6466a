use Rattle.hex_tables.proofs.Loops.{high_is}
use Rattle.hex_tables.proofs.high.Goals as goal

pub returns : goal.returns
returns c = high_is c.args.byte c.ranges.byte.fits
