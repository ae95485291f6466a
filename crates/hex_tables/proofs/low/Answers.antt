use Rattle.hex_tables.proofs.Loops.{low_is}
use Rattle.hex_tables.proofs.low.Goals as goal

pub returns : goal.returns
returns c = low_is c.args.byte c.ranges.byte.fits
