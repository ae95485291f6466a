use Rattle.std.proofs.Common.{◌<◌, arith}
use Rattle.lock_table.proofs.ProcessMasks.{lowest_found, none_lowest}
use Rattle.lock_table.proofs.process_masks.lowest.Goals as goal

pub returns-then-mask-eq0 : goal.returns-then-mask-eq0
returns-then-mask-eq0 c = none_lowest c.args.mask c.if-mask-eq0.true

pub returns : goal.returns
returns c =
    let some : 0 < c.args.mask = omega (arith, c.if-mask-eq0.false) in
    let low : c.args.mask < 65536 = c.ranges.mask.fits in
    lowest_found c.args.mask some low
