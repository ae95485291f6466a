use Rattle.std.proofs.Common.{◌<◌, length, arith}
use Rattle.graft_loader.proofs.Comparing.{compared_more}
use Rattle.graft_loader.proofs.mac.is_same.Goals as goal

pub loop-i-preserved : goal.loop-i-preserved
loop-i-preserved c =
    let x_has : c.loop-i.i < length c.args.x.now = omega arith in
    let y_has : c.loop-i.i < length c.args.y.now = omega arith in
    compared_more c.args.x.now c.args.y.now c.loop-i.differing c.loop-i.i c.loop-i.invariant x_has y_has
