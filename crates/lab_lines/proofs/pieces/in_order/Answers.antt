-- Behind the last piece nothing is left to be put in order.
use Rattle.std.proofs.Common.{arith}
use Rattle.std.proofs.lemmas.Bool.Decides.{nat_tests}
use Rattle.lab_lines.proofs.Ordered.{all_ordered, ends_in_order}
use Rattle.lab_lines.proofs.pieces.in_order.Goals as goal

pub returns-clause-ordered : goal.returns-clause-ordered
returns-clause-ordered c =
    let l = c.loop-piece in
    ends_in_order c.args.last l.from l.ordered.items c.args.pieces.now
    (all_ordered c.args.pieces.now l.piece-index c.args.last l.from l.ordered.items
    (grind (arith, nat_tests, c.loop-piece-test.false)) l.invariant)
