-- The end is told, and no piece is left.
use Rattle.std.proofs.Common.{drop, [], arith}
use Rattle.lab_lines.specs.Told.{lines_in}
use Rattle.lab_lines.proofs.Lines.{behind, ends, none_left}
use Rattle.lab_lines.proofs.telling.add_rest.Goals as goal

pub returns : goal.returns
returns c =
    let lines = lines_in (drop c.args.first c.args.pieces.now) in
    let told = none_left c.args.pieces.now c.loop-k.k c.add_end.new.out.items c.loop-k.out.items lines
    (omega (arith, c.loop-k-test.false)) c.loop-k.invariant in
    behind c.args.out.now.items c.add_end.new.out.items c.loop-k.out.items lines []
    (ends c.args.out.now.items c.add_end.new.out.items c.in_ok-add_end.ensures)
    told
