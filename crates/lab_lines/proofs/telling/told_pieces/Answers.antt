-- A line of the file and the lines of its pieces are told behind those before.
use Rattle.std.proofs.Common.{[], drop}
use Rattle.lab_lines.specs.Told.{lines_in}
use Rattle.lab_lines.proofs.Lines.{behind, joined}
use Rattle.lab_lines.proofs.telling.told_pieces.Goals as goal

pub loop-i-preserved : goal.loop-i-preserved
loop-i-preserved c =
    let rest = lines_in (drop c.loop-i.next c.args.pieces.now) in
    let last = lines_in (drop c.in_ok-next.next c.args.pieces.now) in
    joined [] c.loop-i.out.items c.add_pieces.new.out.items (lines_in c.args.pieces.now) rest last
    c.loop-i.invariant
    (behind c.loop-i.out.items c.add_head.new.out.items c.add_pieces.new.out.items rest last
    c.in_ok-add_head.ensures c.in_ok-next.ensures)
