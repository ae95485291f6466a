use Rattle.std.proofs.Common.{[]}
use Rattle.lab_lines.proofs.Lines.{one_head}
use Rattle.lab_lines.proofs.telling.add_below.Goals as goal

pub loop-preserved : goal.loop-preserved
loop-preserved c =
    one_head c.args.out.now.items c.loop.out.items c.add_row_head.new.out.items
    c.split_at.result.0.now [] c.loop.invariant c.in_ok-add_row_head.ensures
