-- The head is told.
use Rattle.lab_lines.proofs.Lines.{row_head}
use Rattle.lab_lines.proofs.telling.add_head_of.Goals as goal

pub returns : goal.returns
returns c =
    row_head c.args.out.now.items c.add_row_head.new.out.items c.in-Some.kind.now
    c.row_head.result.now c.in_ok-add_row_head.ensures
