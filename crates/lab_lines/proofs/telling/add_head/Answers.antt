-- A line of the file is told.
use Rattle.lab_lines.proofs.Lines.{on_ok, file_line}
use Rattle.lab_lines.proofs.telling.add_head.Goals as goal

pub returns-else-is_blank : goal.returns-else-is_blank
returns-else-is_blank c =
    on_ok c.add_file_line.result
    (file_line c.args.out.now.items c.add_file_line.new.out.items c.args.number c.shortened.result.now)
    c.add_file_line.ensures

pub returns-in_ok-text-in-Sealed : goal.returns-in_ok-text-in-Sealed
returns-in_ok-text-in-Sealed c =
    on_ok c.add_file_line-in-Sealed.result
    (file_line c.args.out.now.items c.add_file_line-in-Sealed.new.out.items c.args.number
    c.as_slice.result.now)
    c.add_file_line-in-Sealed.ensures
