-- A line of the file and the lines that it wrote are told behind those before.
use Rattle.std.proofs.Common.{[], drop}
use Rattle.lab_quiz.proofs.Adding.{beside, joined}
use Rattle.lab_quiz.proofs.quiz.all_told.Goals as goal

pub loop-next-preserved : goal.loop-next-preserved
loop-next-preserved c =
    let rest = drop c.loop-next.next c.args.lines.now in
    let last = drop c.in_ok-next.next c.args.lines.now in
    joined [] c.loop-next.out.items c.add_lines.new.out.items c.args.lines.now rest last
    c.loop-next.invariant
    (joined c.loop-next.out.items c.add_head.new.out.items c.add_lines.new.out.items rest rest last
    (beside c.loop-next.out.items c.add_head.new.out.items rest c.in_ok-add_head.ensures)
    c.in_ok-next.ensures)
