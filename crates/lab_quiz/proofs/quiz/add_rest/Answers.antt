-- The end is told, and no line is left.
use Rattle.std.proofs.Common.{drop, [], arith}
use Rattle.lab_quiz.proofs.Adding.{joined, ends, none_left}
use Rattle.lab_quiz.proofs.quiz.add_rest.Goals as goal

pub returns : goal.returns
returns c =
    let lines = drop c.args.first c.args.lines.now in
    let told = none_left c.args.lines.now c.loop-k.k c.add_end.new.out.items c.loop-k.out.items lines
    (omega (arith, c.loop-k-test.false)) c.loop-k.invariant in
    joined c.args.out.now.items c.add_end.new.out.items c.loop-k.out.items lines lines []
    (ends c.args.out.now.items c.add_end.new.out.items lines c.in_ok-add_end.ensures)
    told
