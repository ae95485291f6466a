-- One more line is marked.
use Rattle.std.proofs.Common.{arith}
use Rattle.std.proofs.lemmas.Bool.Decides.{nat_tests}
use Rattle.lab_quiz.specs.Quiz.{left_out}
use Rattle.lab_quiz.proofs.Drawing.{one_more}
use Rattle.lab_quiz.proofs.draw.left_out.Goals as goal

pub loop-rest-preserved : goal.loop-rest-preserved
loop-rest-preserved c =
    one_more c.loop-rest.rest c.loop-rest.left c.loop-rest.state c.next-state.result
    c.saturating_sub-left.result c.is_drawn-mark.result c.loop-rest.marks.items
    c.put.new.marks.items (left_out c.args.seed c.args.count)
    (omega (arith, c.loop-rest-test.true)) c.next-state.ensures c.is_drawn-mark.ensures
    (grind (arith, nat_tests, c.saturating_sub-left.ensures, c.from.ensures))
    c.in_ok-put.ensures c.loop-rest.invariant
