-- The next graft that the task asks for is there, or is the first that is missing.
use Rattle.std.proofs.Common.{◌∙◌, arith}
use Rattle.std.proofs.lemmas.Bool.Decides.{nat_tests}
use Rattle.lab_task.proofs.Missing.{missing_more, missing_here}
use Rattle.lab_task.proofs.submission.check_missing.Goals as goal

pub returns-then-not-is_begun : goal.returns-then-not-is_begun
returns-then-not-is_begun c =
    c.loop-k.invariant ∙ missing_here c.args.gives.now c.args.grafts.now c.loop-k.k
    c.index-gives-k.result c.loop-k-test.true c.index-gives-k.is
    (grind (arith, nat_tests, c.if-not-is_begun.true, c.is_begun.ensures, c.bytes.ensures))

pub loop-k-preserved : goal.loop-k-preserved
loop-k-preserved c =
    c.loop-k.invariant ∙ missing_more c.args.gives.now c.args.grafts.now c.loop-k.k
    c.index-gives-k.result c.loop-k-test.true c.index-gives-k.is
    (grind (arith, nat_tests, c.if-not-is_begun.false, c.is_begun.ensures, c.bytes.ensures))
