use Rattle.box_rewriter.proofs.Faults.{found_is_said}
use Rattle.box_rewriter.proofs.rewrite_code.Goals as goal

pub returns-in-Some-clause-err : goal.returns-in-Some-clause-err
returns-in-Some-clause-err c = found_is_said c.args.code.now c.in-Some.fault c.in-Some.ensures
