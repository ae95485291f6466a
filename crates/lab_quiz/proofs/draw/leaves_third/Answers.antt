use Rattle.lab_quiz.proofs.Drawing.{third_is_out}
use Rattle.lab_quiz.proofs.draw.leaves_third.Goals as goal

pub returns : goal.returns
returns c = third_is_out c.args.seed c.args.count
