use Rattle.graft_levels.proofs.Answering.{answered_levels, answered_inside}
use Rattle.graft_levels.proofs.answers.give_answer.Goals as goal

pub returns-in-Some-clause-levels : goal.returns-in-Some-clause-levels
returns-in-Some-clause-levels c =
    answered_levels c.args.pt c.args.r0 c.args.r1 c.in-Some.level c.answer.new.machine _ _ _ _ _
    c.in-Some.ensures.level c.push.ensures c.answer.ensures.machine

pub returns-in-Some-clause-inside : goal.returns-in-Some-clause-inside
returns-in-Some-clause-inside c =
    answered_inside c.in-Some.level c.answer.new.machine _ _ _ _ _ c.in-Some.ensures.level
    c.push.ensures c.answer.ensures.inside
