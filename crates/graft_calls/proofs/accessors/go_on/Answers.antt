use Rattle.graft_levels.proofs.Answering.{put_inside}
use Rattle.graft_calls.proofs.accessors.go_on.Goals as goal

pub returns-clause-inside : goal.returns-clause-inside
returns-clause-inside c =
    put_inside c.args.level c.set_reg.new.self _ _ c.args.levels.now _ c.push.ensures
    c.set_reg.ensures.inside
