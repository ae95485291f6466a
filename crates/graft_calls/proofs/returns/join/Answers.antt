use Rattle.std.proofs.Common.{ap, ◌∙◌, slice_index}
use Rattle.kernel_model.specs.Levels.{answered}
use Rattle.kernel_model.specs.Policies.{kind_of}
use Rattle.graft_levels.specs.Cpu.{machine_of}
use Rattle.graft_levels.proofs.Answering.{put_inside}
use Rattle.graft_levels.proofs.Completing.{joined_levels}
use Rattle.graft_calls.proofs.returns.join.Goals as goal

pub returns-clause-levels : goal.returns-clause-levels
returns-clause-levels c =
    joined_levels c.args.level.point (slice_index c.args.level.machine.regs 0)
    (slice_index c.args.level.machine.regs 1) c.args.asker c.answer.new.machine _ _
    c.args.levels.now c.push.new.self c.push.ensures
    (λ ram. c.answer.ensures.machine ram
    ∙ ap (λ x. answered (kind_of c.args.level.point) x c.reg-2.result
    (machine_of c.args.asker.machine ram)) c.reg.ensures
    ∙ ap (λ x. answered (kind_of c.args.level.point) (slice_index c.args.level.machine.regs 0) x
    (machine_of c.args.asker.machine ram)) c.reg-2.ensures)

pub returns-clause-inside : goal.returns-clause-inside
returns-clause-inside c =
    put_inside c.args.asker c.answer.new.machine _ _ c.args.levels.now c.push.new.self
    c.push.ensures c.answer.ensures.inside
