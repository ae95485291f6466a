use Rattle.graft_machine.specs.Cpu.{machine_of}
use Rattle.graft_levels.proofs.Answering.{answered_two, answered_one}
use Rattle.graft_levels.proofs.answers.answer.Goals as goal

pub returns-then-pt-lt4-clause-machine : goal.returns-then-pt-lt4-clause-machine
returns-then-pt-lt4-clause-machine c = λ ram.
    answered_two c.args.pt c.args.r0 c.args.r1 (machine_of c.args.machine.now ram)
    (machine_of c.set_reg.new.self ram) _ c.if-pt-lt4.true
    (c.set_reg.ensures.machine ram) (c.set_reg-then-pt-lt4.ensures.machine ram)

pub returns-else-pt-lt4-clause-machine : goal.returns-else-pt-lt4-clause-machine
returns-else-pt-lt4-clause-machine c = λ ram.
    answered_one c.args.pt c.args.r0 c.args.r1 (machine_of c.args.machine.now ram) _
    c.if-pt-lt4.false (c.set_reg.ensures.machine ram)
