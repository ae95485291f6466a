use Rattle.std.proofs.Common.{sym, ◌∙◌}
use Rattle.kernel_state.specs.Table.{accounts_of}
use Rattle.kernel_model.specs.Levels.{code_of, base_of}
use Rattle.graft_machine.specs.Cpu.{machine_of}
use Rattle.graft_loader.specs.Slots.{table_of}
use Rattle.graft_levels.specs.Chains.{level_in}
use Rattle.graft_levels.proofs.NextNeeds.{calling, plain, call_on}
use Rattle.graft_levels.proofs.needs.level_needs.Goals as goal

pub returns-in-Some-clause-value : goal.returns-in-Some-clause-value
returns-in-Some-clause-value c = λ v p d ram t is w ls callable.
    calling v (table_of c.args.images.now) (accounts_of c.args.accounts.now) (level_in p d ram t
    c.args.level.now is w) ls c.in-Some.id c.call_needs.result c.if-is_spent.ensures
    (call_on (code_of (table_of c.args.images.now) (accounts_of c.args.accounts.now)
    c.args.level.now.owner c.args.level.now.point) (base_of p d)
    (machine_of c.args.level.now.machine ram) ∙ sym (c.next_call.ensures ram) ∙ c.in-Some.is)
    (c.call_needs.ensures.value v p d ram t is w callable)

pub returns-in-None-clause-value : goal.returns-in-None-clause-value
returns-in-None-clause-value c = λ v p d ram t is w ls callable.
    plain v (table_of c.args.images.now) (accounts_of c.args.accounts.now)
    (level_in p d ram t c.args.level.now is w) ls c.none-in-None.result c.if-is_spent.ensures
    (call_on (code_of (table_of c.args.images.now) (accounts_of c.args.accounts.now)
    c.args.level.now.owner c.args.level.now.point) (base_of p d)
    (machine_of c.args.level.now.machine ram) ∙ sym (c.next_call.ensures ram) ∙ c.in-None.is)
    c.none-in-None.ensures
