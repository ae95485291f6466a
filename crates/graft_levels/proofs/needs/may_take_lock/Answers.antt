use Rattle.std.proofs.Common.{◌≡◌, ◌≤◌, ◌==◌, false, Some, None, sym, ◌∙◌, arith}
use Rattle.std.proofs.lemmas.Bool.Decides.{nat_tests}
use Rattle.kernel_state.specs.Table.{accounts_of}
use Rattle.kernel_model.specs.Levels.{code_of, base_of}
use Rattle.graft_machine.specs.Cpu.{machine_of}
use Rattle.graft_loader.specs.Slots.{table_of}
use Rattle.graft_levels.specs.Chains.{level_in}
use Rattle.graft_levels.proofs.NextNeeds.{call_on, is_plain_call, level_needs_none}
use Rattle.graft_levels.proofs.needs.may_take_lock.Goals as goal

pub returns-else-id-eq-TAKE_LOCK : goal.returns-else-id-eq-TAKE_LOCK
returns-else-id-eq-TAKE_LOCK c = λ plain v p d ram t is w ls.
    let few : c.in-Some.id ≤ 15 = grind (arith, nat_tests, plain) in
    let other : (c.in-Some.id == 12) ≡ false = grind (arith, nat_tests, c.if-id-eq-TAKE_LOCK.false) in
    level_needs_none v (table_of c.args.images.now) (accounts_of c.args.accounts.now)
    (level_in p d ram t c.args.level.now is w) ls (Some c.in-Some.id)
    (call_on (code_of (table_of c.args.images.now) (accounts_of c.args.accounts.now)
    c.args.level.now.owner c.args.level.now.point) (base_of p d)
    (machine_of c.args.level.now.machine ram) ∙ sym (c.next_call.ensures ram) ∙ c.in-Some.is)
    (λ id same. is_plain_call c.in-Some.id id same few other)

pub returns-in-None : goal.returns-in-None
returns-in-None c = λ plain v p d ram t is w ls.
    level_needs_none v (table_of c.args.images.now) (accounts_of c.args.accounts.now)
    (level_in p d ram t c.args.level.now is w) ls None
    (call_on (code_of (table_of c.args.images.now) (accounts_of c.args.accounts.now)
    c.args.level.now.owner c.args.level.now.point) (base_of p d)
    (machine_of c.args.level.now.machine ram) ∙ sym (c.next_call.ensures ram) ∙ c.in-None.is)
    (λ id same. absurd cc)
