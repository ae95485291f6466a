use Rattle.std.proofs.Common.{◌≡◌, ◌∙◌, ℕ, ◌+◌, Some, sym, ap, subst}
use Rattle.kernel_model.specs.Machine.{Done, next_call, flat_step}
use Rattle.graft_levels.specs.Cpu.{Cpu, machine_of}
use Rattle.graft_levels.proofs.Sandbox.{stays_inside}
use Rattle.graft_calls.specs.Stretch.{setting_of, GoesQuietly}
use Rattle.graft_calls.proofs.Reading.{call_is, read_quietly}
use Rattle.graft_calls.proofs.reads.read_on.Goals as goal

pub returns-clause-quiet : goal.returns-clause-quiet
returns-clause-quiet g c =
    let code = c.args.code.now in
    let ram = c.args.store.now.ram in
    let m = machine_of (record c.args.cpu.now { pc = c.args.pc }) ram in
    let k = machine_of c.go_to.new.self ram in
    let id = c.in-Some.id in
    let next : next_call code m ≡ Some id = sym (c.call_at.ensures ram) ∙ c.in-Some.is in
    let step : flat_step code m ≡ Done.Called id k = call_is code id m next
    ∙ ap (λ (x : Cpu). Done.Called id (machine_of x ram)) (sym c.go_to.ensures) in
    let there : c.set_reg.new.self.pc ≡ c.args.pc + 1 =
    ap (λ (x : Cpu). x.pc) c.set_reg.ensures.value ∙ ap (λ (x : Cpu). x.pc) c.go_to.ensures in
    let set = setting_of c.args.store.now c.args.locks.now code c.args.seat in
    subst (λ (q : ℕ). GoesQuietly set 1 m (machine_of (record { regs = c.set_reg.new.self.regs; pc = q }) ram)) there
    (read_quietly stays_inside set id
    c.in-Some-read.result m k (machine_of c.set_reg.new.self ram)
    c.requires.seated.boxed next step (sym (c.set_reg.ensures.machine ram))
    (λ i h same. rw c.in-Some-read.is at c.read.ensures code i h same)
    (λ slot inside. c.set_reg.ensures.inside code slot ram inside))
