use Rattle.std.proofs.Common.{◌+◌, ℕ, Option, sym, ap, ◌∙◌}
use Rattle.graft_code.specs.Machine as model
use Rattle.audit_machine.specs.declared.Machine.{Machine}
use Rattle.audit_machine.specs.declared.Done.{Done}
use Rattle.audit_machine.specs.Machine.{machine_of, done_of}
use Rattle.audit_machine.proofs.Machine.store_word.Goals as goal

-- a machine at the next place
abbrev next_of : model.Machine → model.Machine
next_of m = record { regs = m.regs; pc = m.pc + 1; memory = m.memory }

pub returns-in-Some-clause-done : goal.returns-in-Some-clause-done
returns-in-Some-clause-done c =
    let m = machine_of c.args.self.now in
    ap (λ (place : Option ℕ). model.writes m model.Word c.args.v place) (sym c.place.ensures ∙ c.in-Some.is)
    ∙ sym (ap (λ (d : Done). done_of d (machine_of c.next.new.self)) c.next.ensures.went
    ∙ ap (λ (x : Machine). model.Went (machine_of x)) c.next.ensures.value
    ∙ ap (λ (x : model.Machine). model.Went (next_of x)) c.write_word.ensures.machine)
