use Rattle.std.proofs.Common.{ℕ, ap}
use Rattle.graft_code.specs.Machine as model
use Rattle.audit_table.specs.Tables.{by_place}
use Rattle.audit_machine.proofs.Machine.write_word.Goals as goal

pub returns-clause-machine : goal.returns-clause-machine
returns-clause-machine c =
    let m = c.args.self.now in
    let with : (ℕ → ℕ) → model.Machine = λ memory. record { regs = by_place m.regs; pc = m.pc; memory = memory } in
    ap with c.put_word.ensures.bytes
