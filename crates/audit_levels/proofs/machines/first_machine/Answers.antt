use Rattle.std.proofs.Common.{ℕ, ap, ◌∙◌}
use Rattle.kernel_model.specs.Machine as model
use Rattle.audit_table.specs.Tables.{by_place}
use Rattle.audit_levels.proofs.machines.first_machine.Goals as goal

pub returns : goal.returns
returns c =
    let with : (regs memory : ℕ → ℕ) → model.Machine = λ r m. record { regs = r; pc = 0; memory = m } in
    ap (λ (r : ℕ → ℕ). with r (by_place c.in_ok-memory.memory.items)) (c.first_registers.ensures (λ _. 0))
    ∙ ap (model.first_machine c.args.base c.args.args) c.in_ok-memory.ensures.memory
