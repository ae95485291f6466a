use Rattle.std.proofs.Common.{ℕ, slice_index, ap, ◌∙◌}
use Rattle.kernel_model.specs.Objects.{at}
use Rattle.audit_table.specs.Tables.{by_place}
use Rattle.audit_levels.proofs.Segments.{registers_are}
use Rattle.audit_levels.proofs.machines.first_registers.Goals as goal

pub returns : goal.returns
returns c = λ memory.
    let args = c.args.args in
    c.put_register-5.ensures ∙ ap (λ (f : ℕ → ℕ). at 15 c.args.base f)
    (c.put_register-4.ensures ∙ ap (λ (f : ℕ → ℕ). at 3 (slice_index args 3) f)
    (c.put_register-3.ensures ∙ ap (λ (f : ℕ → ℕ). at 2 (slice_index args 2) f)
    (c.put_register-2.ensures ∙ ap (λ (f : ℕ → ℕ). at 1 (slice_index args 1) f) c.put_register.ensures)))
    ∙ registers_are c.args.base args (by_place c.zero_registers-regs.result) c.zero_registers-regs.ensures
