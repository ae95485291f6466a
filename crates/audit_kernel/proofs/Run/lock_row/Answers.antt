use Rattle.std.proofs.Common.{ℕ, Option, option_map, sym, ap, ◌∙◌}
use Rattle.kernel_data.specs.declared.RawRow.{RawRow}
use Rattle.audit_pieces.specs.Stores.{page_of}
use Rattle.audit_state.specs.Things.{things_of}
use Rattle.audit_kernel.proofs.Run.lock_row.Goals as goal

pub returns-in-None : goal.returns-in-None
returns-in-None c =
    let bytes = page_of c.args.self.now.store in
    ap (λ (x : Option ℕ). option_map (λ (p : ℕ). RawRow.Lock c.args.u p) x)
    (sym c.in-None.is ∙ c.holder.ensures bytes
    ∙ ap (λ (n : ℕ). (things_of bytes c.things_at.result.now).lock n) c.from.ensures
    ∙ sym c.things_at.ensures)

pub returns-in-Some : goal.returns-in-Some
returns-in-Some c =
    let bytes = page_of c.args.self.now.store in
    ap (λ (x : Option ℕ). option_map (λ (p : ℕ). RawRow.Lock c.args.u p) x)
    (sym c.in-Some.is ∙ c.holder.ensures bytes
    ∙ ap (λ (n : ℕ). (things_of bytes c.things_at.result.now).lock n) c.from.ensures
    ∙ sym c.things_at.ensures)
