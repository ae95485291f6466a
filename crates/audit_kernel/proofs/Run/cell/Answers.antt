use Rattle.std.proofs.Common.{ℕ, sym, ap, ◌∙◌}
use Rattle.audit_pieces.specs.Stores.{page_of}
use Rattle.audit_state.specs.Things.{things_of}
use Rattle.audit_kernel.proofs.Run.cell.Goals as goal

pub returns : goal.returns
returns c =
    let bytes = page_of c.args.self.now.store in
    c.cell.ensures bytes
    ∙ ap (λ (n : ℕ). (things_of bytes c.things_at.result.now).cell c.args.p n) c.from.ensures
    ∙ sym c.things_at.ensures
