use Rattle.std.proofs.Common.{ℕ, Option, None, ap, ◌∙◌}
use Rattle.std.specs.Prelude.{option_map}
use Rattle.kernel_model.specs.Objects.{Things, at2}
use Rattle.audit_table.specs.Tables.{table_of}
use Rattle.audit_state.specs.declared.Kept.{Kept}
use Rattle.audit_state.specs.Things.{things_of, kept_of}
use Rattle.audit_state.proofs.Mapped.{mapped_at2}
use Rattle.audit_state.proofs.Things.set_kept.Goals as goal

pub returns : goal.returns
returns c = λ bytes.
    let a = c.args.self.now in
    let w = things_of bytes a in
    let with : (ℕ → ℕ → Option (ℕ → ℕ)) → Things = λ f. record w { segment = f } in
    let old = table_of None a.segments.items in
    ap with (mapped_at2 (λ (o : Option Kept). option_map kept_of o)
    (table_of None c.put.new.rows.items) old c.args.q c.args.pt c.args.kept
    (c.in_ok-put.ensures None ∙ ap (λ (n : ℕ). at2 n c.from-2.result c.args.kept old) c.from.ensures
    ∙ ap (λ (n : ℕ). at2 c.args.q n c.args.kept old) c.from-2.ensures))
