use Rattle.std.proofs.Common.{ℕ, Option, option_map, sym, ap, ◌∙◌}
use Rattle.kernel_data.specs.declared.RawRow.{RawRow}
use Rattle.kernel_data.specs.Objects.{PolValue}
use Rattle.kernel_model.specs.Access.{param_top}
use Rattle.kernel_model.specs.RawRows.{shown_param}
use Rattle.audit_pieces.specs.Stores.{page_of}
use Rattle.audit_state.specs.Things.{things_of}
use Rattle.audit_kernel.proofs.Run.policy_row.Goals as goal

pub returns : goal.returns
returns c =
    let bytes = page_of c.args.self.now.store in
    let things = things_of bytes c.things_at-things.result.now in
    let kind = c.args.kind in
    ap (λ (x : Option ℕ). RawRow.Pol kind c.chosen-policy.result x) (c.parameter_of-parameter.ensures bytes)
    ∙ ap (λ (j : ℕ). RawRow.Pol kind j (option_map (λ (top : ℕ). (things.pol kind).param j) (param_top kind j)))
    (c.chosen-policy.ensures bytes ∙ ap (λ (k : ℕ). (things.pol k).chosen) c.from.ensures)
    ∙ ap (λ (v : PolValue). RawRow.Pol kind v.chosen (shown_param kind v)) (sym c.things_at-things.ensures)
