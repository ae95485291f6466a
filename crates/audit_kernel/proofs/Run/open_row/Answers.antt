use Rattle.std.proofs.Common.{ℕ, List, Option, Some, option_map, sym, ap, ◌∙◌}
use Rattle.kernel_data.specs.declared.OpenRow.{OpenRow}
use Rattle.kernel_data.specs.declared.RawRow.{RawRow}
use Rattle.kernel_data.specs.World.{file_row}
use Rattle.kernel_model.specs.RawRows.{name_of_file}
use Rattle.audit_pieces.specs.Stores.{page_of}
use Rattle.audit_state.specs.Things.{things_of}
use Rattle.audit_state.specs.Worlds.{world_of}
use Rattle.audit_kernel.proofs.Run.open_row.Goals as goal

pub returns-in-None : goal.returns-in-None
returns-in-None c =
    let bytes = page_of c.args.self.now.store in
    ap (λ (x : Option OpenRow). option_map (λ (o : OpenRow). RawRow.OpenFile c.args.p c.args.fd
    (name_of_file (file_row (world_of c.args.self.now.setting.world) o.file)) o) x)
    (sym c.in-None.is ∙ c.file.ensures bytes
    ∙ ap (λ (n : ℕ). (things_of bytes c.things_at.result.now).file c.args.p n) c.from.ensures
    ∙ sym c.things_at.ensures)

pub returns-in_ok-name-in-Some : goal.returns-in_ok-name-in-Some
returns-in_ok-name-in-Some c =
    let bytes = page_of c.args.self.now.store in
    ap (λ (n : List ℕ). Some (RawRow.OpenFile c.args.p c.args.fd n c.in-Some.row))
    (c.in_ok-name-in-Some.ensures ∙ c.file_bytes.ensures)
    ∙ ap (λ (x : Option OpenRow). option_map (λ (o : OpenRow). RawRow.OpenFile c.args.p c.args.fd
    (name_of_file (file_row (world_of c.args.self.now.setting.world) o.file)) o) x)
    (sym c.in-Some.is ∙ c.file.ensures bytes
    ∙ ap (λ (n : ℕ). (things_of bytes c.things_at.result.now).file c.args.p n) c.from.ensures
    ∙ sym c.things_at.ensures)
