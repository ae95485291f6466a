use Rattle.std.proofs.Common.{Option, ap, ◌∙◌}
use Rattle.kernel_model.specs.declared.OpenRow.{OpenRow}
use Rattle.kernel_model.specs.Needs as model
use Rattle.audit_state.specs.Worlds.{world_of}
use Rattle.audit_needs.proofs.blocks.block_at.Goals as goal

pub returns : goal.returns
returns c = λ bytes.
    let v = world_of c.args.scene.now.world.now in
    let at = c.args.place in
    c.file_block.ensures
    ∙ ap (λ (o : Option OpenRow). model.file_block v o at.block at.offset c.args.count)
    (c.file-file.ensures bytes)
