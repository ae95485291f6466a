use Rattle.std.proofs.Common.{◌≡◌, ◌-◌, ℕ, List, Result, suc, length, sym, ap, ◌∙◌, arith}
use Rattle.kernel_model.specs.declared.Refusal.{Refusal}
use Rattle.kernel_model.specs.declared.SysCall.{SysCall}
use Rattle.kernel_model.specs.declared.SysCall.TheVariants.{Write}
use Rattle.kernel_model.specs.Needs as needs
use Rattle.kernel_model.specs.StreamPoints as model
use Rattle.audit_state.specs.Things.{things_of}
use Rattle.audit_state.specs.Worlds.{world_of}
use Rattle.audit_needs.proofs.streams.stream_write_ask.Goals as goal

pub returns-in_ok-asked : goal.returns-in_ok-asked
returns-in_ok-asked c = λ bytes.
    let v = world_of c.args.scene.now.world.now in
    let w = things_of bytes c.args.scene.now.things.now in
    let p = c.args.p in
    let at = c.args.place in
    let given = c.args.stage.now.given.items in
    let out = c.args.stage.now.bytes.items in
    let by_block = λ (n : ℕ) (b : Result ℕ Refusal).
    model.stream_write_asks p at.descriptor at.block at.offset n b in
    let by_piece = λ (n : ℕ).
    model.stream_write_ask n v w p at.descriptor at.block at.offset given out in
    let by_count = λ (n : ℕ). needs.file_block v (w.file p at.descriptor) at.block at.offset n in
    let count : length c.as_slice-count.result.now ≡ length given =
    ap (λ (xs : List ℕ). length xs) c.as_slice-count.ensures.value in
    let first : by_piece c.args.stage.now.piece ≡ by_block (length given) (by_count (length given)) =
    ap by_piece c.if-stage-eq0.true in
    c.in_ok-asked.ensures
    ∙ ap (λ (n : ℕ). by_block n c.block_at-block.result) count
    ∙ ap (by_block (length given)) (c.block_at-block.ensures bytes ∙ ap by_count count)
    ∙ sym first

pub returns-in_ok-asked-2 : goal.returns-in_ok-asked-2
returns-in_ok-asked-2 c = λ bytes.
    let v = world_of c.args.scene.now.world.now in
    let w = things_of bytes c.args.scene.now.things.now in
    let p = c.args.p in
    let at = c.args.place in
    let given = c.args.stage.now.given.items in
    let out = c.args.stage.now.bytes.items in
    let by_piece = λ (n : ℕ).
    model.stream_write_ask n v w p at.descriptor at.block at.offset given out in
    let write = λ (bytes : List ℕ). Write at.descriptor at.block at.offset bytes in
    let some = c.if-stage-eq0.false in
    let next : c.args.stage.now.piece ≡ suc (c.args.stage.now.piece - 1) = omega arith in
    c.in_ok-asked-2.ensures bytes
    ∙ ap (λ (call : SysCall). needs.piece_ask call 0 v w p)
    (c.write_at.ensures c.deref.result.now ∙ ap write c.deref.ensures.value)
    ∙ sym (ap by_piece next)
