use Rattle.std.proofs.Common.{◌≡◌, ◌-◌, ℕ, List, Result, suc, length, ◌∷◌, ◌++◌, sym, ap, ◌∙◌, arith}
use Rattle.kernel_model.specs.declared.Object.TheVariants.{OpenFile}
use Rattle.kernel_model.specs.declared.Refusal.{Refusal}
use Rattle.kernel_model.specs.declared.SysCall.{SysCall}
use Rattle.kernel_model.specs.declared.SysCall.TheVariants.{Write}
use Rattle.kernel_model.specs.Needs as needs
use Rattle.kernel_model.specs.StreamPoints as model
use Rattle.audit_state.specs.Worlds.{world_of}
use Rattle.audit_needs.specs.Stages.{objects_of}
use Rattle.audit_needs.proofs.NeedLists.{two_added}
use Rattle.audit_needs.proofs.streams.stream_write_needs.Goals as goal

pub returns-in_ok-stream_point_needs : goal.returns-in_ok-stream_point_needs
returns-in_ok-stream_point_needs c = λ bytes.
    let scene = c.args.scene.now in
    let v = world_of scene.world.now in
    let s = objects_of bytes scene.accounts.now scene.things.now in
    let p = c.args.p in
    let at = c.args.place in
    let old = c.args.out.now.items in
    let given = c.args.stage.now.given.items in
    let out = c.args.stage.now.bytes.items in
    let by_block = λ (fd : ℕ) (b : Result ℕ Refusal).
    old ++ (needs.shared (OpenFile p fd) ∷ model.stream_point_needs s p b) in
    let by_count = λ (n : ℕ).
    needs.file_block v (s.things.file p at.descriptor) at.block at.offset n in
    let by_piece = λ (n : ℕ).
    old ++ model.stream_write_needs n v s p at.descriptor at.block at.offset given out in
    let count : length c.as_slice-count.result.now ≡ length given =
    ap (λ (xs : List ℕ). length xs) c.as_slice-count.ensures.value in
    let first : by_piece c.args.stage.now.piece ≡ by_block at.descriptor (by_count (length given)) =
    ap by_piece c.if-stage-eq0.true in
    two_added _ _ _ _ _ c.in_ok-shared.ensures (c.in_ok-stream_point_needs.ensures s.things)
    ∙ ap (λ (fd : ℕ). by_block fd c.block_at-block.result) c.in_ok-byte_of.ensures
    ∙ ap (by_block at.descriptor) (c.block_at-block.ensures bytes ∙ ap by_count count)
    ∙ sym first

pub returns-in_ok-piece_needs : goal.returns-in_ok-piece_needs
returns-in_ok-piece_needs c = λ bytes.
    let scene = c.args.scene.now in
    let v = world_of scene.world.now in
    let s = objects_of bytes scene.accounts.now scene.things.now in
    let p = c.args.p in
    let at = c.args.place in
    let old = c.args.out.now.items in
    let given = c.args.stage.now.given.items in
    let out = c.args.stage.now.bytes.items in
    let by_piece = λ (n : ℕ).
    old ++ model.stream_write_needs n v s p at.descriptor at.block at.offset given out in
    let write = λ (bytes : List ℕ). Write at.descriptor at.block at.offset bytes in
    let some = c.if-stage-eq0.false in
    let next : c.args.stage.now.piece ≡ suc (c.args.stage.now.piece - 1) = omega arith in
    c.in_ok-piece_needs.ensures bytes
    ∙ ap (λ (call : SysCall). old ++ needs.piece_needs call 0 v s p)
    (c.write_at.ensures c.deref.result.now ∙ ap write c.deref.ensures.value)
    ∙ sym (ap by_piece next)
