use Rattle.std.proofs.Common.{ℕ, List, Option, None, ap, ◌∙◌}
use Rattle.kernel_model.specs.Objects.{FrameValue}
use Rattle.kernel_model.specs.Pieces.{freed_by}
use Rattle.audit_table.specs.declared.Row.{Row}
use Rattle.audit_table.specs.Tables.{column_of, row_cleared}
use Rattle.audit_state.specs.declared.Frame.{Frame}
use Rattle.audit_state.specs.Things.{things_of, frame_of}
use Rattle.audit_state.proofs.Mapped.{column_through, frames_handed}
use Rattle.audit_state.proofs.Leaving.{each_changes}
use Rattle.audit_state.proofs.Things.leave.Goals as goal

pub returns : goal.returns
returns c = λ bytes.
    let a = c.args.self.now in
    let w = things_of bytes a in
    let p = c.args.p in
    let seen : List (Row (Option Frame)) → ℕ → Option FrameValue =
    λ rs g. frame_of (bytes g) (column_of None rs g) in
    each_changes w _ _ _ _ _ _ _ _ _ _ _ _
    (c.clear.ensures 0 ∙ ap (λ (n : ℕ). row_cleared n 0 w.cell) c.from.ensures)
    (c.clear-2.ensures None ∙ ap (λ (n : ℕ). row_cleared n None w.file) c.from-2.ensures)
    c.take_out.ensures
    (ap seen c.hand_over.ensures
    ∙ frames_handed bytes p 0 a.frames.items)
    (ap (λ (rs : List (Row (Option ℕ))). column_of None rs) c.free_locks.ensures
    ∙ column_through (freed_by p) None a.locks.items)
    c.remove_handlers.ensures
