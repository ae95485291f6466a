use Rattle.std.proofs.Common.{◌∙◌, sym}
use Rattle.kernel_state.proofs.Accessing.{no_row, row_past}
use Rattle.kernel_state.proofs.Store.row.Goals as goal
use Rattle.kernel_state.proofs.Store.row.Goals.{else-f-via-then-f+else-is_used, else-f-via-else-f}

pub returns-else-f-clause-value : goal.returns-else-f-clause-value
returns-else-f-clause-value g c =
    let s = c.args.self.now in
    elim c.else-f.branch [
      | else-f-via-then-f+else-is_used w ↦ sym (no_row s.cache c.args.f (sym w.is_used.ensures ∙ w.if-is_used.false))
      | else-f-via-else-f w ↦ sym (row_past s.cache c.args.f c.lru.ensures.sound w.if-f.false)
    ]
