use Rattle.std.proofs.Common.{◌-◌, length, take, Some, sym, ◌∙◌, ap}
use Rattle.std.specs.Prelude.{slice_index_or, None}
use Rattle.undo_calls.specs.UndoLevels.{Logged, logged_at, logged_in}
use Rattle.undo_calls.proofs.Cuts.{popped, newest-none}
use Rattle.undo_calls.proofs.Logs.{length-logged, logged-last}
use Rattle.undo_calls.proofs.UndoStack.newest.Goals as goal

pub returns-then-records-last_mark-clause-value : goal.returns-then-records-last_mark-clause-value
returns-then-records-last_mark-clause-value c =
    newest-none c.self.inside.marks.items
    (take (length c.as_slice.result.now - 1) c.as_slice.result.now) c.last_mark.result
    (logged_in c.self.inside.records.items c.self.inside.kept) c.args.self.now
    (sym c.as_slice.ensures.value ∙ c.last_mark.ensures)
    (length-logged 0 c.self.inside.records.items c.self.inside.kept ∙ sym (ap length
    c.as_slice-records.ensures.value) ∙ c.if-records-last_mark.true) c.self.view_is

pub returns-clause-value : goal.returns-clause-value
returns-clause-value c =
    let records = c.as_slice-records.result.now in
    let same = c.as_slice-records.ensures.value in
    let init = take (length records - 1) records in
    let inverse = c.last_inverse-inverse.result in
    let last = logged-last c.self.inside.records.items init inverse c.self.inside.kept
    (sym same ∙ c.last_inverse-inverse.ensures) in
    let size = length-logged 0 c.self.inside.records.items c.self.inside.kept in
    let place = ap (λ n. logged_at inverse (slice_index_or c.self.inside.kept (n - 1) None)) (ap length same) in
    let given = ap (λ b. let r : Logged = record { inverse = inverse; bytes = b } in Some r)
    c.bytes_beside-bytes.ensures.value in
    given ∙ ap Some place
    ∙ (popped c.self.inside.marks.items
    (take (length c.as_slice.result.now - 1) c.as_slice.result.now)
    c.last_mark.result (logged_in c.self.inside.records.items c.self.inside.kept)
    (logged_in init c.self.inside.kept)
    (logged_at inverse (slice_index_or c.self.inside.kept
    (length c.self.inside.records.items - 1) None)) c.args.self.now
    (sym c.as_slice.ensures.value ∙ c.last_mark.ensures) last c.self.invariant.0
    (λ e. c.if-records-last_mark.false (ap length same ∙ sym size ∙ e)) c.self.view_is).value
