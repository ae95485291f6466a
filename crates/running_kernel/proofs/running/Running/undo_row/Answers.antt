-- The row of a record is that of the undo log.
use Rattle.std.proofs.Common.{◌≡◌, ◌∙◌, ap, sym, length, arith, List, map}
use Rattle.std.specs.Prelude.{slice_get}
use Rattle.kernel_data.specs.declared.RawRow.{RawRow}
use Rattle.kernel_model.specs.RawRows.{undo_row}
use Rattle.kernel_model.specs.UndoLog.{numbered_log}
use Rattle.graft_levels.specs.UndoLevels.{log_of}
use Rattle.running_kernel.specs.declared.running.Flight.{Flight}
use Rattle.running_kernel.specs.Views.{flight_of}
use Rattle.running_kernel.proofs.ShownLemmas.{records_in_place, records_many}
use Rattle.running_kernel.proofs.running.Running.undo_row.Goals as goal

pub row_of_record-requires : goal.row_of_record-requires
row_of_record-requires g c =
    let x = c.args.self.now in
    let fl : c.flight.result.now ≡ flight_of x.calls.items c.args.p = c.flight.ensures
    ∙ ap (λ fs. flight_of fs c.args.p) c.deref.ensures.value in
    let many : length (numbered_log c.flight.result.now.chain.undo)
    ≡ length (numbered_log (flight_of x.calls.items c.args.p).chain.undo) =
    ap (λ (f : Flight). length (numbered_log f.chain.undo)) fl in
    omega (arith, c.requires.recorded, many, records_many x c.args.p c.requires.at.process c.requires.at.running)

pub returns : goal.returns
returns g c =
    let x = c.args.self.now in
    let fl : c.flight.result.now ≡ flight_of x.calls.items c.args.p = c.flight.ensures
    ∙ ap (λ fs. flight_of fs c.args.p) c.deref.ensures.value in
    ap (λ (rows : List RawRow). slice_get rows c.args.i)
    (records_in_place x c.args.p c.requires.at.process c.requires.at.running
    ∙ sym (ap (λ (f : Flight). map (undo_row c.args.p) (numbered_log (log_of f.chain.undo))) fl))
    ∙ c.row_of_record.ensures
