-- The undo log has as many records as are shown.
use Rattle.std.proofs.Common.{◌≡◌, ◌∙◌, ap, sym, length}
use Rattle.kernel_model.specs.UndoLog.{numbered_log}
use Rattle.running_kernel.specs.declared.running.Flight.{Flight}
use Rattle.running_kernel.specs.Views.{flight_of}
use Rattle.running_kernel.proofs.ShownLemmas.{as_many_records, records_many}
use Rattle.running_kernel.proofs.running.Running.shown_records.Goals as goal

pub returns-clause-value : goal.returns-clause-value
returns-clause-value g c =
    let x = c.args.self.now in
    let fl : c.flight.result.now ≡ flight_of x.calls.items c.args.p = c.flight.ensures
    ∙ ap (λ fs. flight_of fs c.args.p) c.deref.ensures.value in
    ap length c.list.ensures.value ∙ as_many_records c.flight.result.now.chain.undo
    ∙ ap (λ (f : Flight). length (numbered_log f.chain.undo)) fl
    ∙ sym (records_many x c.args.p c.requires.process c.requires.running)
