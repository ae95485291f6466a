use Rattle.std.proofs.Common.{ℕ, sym, ap, ◌∙◌}
use Rattle.vino_host.specs.declared.Stop.{Stop}
use Rattle.vino_host.specs.HostMachine.{machine_of}
use Rattle.vino_host.specs.HostRuns.{state}
use Rattle.vino_host.specs.Tables.{records_of}
use Rattle.vino_host.specs.Calls.{frame_with, found_by, judged}
use Rattle.vino_host.proofs.calls.hand_over.Goals as goal

pub returns-in-Drops : goal.returns-in-Drops
returns-in-Drops c =
    let m = machine_of c.args.stopped.now.machine c.args.call.now.segment in
    let f = frame_with c.args.segment.now c.args.call.now in
    let s = state m c.args.table.now (records_of c.args.call.now.log) in
    c.undo_words.ensures c.args.segment.now m
    ∙ ap (λ (w : Stop). found_by f c.args.stopped.now.left s w)
    (sym c.in-Drops.is ∙ c.judged.ensures.before c.args.segment.now
    ∙ ap (λ (x : ℕ). judged f c.args.stopped.now.stop x) c.reg.ensures)
