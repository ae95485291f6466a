use Rattle.std.proofs.Common.{sym, ◌∙◌}
use Rattle.audit_kernel.specs.Runs.{kernel_of, run_of}
use Rattle.audit_kernel.proofs.Lasting.{ended, waits, runs}
use Rattle.audit_kernel.proofs.Run.last.Goals as goal

pub returns-in-None-clause-run : goal.returns-in-None-clause-run
returns-in-None-clause-run c =
    let r = c.args.self.now in
    ended c.args.p ((kernel_of r).call c.args.p) (run_of r) (sym c.in-None.is ∙ c.call_number.ensures)

pub returns-in_ok-note_wait-in-Some-clause-run : goal.returns-in_ok-note_wait-in-Some-clause-run
returns-in_ok-note_wait-in-Some-clause-run c =
    let r = c.args.self.now in
    waits c.args.p c.in-Some.number ((kernel_of r).call c.args.p) (run_of r) (run_of c.note_wait.new.self)
    (sym c.in-Some.is ∙ c.call_number.ensures) (sym c.is_in_order.ensures ∙ c.if-is_in_order.true)
    c.in_ok-note_wait-in-Some.ensures.run

pub returns-in_ok-note_graft-in-Some-clause-run : goal.returns-in_ok-note_graft-in-Some-clause-run
returns-in_ok-note_graft-in-Some-clause-run c =
    let r = c.args.self.now in
    runs c.args.p c.in-Some.number ((kernel_of r).call c.args.p) (run_of r) (run_of c.note_graft.new.self)
    (sym c.in-Some.is ∙ c.call_number.ensures) (sym c.is_in_order.ensures ∙ c.if-is_in_order.false)
    c.in_ok-note_graft-in-Some.ensures.run
