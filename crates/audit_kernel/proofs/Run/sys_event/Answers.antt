use Rattle.std.proofs.Common.{sym, ◌∙◌}
use Rattle.kernel_model.specs.Bare.{call_with}
use Rattle.audit_kernel.specs.Runs.{kernel_of, run_of}
use Rattle.audit_kernel.proofs.Lasting.{busy, begins}
use Rattle.audit_kernel.proofs.Run.sys_event.Goals as goal

pub returns-in_ok-note-in-Some-clause-run : goal.returns-in_ok-note-in-Some-clause-run
returns-in_ok-note-in-Some-clause-run c =
    let r = c.args.self.now in
    busy c.args.number c.args.p c.in-Some.busy (call_with c.args.call c.args.given.now)
    ((kernel_of r).call c.args.p) (run_of r) (run_of c.note.new.self)
    (sym c.in-Some.is ∙ c.call_number.ensures) c.in_ok-note-in-Some.ensures.run

pub returns-in_ok-last-in-None-clause-run : goal.returns-in_ok-last-in-None-clause-run
returns-in_ok-last-in-None-clause-run c =
    let r = c.args.self.now in
    begins c.args.number c.args.p (call_with c.args.call c.args.given.now)
    ((kernel_of r).call c.args.p) (run_of r) (run_of c.begin.new.self) (run_of c.last.new.self)
    (sym c.in-None.is ∙ c.call_number.ensures) c.in_ok-begin-in-None.ensures.run
    c.in_ok-last-in-None.ensures.run
