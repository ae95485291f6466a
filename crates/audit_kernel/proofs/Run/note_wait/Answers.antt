use Rattle.std.proofs.Common.{option_map, sym, ap, ◌∙◌}
use Rattle.kernel_model.specs.AllCalls.{all_calls}
use Rattle.kernel_model.specs.Blocking as blocking
use Rattle.audit_kernel.specs.Runs.{blocker_of, kernel_of, run_of}
use Rattle.audit_kernel.proofs.Lasting.{quiet, told}
use Rattle.audit_kernel.proofs.Run.note_wait.Goals as goal

pub returns-in-None-clause-run : goal.returns-in-None-clause-run
returns-in-None-clause-run c =
    let r = c.args.self.now in
    quiet c.args.number (blocking.blocker all_calls (kernel_of r) c.args.p) (run_of r)
    (ap (option_map blocker_of) (sym c.in-None.is) ∙ c.in_ok-blocker.ensures)

pub returns-in_ok-note-in-Some-clause-run : goal.returns-in_ok-note-in-Some-clause-run
returns-in_ok-note-in-Some-clause-run c =
    let r = c.args.self.now in
    told c.args.number (blocker_of c.in-Some.b) (blocking.blocker all_calls (kernel_of r) c.args.p) (run_of r)
    (run_of c.note.new.self) (ap (option_map blocker_of) (sym c.in-Some.is) ∙ c.in_ok-blocker.ensures)
    c.in_ok-note-in-Some.ensures.run
