use Rattle.std.proofs.Common.{List, sym, ap, ◌∙◌}
use Rattle.kernel_model.specs.Levels.{Level}
use Rattle.kernel_model.specs.Events.{innermost}
use Rattle.audit_pieces.specs.Stores.{page_of}
use Rattle.audit_kernel.specs.Runs.{blocker_of, kernel_of, run_of}
use Rattle.audit_kernel.proofs.Acting.{nobody_waits, ends, loses_level}
use Rattle.audit_kernel.proofs.Run.act_on_waiter.Goals as goal

pub returns-in-None-clause-run : goal.returns-in-None-clause-run
returns-in-None-clause-run c =
    let r = c.args.self.now in
    nobody_waits c.args.p (blocker_of c.args.b) ((kernel_of r).call c.args.p) (run_of r)
    (sym c.in-None.is ∙ c.call_number.ensures)

pub returns-in_ok-drop_call-in-Some-clause-run : goal.returns-in_ok-drop_call-in-Some-clause-run
returns-in_ok-drop_call-in-Some-clause-run c =
    let r = c.args.self.now in
    loses_level c.args.p _ (blocker_of c.args.b) ((kernel_of r).call c.args.p) (run_of r) _
    (sym c.has_level.ensures ∙ c.if-has_level.true)
    (c.in_ok-depth-in-Some.ensures (page_of r.store)
    ∙ ap (λ (ls : List Level). innermost ls) c.levels.ensures)
    c.in_ok-drop_call-in-Some.ensures.run

pub returns-in_ok-time_out-in-Some-clause-run : goal.returns-in_ok-time_out-in-Some-clause-run
returns-in_ok-time_out-in-Some-clause-run c =
    let r = c.args.self.now in
    ends c.args.p c.in-Some.number (blocker_of c.args.b) ((kernel_of r).call c.args.p) (run_of r) _
    (sym c.in-Some.is ∙ c.call_number.ensures) (sym c.has_level.ensures ∙ c.if-has_level.false)
    c.in_ok-time_out-in-Some.ensures.run
