use Rattle.std.proofs.Common.{ℕ, Option, Some, sym, ap, ◌∙◌}
use Rattle.kernel_model.specs.AllCalls.{all_calls}
use Rattle.kernel_model.specs.Events.{drop_call}
use Rattle.kernel_model.specs.Kernel as model
use Rattle.kernel_model.specs.Meaning.{Stage}
use Rattle.kernel_model.specs.declared.Cause.{Cause}
use Rattle.audit_needs.specs.Stages.{stage_of}
use Rattle.audit_kernel.specs.declared.History.{History}
use Rattle.audit_kernel.specs.Runs.{run_of, marks_of}
use Rattle.audit_kernel.proofs.Run.drop_flight.Goals as goal

-- what a drop makes of a call with this history, which stands in its place
dropped : (p n d : ℕ) (t : Stage) (cause : Cause) (r : model.Run) → Option History → model.Run
dropped p n d t cause r g =
    let call : model.Call = record { number = n; stage = t; marks = marks_of g } in
    drop_call all_calls p (Some call) (Some d) cause (model.with_call p (Some call) r)

pub returns-in_ok-put_back-in-None-clause-run : goal.returns-in_ok-put_back-in-None-clause-run
unfolding dropped
returns-in_ok-put_back-in-None-clause-run c =
    let f = c.args.flight in
    c.in_ok-put_back-in-None.ensures.run
    ∙ ap (dropped c.args.p f.number c.args.d (stage_of f.stage) c.args.cause (run_of c.args.self.now)) (sym c.in-None.is)

pub returns-in_ok-drop_history-in-Some-clause-run : goal.returns-in_ok-drop_history-in-Some-clause-run
unfolding dropped
returns-in_ok-drop_history-in-Some-clause-run c =
    let f = c.args.flight in
    c.in_ok-drop_history-in-Some.ensures.run
    ∙ ap (dropped c.args.p f.number c.args.d (stage_of f.stage) c.args.cause (run_of c.args.self.now)) (sym c.in-Some.is)
