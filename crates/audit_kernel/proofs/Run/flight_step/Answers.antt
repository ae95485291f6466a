use Rattle.std.proofs.Common.{ℕ, Option, Some, None, sym, ap, ◌∙◌}
use Rattle.kernel_model.specs.AllCalls.{all_calls}
use Rattle.kernel_model.specs.Kernel as model
use Rattle.kernel_model.specs.Meaning.{Stage}
use Rattle.kernel_model.specs.Settle.{call_step}
use Rattle.audit_state.specs.Worlds.{world_of}
use Rattle.audit_needs.specs.Stages.{stage_of}
use Rattle.audit_pieces.specs.Stores.{objects_of}
use Rattle.audit_kernel.specs.declared.History.{History}
use Rattle.audit_kernel.specs.Runs.{run_of, marks_of}
use Rattle.audit_kernel.proofs.Hiding.{piece_hides}
use Rattle.audit_kernel.proofs.Run.flight_step.Goals as goal

-- a step of a call with this history, which stands in its place
stepped : (p n : ℕ) (t : Stage) (r : model.Run) → Option History → model.Run
stepped p n t r g =
    let call : model.Call = record { number = n; stage = t; marks = marks_of g } in
    call_step all_calls p (Some call) (model.with_call p (Some call) r)

pub returns-in_ok-piece_step-in-None-clause-run : goal.returns-in_ok-piece_step-in-None-clause-run
unfolding stepped
returns-in_ok-piece_step-in-None-clause-run c =
    let r = c.args.self.now in
    let f = c.args.flight in
    let t = stage_of f.stage in
    let call : model.Call = record { number = f.number; stage = t; marks = None } in
    let asked = all_calls.asks (world_of r.setting.world) (objects_of r.store) c.args.p t in
    c.in_ok-piece_step-in-None.ensures.run
    ∙ sym (piece_hides c.args.p call asked (Some call) (run_of r))
    ∙ ap (stepped c.args.p f.number t (run_of r)) (sym c.in-None.is)

pub returns-in_ok-history_step-in-Some-clause-run : goal.returns-in_ok-history_step-in-Some-clause-run
unfolding stepped
returns-in_ok-history_step-in-Some-clause-run c =
    let f = c.args.flight in
    c.in_ok-history_step-in-Some.ensures.run
    ∙ ap (stepped c.args.p f.number (stage_of f.stage) (run_of c.args.self.now)) (sym c.in-Some.is)
