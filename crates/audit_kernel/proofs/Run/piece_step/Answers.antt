use Rattle.std.proofs.Common.{Option, None, sym, ap, ◌∙◌}
use Rattle.kernel_model.specs.declared.Point.{Point}
use Rattle.kernel_model.specs.AllCalls.{all_calls}
use Rattle.kernel_model.specs.Kernel as model
use Rattle.kernel_model.specs.Settle as settle
use Rattle.audit_needs.specs.Stages.{stage_of}
use Rattle.audit_kernel.specs.Runs.{run_of}
use Rattle.audit_kernel.proofs.Hiding.{by_default}
use Rattle.audit_kernel.proofs.Run.piece_step.Goals as goal

pub returns-in_ok-finish-clause-run : goal.returns-in_ok-finish-clause-run
returns-in_ok-finish-clause-run c =
    let r = run_of c.args.self.now in
    let call : model.Call = record {
      number = c.args.number;
      stage = stage_of c.args.stage;
      marks = None;
    } in
    c.in_ok-finish.ensures.run None
    ∙ by_default c.args.p call c.in_ok-point.point r (sym c.is_grafted.ensures ∙ c.if-is_grafted.false)
    ∙ ap (λ (a : Option Point). settle.piece_step all_calls c.args.p call a r) c.in_ok-point.ensures
