use Rattle.std.proofs.Common.{map, refl, ap, ◌∙◌}
use Rattle.kernel_model.specs.AllCalls.{all_calls}
use Rattle.kernel_model.specs.Kernel.{requeue}
use Rattle.kernel_model.specs.Levels.{Outcome}
use Rattle.kernel_model.specs.Settle.{outcome_step}
use Rattle.audit_pieces.specs.Stores.{page_of}
use Rattle.audit_replay.specs.Traces.{mark_of, trace_of}
use Rattle.audit_kernel.specs.Steps.{graft_call, with_flight}
use Rattle.audit_kernel.proofs.Run.drop_trace.Goals as goal

pub returns-clause-run : goal.returns-clause-run
returns-clause-run c =
    let r = c.args.self.now in
    let bytes = page_of r.store in
    let ks = c.args.marks.items in
    let call = graft_call c.args.number c.args.stage ks in
    let t = trace_of bytes c.args.trace in
    c.in_ok-requeue.ensures.run
    ∙ ap (requeue c.args.p) (c.in_ok-after_outcome.ensures.run t c.requires.here refl
    ∙ ap (λ (o : Outcome). outcome_step all_calls c.args.p call t (map mark_of ks) o (with_flight c.args.p call r))
    (c.in_ok-outcome.ensures bytes))
