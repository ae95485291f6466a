use Rattle.std.proofs.Common.{List, ℕ, sym, ap, subst, ◌∙◌}
use Rattle.kernel_model.specs.Bare.{call_with}
use Rattle.kernel_model.specs.StreamPoints.{stream_points, stream_refusal}
use Rattle.call_pieces.specs.Stores.{world_of_store, objects_of}
use Rattle.call_pieces.specs.declared.Work.{Work}
use Rattle.call_pieces.specs.Works.{IsDue, stage_of}
use Rattle.stream_points.proofs.Granting.{may_come}
use Rattle.stream_points.proofs.begin.admit.Goals as goal

pub returns-clause-ready : goal.returns-clause-ready
returns-clause-ready g c =
    let v = world_of_store c.args.store.now in
    let s = objects_of c.args.store.now in
    let p = c.args.p in
    subst (λ (w : Work). IsDue stream_points v s w.caller (stage_of w)) (sym c.set_call.ensures)
    (may_come v s c.args.images p (call_with c.args.call c.args.bytes.now.items) c.requires.alive
    (λ table tells.
    sym c.in_default.is ∙ c.refusal.ensures table tells
    ∙ ap (λ (x : List ℕ). stream_refusal v table p (call_with c.args.call x))
    c.as_slice.ensures.value))
