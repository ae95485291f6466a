use Rattle.std.proofs.Common.{List, ℕ, ◌∙◌, sym, ap, subst}
use Rattle.kernel_model.specs.Bare.{call_with}
use Rattle.kernel_model.specs.Pieces.{plain_upto}
use Rattle.kernel_state.specs.Stores.{world_of_store, objects_of}
use Rattle.call_needs.specs.declared.Work.{Work}
use Rattle.call_needs.specs.Works.{IsDue, stage_of}
use Rattle.call_needs.proofs.Granting.{may_come}
use Rattle.call_needs.proofs.begin.early_upto.Goals as goal

pub returns-clause-ready : goal.returns-clause-ready
returns-clause-ready g c =
    let v = world_of_store c.args.store.now in
    let s = objects_of c.args.store.now in
    let same = ap (λ (x : List ℕ). call_with c.args.call x) (sym c.as_slice.ensures.value) in
    subst (λ (w : Work). IsDue (plain_upto g.row.TOP) v s w.caller (stage_of w)) (sym c.set_call.ensures)
    (may_come g.row.TOP v s c.args.images c.args.p _ (call_with c.args.call c.args.bytes.now.items)
    same c.requires.alive
    (λ table tells. sym c.in_default.is ∙ c.refusal_upto.ensures table tells))
