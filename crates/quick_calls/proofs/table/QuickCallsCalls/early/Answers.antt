use Rattle.std.proofs.Common.{sym, subst, ◌∙◌}
use Rattle.kernel_model.specs.Bare.{call_with}
use Rattle.call_pieces.specs.declared.Work.{Work}
use Rattle.call_pieces.specs.Stores.{world_of_store, objects_of}
use Rattle.call_pieces.specs.Works.{IsDue, stage_of}
use Rattle.quick_calls.specs.QuickTables.{quick_meaning}
use Rattle.quick_calls.specs.Granting.{may_come}
use Rattle.quick_calls.proofs.table.QuickCallsCalls.early.Goals as goal

pub returns-clause-ready : goal.returns-clause-ready
returns-clause-ready g c =
    let x = g.T.Quick.table in
    let v = world_of_store c.args.store.now in
    let s = objects_of c.args.store.now in
    let bytes = c.args.bytes.now.items in
    subst (λ (w : Work). IsDue (quick_meaning x) v s w.caller (stage_of w)) (sym c.set_call.ensures)
    (may_come x g.T.Quick.laws v s c.args.p (call_with c.args.call bytes) c.requires.alive
    (sym (sym c.in_default.is ∙ c.refusal.ensures bytes)))
