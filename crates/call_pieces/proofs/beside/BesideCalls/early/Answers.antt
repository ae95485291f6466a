use Rattle.std.proofs.Common.{true, false, sym, ◌∙◌}
use Rattle.kernel_model.specs.Bare.{call_with}
use Rattle.kernel_state.specs.Stores.{world_of_store, objects_of}
use Rattle.call_needs.specs.Works.{stage_of}
use Rattle.call_pieces.proofs.Sides.{due, few}
use Rattle.call_pieces.proofs.beside.BesideCalls.early.Goals as goal

pub returns-then-owns-clause-ready : goal.returns-then-owns-clause-ready
returns-then-owns-clause-ready g c =
    let w = c.early.new.work in
    due g.A.Calls.owns g.A.Meaning.Rules.meaning g.B.Meaning.Rules.meaning true
    g.A.Meaning.Rules.laws g.B.Meaning.Rules.laws (world_of_store c.args.store.now)
    (objects_of c.args.store.now) c.args.images c.args.p w.caller
    (call_with c.args.call c.args.bytes.now.items) (stage_of w) c.early.result
    (sym (c.owns.ensures c.args.bytes.now.items) ∙ c.if-owns.true) c.early.ensures.value
    c.early.ensures.ready

pub returns-then-owns-clause-few : goal.returns-then-owns-clause-few
returns-then-owns-clause-few g c =
    let w = c.early.new.work in
    few g.A.Calls.owns g.A.Meaning.Rules.meaning g.B.Meaning.Rules.meaning true
    g.A.Meaning.Rules.laws g.B.Meaning.Rules.laws (world_of_store c.args.store.now)
    (objects_of c.args.store.now) c.args.images c.args.p w.caller
    (call_with c.args.call c.args.bytes.now.items) (stage_of w) c.early.result
    (sym (c.owns.ensures c.args.bytes.now.items) ∙ c.if-owns.true) c.early.ensures.value
    c.early.ensures.few

pub returns-else-owns-clause-ready : goal.returns-else-owns-clause-ready
returns-else-owns-clause-ready g c =
    let w = c.early-else-owns.new.work in
    due g.A.Calls.owns g.A.Meaning.Rules.meaning g.B.Meaning.Rules.meaning false
    g.A.Meaning.Rules.laws g.B.Meaning.Rules.laws (world_of_store c.args.store.now)
    (objects_of c.args.store.now) c.args.images c.args.p w.caller
    (call_with c.args.call c.args.bytes.now.items) (stage_of w) c.early-else-owns.result
    (sym (c.owns.ensures c.args.bytes.now.items) ∙ c.if-owns.false) c.early-else-owns.ensures.value
    c.early-else-owns.ensures.ready

pub returns-else-owns-clause-few : goal.returns-else-owns-clause-few
returns-else-owns-clause-few g c =
    let w = c.early-else-owns.new.work in
    few g.A.Calls.owns g.A.Meaning.Rules.meaning g.B.Meaning.Rules.meaning false
    g.A.Meaning.Rules.laws g.B.Meaning.Rules.laws (world_of_store c.args.store.now)
    (objects_of c.args.store.now) c.args.images c.args.p w.caller
    (call_with c.args.call c.args.bytes.now.items) (stage_of w) c.early-else-owns.result
    (sym (c.owns.ensures c.args.bytes.now.items) ∙ c.if-owns.false) c.early-else-owns.ensures.value
    c.early-else-owns.ensures.few
