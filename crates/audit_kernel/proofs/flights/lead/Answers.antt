use Rattle.std.proofs.Common.{ℕ, List, Option, map, ap, ◌∙◌}
use Rattle.kernel_model.specs.declared.Need.{Need}
use Rattle.kernel_model.specs.declared.Point.{Point}
use Rattle.kernel_model.specs.AllCalls.{all_calls}
use Rattle.kernel_model.specs.History as model
use Rattle.graft_loader.specs.Slots.{table_of}
use Rattle.audit_state.specs.Worlds.{world_of}
use Rattle.audit_needs.specs.Stages.{stage_of}
use Rattle.audit_pieces.specs.Stores.{objects_of, page_of}
use Rattle.audit_replay.specs.Traces.{mark_of, led_from}
use Rattle.audit_replay.proofs.Going.{if_ok}
use Rattle.audit_kernel.proofs.Leading.{led_is}
use Rattle.audit_kernel.proofs.flights.lead.Goals as goal

pub returns : goal.returns
unfolding objects_of
returns c =
    if_ok c.replay.result
    (λ t said n.
    let v = world_of c.args.setting.now.world in
    let images = table_of c.args.setting.now.images in
    let s = objects_of c.args.store.now in
    let p = c.args.p in
    let ks = map mark_of c.args.marks.now in
    let stage = stage_of c.args.stage.now in
    let ns = all_calls.need v s p stage in
    let fed = all_calls.feed stage in
    let from : List Need → List ℕ → Option Point → Option model.Trace =
    λ ms bs a. led_from v images p ks (model.begin_with images s p ms bs a) in
    said (page_of c.args.store.now)
    ∙ ap (λ (ms : List Need). from ms c.feed-fed.result.now c.in_ok-point.point)
    (c.as_slice.ensures.value ∙ c.in_ok-base.ensures)
    ∙ ap (λ (bs : List ℕ). from ns bs c.in_ok-point.point) c.feed-fed.ensures
    ∙ ap (λ (a : Option Point). from ns fed a) c.in_ok-point.ensures
    ∙ led_is v images p ks (model.begin all_calls v images s p stage))
    c.replay.ensures
