use Rattle.kernel_model.specs.Bare.{call_with}
use Rattle.call_pieces.specs.Stores.{world_of_store, objects_of}
use Rattle.call_pieces.specs.Works.{call_of, stage_of, registers_seen}
use Rattle.call_pieces.specs.Matching.{comes_after}
use Rattle.high_marks.proofs.Pieces.{mark_some}
use Rattle.high_marks.proofs.HighMarksCalls.piece.Goals as goal

pub returns-clause-some : goal.returns-clause-some
returns-clause-some g c =
    λ images.
    let w = c.args.work.now in
    let t = stage_of c.piece-next.new.work in
    mark_some (world_of_store c.args.store.now) (objects_of c.args.store.now) w.caller w.piece
    (call_of w) (call_with c.as_plain-call.result w.bytes.items) c.args.answer _ _ _
    (comes_after c.piece-next.result t) (comes_after c.told.result t) _ c.as_plain-call.ensures
    (registers_seen c.args.store.now.ram w.caller c.args.answer)
    (c.told.ensures.after w.bytes.items t) c.piece-next.ensures.done.some
