use Rattle.std.proofs.Common.{◌++◌, ℕ, List, Some, None, length, refl, subst, ap, ◌∙◌, Option}
use Rattle.kernel_model.specs.declared.Point.{Point}
use Rattle.kernel_model.specs.Laws.{IsRightAnswer}
use Rattle.kernel_model.specs.Needs.{file_block}
use Rattle.kernel_model.specs.FilePieces.{write_piece}
use Rattle.kernel_model.specs.StreamPoints.{through}
use Rattle.call_pieces.specs.Joined.{made_alone, extends_none}
use Rattle.call_pieces.specs.Stores.{world_of_store, objects_of}
use Rattle.call_pieces.specs.Works.{answer_seen, call_of, stage_of}
use Rattle.call_pieces.specs.Matching.{comes_after, PieceMatches}
use Rattle.call_pieces.proofs.LeftLaws.{some_as, some_quick}
use Rattle.stream_points.proofs.GraftCalls.{graft_call, no_more, plain_due, same_ask, same_piece}
use Rattle.stream_points.proofs.StreamPieces.{came_as, second_read, first_write, second_write}
use Rattle.stream_points.proofs.pieces.piece.Goals as goal

pub piece-requires-clause-ready : goal.piece-requires-clause-ready
piece-requires-clause-ready g c =
    let w = c.args.work.now in
    let s = c.args.store.now in
    plain_due (world_of_store s) (objects_of s) w.caller (stage_of w)
    (graft_call w.call w.bytes.items (stage_of w) c.in_default.not-StreamRead
    c.in_default.not-StreamWrite c.requires.ready.fits)
    c.requires.ready

pub piece-requires-clause-right : goal.piece-requires-clause-right
piece-requires-clause-right g c =
    let w = c.args.work.now in
    let s = c.args.store.now in
    let named = (graft_call w.call w.bytes.items (stage_of w) c.in_default.not-StreamRead
    c.in_default.not-StreamWrite c.requires.ready.fits).named in
    subst (λ (x : Option Point). IsRightAnswer (objects_of s) x c.args.answer)
    (same_ask (call_of w) w.piece (stage_of w) (world_of_store s) (objects_of s).things w.caller
    named) c.requires.right

pub returns-in-StreamRead-2-clause-some : goal.returns-in-StreamRead-2-clause-some
returns-in-StreamRead-2-clause-some g c =
    let w = c.args.work.now in
    let s = c.args.store.now in
    let x = c.in-StreamRead-2 in
    let seen = answer_seen s.ram w.caller c.args.answer in
    some_quick (world_of_store s) _ (objects_of s) _ _ c.args.log.now c.requires.fresh
    (λ blocks known io tells.
    came_as _ _ (objects_of s) known _ (Some (through seen w.carried.items)) _ 0
    (second_read w x.descriptor x.block x.offset x.length (world_of_store s) (objects_of s) blocks
    seen io x.is c.if-work-eq0.false)
    (c.give_out.ensures
    ∙ ap (λ (bytes : List ℕ). Some (through seen bytes)) c.as_slice.ensures.value)
    (record { objects = refl; blocks = tells; bytes = refl; next = refl; calls_made = refl }))

pub returns-in-StreamWrite-clause-some : goal.returns-in-StreamWrite-clause-some
returns-in-StreamWrite-clause-some g c =
    let w = c.args.work.now in
    let s = c.args.store.now in
    let x = c.in-StreamWrite in
    some_quick (world_of_store s) _ (objects_of s) _ _ c.args.log.now c.requires.fresh
    (λ blocks known io tells.
    came_as _ _ (objects_of s) known _ None _ 0
    (first_write w x.fd x.i x.off (world_of_store s) (objects_of s) blocks
    (answer_seen s.ram w.caller c.args.answer) io x.is c.if-work-eq0-2.true)
    c.clear.ensures (c.change.ensures.does blocks known tells))

pub returns-in-StreamWrite-2-clause-does : goal.returns-in-StreamWrite-2-clause-does
returns-in-StreamWrite-2-clause-does g c =
    λ blocks rest tells.
    let w = c.args.work.now in
    let s = c.args.store.now in
    let x = c.in-StreamWrite-2 in
    let io = c.write.new.log ++ rest in
    came_as _ _ _ _ _ _ _ (length c.write.new.log)
    (second_write w x.fd x.i x.off (world_of_store s) (objects_of s) blocks s.ram c.args.answer io
    x.is c.if-work-eq0-2.false) c.clear.ensures
    (subst (λ (bytes : List ℕ). PieceMatches
    (write_piece (file_block (world_of_store s) ((objects_of s).things.file w.caller x.fd) x.i x.off
    (length bytes)) (world_of_store s) (objects_of s) blocks w.caller x.off bytes c.args.answer io)
    (objects_of c.write.new.store) (g.D.Disk.seen c.write.new.disk).known None
    (comes_after c.write.result (stage_of w)) (length c.write.new.log)) c.as_slice-bytes.ensures.value
    (c.write.ensures.does (stage_of w) blocks rest tells))

pub returns-in-StreamRead-clause-calls : goal.returns-in-StreamRead-clause-calls
returns-in-StreamRead-clause-calls g c =
    made_alone (g.D.Disk.seen c.args.disk.now) (g.D.Disk.seen c.take_block.new.disk)
    c.args.log.now c.take_block.new.log c.requires.fresh c.take_block.ensures.done.calls

pub returns-in-StreamRead-2-clause-calls : goal.returns-in-StreamRead-2-clause-calls
returns-in-StreamRead-2-clause-calls g c =
    made_alone (g.D.Disk.seen c.args.disk.now) (g.D.Disk.seen c.args.disk.now) c.args.log.now
    c.args.log.now c.requires.fresh (extends_none (g.D.Disk.seen c.args.disk.now) c.args.log.now)

pub returns-in-StreamWrite-clause-calls : goal.returns-in-StreamWrite-clause-calls
returns-in-StreamWrite-clause-calls g c =
    made_alone (g.D.Disk.seen c.args.disk.now) (g.D.Disk.seen c.args.disk.now) c.args.log.now
    c.args.log.now c.requires.fresh (extends_none (g.D.Disk.seen c.args.disk.now) c.args.log.now)

pub returns-in-StreamWrite-2-clause-calls : goal.returns-in-StreamWrite-2-clause-calls
returns-in-StreamWrite-2-clause-calls g c =
    made_alone (g.D.Disk.seen c.args.disk.now) (g.D.Disk.seen c.write.new.disk) c.args.log.now
    c.write.new.log c.requires.fresh c.write.ensures.calls

pub returns-in_default-clause-does : goal.returns-in_default-clause-does
returns-in_default-clause-does g c =
    λ blocks rest tells.
    let w = c.args.work.now in
    let s = c.args.store.now in
    let named = (graft_call w.call w.bytes.items (stage_of w) c.in_default.not-StreamRead
    c.in_default.not-StreamWrite c.requires.ready.fits).named in
    came_as _ _ _ _ _ _ _ (length c.piece.new.log)
    (same_piece (call_of w) (stage_of w) (world_of_store s) (objects_of s) blocks w.caller s.ram
    c.args.answer (c.piece.new.log ++ rest) named) refl
    (c.piece.ensures.done.does blocks rest tells)

pub returns-in_default-clause-some : goal.returns-in_default-clause-some
returns-in_default-clause-some g c =
    let w = c.args.work.now in
    let s = c.args.store.now in
    let named = (graft_call w.call w.bytes.items (stage_of w) c.in_default.not-StreamRead
    c.in_default.not-StreamWrite c.requires.ready.fits).named in
    some_as (world_of_store s) _ _ _ _ _ c.piece.new.log
    (λ blocks io.
    same_piece (call_of w) (stage_of w) (world_of_store s) (objects_of s) blocks w.caller s.ram
    c.args.answer io named)
    c.piece.ensures.done.some

pub returns-in_default-clause-gone : goal.returns-in_default-clause-gone
returns-in_default-clause-gone g c =
    λ goes.
    let w = c.args.work.now in
    let new = c.piece.new.work in
    let named = (graft_call w.call w.bytes.items (stage_of w) c.in_default.not-StreamRead
    c.in_default.not-StreamWrite c.requires.ready.fits).named in
    let more = c.piece.ensures.gone goes in
    absurd (no_more (call_of w) (call_of new) w.piece new.piece _ _ w.caller new.caller named
    more.call more.fewer)
