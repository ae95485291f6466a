use Rattle.std.proofs.Common.{◌≡◌, ◌+◌, ◌-◌, suc, refl, arith}
use Rattle.audit_pieces.specs.Stores.{objects_of, blocks_of}
use Rattle.audit_pieces.proofs.Syncing.{one_synced, all_synced}
use Rattle.audit_pieces.proofs.Store.sync_piece.Goals as goal

pub loop-f-preserved : goal.loop-f-preserved
loop-f-preserved c =
    let frames = c.args.turn.now.world.now.frames in
    let f = c.loop-f.f in
    let n = frames - (f + 1) in
    let less : frames - f ≡ suc n = omega arith in
    one_synced (objects_of c.loop-f.self) (objects_of c.sync_one.new.self) (blocks_of c.loop-f.self)
    (blocks_of c.sync_one.new.self) (frames - f) n f c.from.result (f + 1) c.loop-f.written
    c.in_ok-written.written _ less c.from.ensures refl c.in_ok-written.ensures c.loop-f.invariant

pub returns : goal.returns
returns c = λ t.
    let frames = c.args.turn.now.world.now.frames in
    let f = c.loop-f.f in
    let none : frames - f ≡ 0 = omega arith in
    all_synced c.loop-f.self t c.ends_with.result (frames - f) f c.loop-f.written _ none
    c.ends_with.ensures.gave (c.ends_with.ensures.after t) c.loop-f.invariant
