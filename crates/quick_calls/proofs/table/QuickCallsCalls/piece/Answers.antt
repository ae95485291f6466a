use Rattle.std.proofs.Common.{ℕ, List, Option, sym, subst}
use Rattle.kernel_model.specs.World.{Blocks}
use Rattle.call_pieces.specs.Stores.{world_of_store, objects_of}
use Rattle.call_pieces.specs.Works.{call_of, stage_of}
use Rattle.call_pieces.specs.Matching.{PieceMatches, comes_after}
use Rattle.quick_calls.specs.QuickTables.{piece_of_outcome}
use Rattle.quick_calls.proofs.AtOnce.{some_at_once}
use Rattle.quick_calls.proofs.table.QuickCallsCalls.piece.Goals as goal

pub returns-clause-does : goal.returns-clause-does
returns-clause-does g c =
    λ images blocks rest tells.
    let w = c.args.work.now in
    let s = objects_of c.args.store.now in
    let q = piece_of_outcome s blocks (g.T.Quick.table.does (call_of w) s w.caller) in
    let known = (g.D.Disk.seen c.args._disk.now).known in
    rw c.requires.fresh
    (subst (λ (gave : Option (List ℕ)). PieceMatches q (objects_of c.piece.new.store) known gave
    (comes_after c.piece.result (stage_of w)) 0) (sym c.clear.ensures)
    (c.piece.ensures.does blocks known (stage_of w) tells))

pub returns-clause-some : goal.returns-clause-some
returns-clause-some g c =
    λ images.
    let w = c.args.work.now in
    let s = objects_of c.args.store.now in
    let outcome = g.T.Quick.table.does (call_of w) s w.caller in
    some_at_once (world_of_store c.args.store.now) (λ blocks. piece_of_outcome s blocks outcome)
    (objects_of c.piece.new.store) c.clear.new.self (comes_after c.piece.result (stage_of w))
    c.args._log.now c.requires.fresh
    (λ blocks known tells.
    subst (λ (gave : Option (List ℕ)). PieceMatches (piece_of_outcome s blocks outcome)
    (objects_of c.piece.new.store) known gave (comes_after c.piece.result (stage_of w)) 0)
    (sym c.clear.ensures) (c.piece.ensures.does blocks known (stage_of w) tells))
