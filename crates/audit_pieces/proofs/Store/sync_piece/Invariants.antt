-- What is left leads where all of it leads.
use Rattle.std.proofs.Common.{◌≡◌, ◌-◌, []}
use Rattle.kernel_model.specs.FilePieces.{sync_from}
use Rattle.audit_pieces.specs.Stores.{objects_of, blocks_of}
use Rattle.audit_pieces.proofs.Store.sync_piece.Given as goal

abbrev pub invariant-loop-f : goal.invariant-loop-f
invariant-loop-f l =
    let frames = l.turn.world.now.frames in
    sync_from (frames - l.f) l.f l.written (objects_of l.self) (blocks_of l.self) []
    ≡ sync_from frames 0 0 (objects_of l.fn.self) (blocks_of l.fn.self) []
