use Rattle.kernel_state.specs.Joined.{made_alone}
use Rattle.call_pieces.proofs.pieces.piece.Goals as goal

pub returns-clause-calls : goal.returns-clause-calls
returns-clause-calls g c =
    made_alone (g.D.Disk.seen c.args.disk.now) (g.D.Disk.seen c.bare_piece.new.disk)
    c.args.log.now c.bare_piece.new.log c.requires.disk.fresh
    c.bare_piece.ensures.done.calls
