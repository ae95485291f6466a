use Rattle.event_points.proofs.LeftLaws.{some_at_once}
use Rattle.event_points.proofs.calls.EventPointsCalls.piece.Goals as goal

pub returns-clause-does : goal.returns-clause-does
returns-clause-does g c =
    λ images blocks rest tells.
    rw c.requires.fresh (c.piece.ensures.does blocks (g.D.Disk.seen c.args._disk.now).known tells)

pub returns-clause-some : goal.returns-clause-some
returns-clause-some g c =
    λ images. some_at_once _ _ _ _ _ _ c.requires.fresh c.piece.ensures.does
