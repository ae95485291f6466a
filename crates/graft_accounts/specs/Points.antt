-- The points of the processes.
use Rattle.std.specs.Prelude.{ℕ, ◌+◌, ◌*◌}
use Rattle.graft_accounts.specs.declared.points.GraftPoint.{GraftPoint}

-- the place of a point among those of all processes
abbrev pub place_of : GraftPoint → ℕ
place_of at = 16 * at.process + at.point
