use Rattle.std.proofs.Common.{◌≡◌, ◌==◌, take}
use Rattle.graft_code.specs.World.{same_bytes}
use Rattle.graft_loader.proofs.mac.is_same.Given as goal

abbrev pub invariant-loop-i : goal.invariant-loop-i
invariant-loop-i l = (l.differing == 0) ≡ same_bytes (take l.i l.x) (take l.i l.y)
