use Rattle.std.proofs.Common.{◌≡◌, reverse, take}
use Rattle.undo_calls.specs.UndoLevels.{owner_by}
use Rattle.undo_calls.proofs.owner_at.Given as goal

abbrev pub invariant-loop-level : goal.invariant-loop-level
invariant-loop-level l = l.owner ≡ owner_by (reverse (take l.level l.marks)) l.i
