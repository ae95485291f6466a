-- Each record is taken out of the innermost level.
use Rattle.std.specs.Prelude.{length}
use Rattle.undo_calls.specs.UndoLevels.{innermost}
use Rattle.graft_levels.proofs.drops.+undo_records.Given as goal

abbrev pub decreases-undo_records : goal.decreases-undo_records
decreases-undo_records g l = length (innermost l.undo.now)
