-- The newest record is undone, and then those that are left.
use Rattle.std.proofs.Common.{arith, ◌<◌, length, ap}
use Rattle.undo_calls.specs.UndoLevels.{innermost}
use Rattle.undo_calls.specs.Views.{logged_of}
use Rattle.graft_levels.proofs.Undoing.{popped, rest_kept}
use Rattle.graft_levels.proofs.drops.+undo_records.Goals as goal

pub undo_records-requires : goal.undo_records-requires
undo_records-requires g t c =
    let i = logged_of c.in-Some.found in
    let h = popped i c.args.undo.now c.forget_newest.new.self c.in-Some.ensures.value c.forget_newest.ensures in
    let less : length (innermost c.forget_newest.new.self) < length (innermost c.args.undo.now) =
    omega (arith, ap length h.records) in
    let falls : length (innermost c.forget_newest.new.self) < t = omega (arith, less, c.decreases) in
    λ κs alive. (
      falls,
      (
        alive,
        (
          h.level,
          rest_kept i (innermost c.args.undo.now) (innermost
              c.forget_newest.new.self) _ _ h.records c.undo.ensures.kept c.requires.undoable,
        ),
      ),
    )
