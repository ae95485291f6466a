use Rattle.std.proofs.Common.{◌≡◌, take, drop, ◌++◌}
use Rattle.kernel_model.specs.Pieces.{add_slice}
use Rattle.process_table.proofs.arrays.count_slice.Given as goal

abbrev pub invariant-loop-row : goal.invariant-loop-row
invariant-loop-row l = l.rows ≡ add_slice l.p (take l.row-index l.initial.rows) ++ drop l.row-index l.initial.rows
