use Rattle.std.proofs.Common.{◌≡◌, take, drop, ◌++◌}
use Rattle.kernel_model.specs.Access.{with_nice}
use Rattle.process_table.proofs.arrays.put_nice.Given as goal

abbrev pub invariant-loop-row : goal.invariant-loop-row
invariant-loop-row l = l.rows ≡ with_nice l.p l.v (take l.row-index l.initial.rows) ++ drop l.row-index l.initial.rows
