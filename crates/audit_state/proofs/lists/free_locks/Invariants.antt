use Rattle.std.proofs.Common.{◌≡◌, take, drop, map, ◌++◌}
use Rattle.kernel_model.specs.Pieces.{freed_by}
use Rattle.audit_state.specs.Rows.{row_through}
use Rattle.audit_state.proofs.lists.free_locks.Given as goal

abbrev pub invariant-loop-row : goal.invariant-loop-row
invariant-loop-row l =
    l.row-items ≡ map (row_through (freed_by l.p))
    (take l.row-index l.initial.row-items) ++ drop l.row-index l.initial.row-items
