use Rattle.std.proofs.Common.{◌≡◌, take, drop, map, ◌++◌}
use Rattle.audit_state.specs.Rows.{row_through, handed}
use Rattle.audit_state.proofs.lists.hand_over.Given as goal

abbrev pub invariant-loop-row : goal.invariant-loop-row
invariant-loop-row l =
    l.row-items ≡ map (row_through (handed l.from l.to))
    (take l.row-index l.initial.row-items) ++ drop l.row-index l.initial.row-items
