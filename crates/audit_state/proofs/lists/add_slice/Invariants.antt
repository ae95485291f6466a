use Rattle.std.proofs.Common.{◌≡◌, take, drop, ◌++◌}
use Rattle.kernel_model.specs.Pieces as pieces
use Rattle.audit_state.proofs.lists.add_slice.Given as goal

abbrev pub invariant-loop-row : goal.invariant-loop-row
invariant-loop-row l =
    l.row-items ≡ pieces.add_slice l.q (take l.row-index l.initial.row-items) ++ drop l.row-index l.initial.row-items
