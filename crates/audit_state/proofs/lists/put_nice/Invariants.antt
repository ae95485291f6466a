use Rattle.std.proofs.Common.{◌≡◌, take, drop, ◌++◌}
use Rattle.kernel_model.specs.Access.{with_nice}
use Rattle.audit_state.proofs.lists.put_nice.Given as goal

abbrev pub invariant-loop-row : goal.invariant-loop-row
invariant-loop-row l =
    l.row-items ≡ with_nice l.q l.v (take l.row-index l.initial.row-items) ++ drop l.row-index l.initial.row-items
