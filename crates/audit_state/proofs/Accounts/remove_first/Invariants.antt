use Rattle.std.proofs.Common.{◌≡◌, ◌-◌}
use Rattle.kernel_model.specs.Pieces.{without_grafts}
use Rattle.audit_state.specs.Accounts.{accounts_of}
use Rattle.audit_state.proofs.Accounts.remove_first.Given as goal

abbrev pub invariant-loop-i : goal.invariant-loop-i
invariant-loop-i l =
    without_grafts l.p (l.count - l.i) (accounts_of l.self)
    ≡ without_grafts l.p l.count (accounts_of l.fn.self)
