use Rattle.std.proofs.Common.{◌≡◌, ◌≤◌}
use Rattle.kernel_model.specs.declared.Kind.{Kind}
use Rattle.kernel_model.specs.Pieces.{without_grafts}
use Rattle.graft_accounts.specs.Table.{accounts_of, total}
use Rattle.graft_accounts.proofs.accounts.Accounts.remove_first.Given as goal

abbrev pub decreases-loop-left : goal.decreases-loop-left
decreases-loop-left l = l.left

abbrev pub invariant-loop-left : goal.invariant-loop-left
invariant-loop-left l =
    record {
      few : l.left ≤ 16;
      value : without_grafts l.p l.left (accounts_of l.self)
          ≡ without_grafts l.p l.fn.points (accounts_of l.initial.self);
      sums : (j : Kind) → total (accounts_of l.self) j ≡ total (accounts_of l.initial.self) j;
    }
