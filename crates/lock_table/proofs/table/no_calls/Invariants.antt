use Rattle.std.proofs.Common.{◌≡◌, ◌≤◌, ◌-◌, length}
use Rattle.lock_table.proofs.Places.{IsFree}
use Rattle.lock_table.proofs.table.no_calls.Given as goal

abbrev pub invariant-loop-alloc : goal.invariant-loop-alloc
invariant-loop-alloc l = record {
  size : length l.calls.items ≤ l.count;
  none : IsFree l.calls.items;
  room : l.calls.room ≡ l.count;
}

abbrev pub decreases-loop-alloc : goal.decreases-loop-alloc
decreases-loop-alloc l = l.count - length l.calls.items
