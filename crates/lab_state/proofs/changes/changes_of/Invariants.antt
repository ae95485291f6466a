use Rattle.std.proofs.Common.{◌+◌, ◌-◌, ◌≤◌, length}
use Rattle.lab_state.proofs.changes.changes_of.Given as goal

abbrev pub invariant-loop-i : goal.invariant-loop-i
invariant-loop-i l = (l.i ≤ length l.before) × (l.j ≤ length l.now)

abbrev pub decreases-loop-i : goal.decreases-loop-i
decreases-loop-i l = (length l.before - l.i) + (length l.now - l.j)
