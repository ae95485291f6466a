-- The rows so far are the first.
use Rattle.std.proofs.Common.{◌≡◌, take}
use Rattle.kernel_state.proofs.shown.copy_of.Given as goal

abbrev pub invariant-loop-row : goal.invariant-loop-row
invariant-loop-row l = l.copy ≡ take l.row-index l.rows
