use Rattle.std.proofs.Common.{◌≡◌, drop}
use Rattle.kernel_data.specs.Policies.{nice_of}
use Rattle.kernel_state.proofs.graft_values.nice_in.Given as goal

abbrev pub invariant-loop-row : goal.invariant-loop-row
invariant-loop-row l = nice_of (drop l.row-index l.rows) l.p ≡ nice_of l.rows l.p
