use Rattle.std.proofs.Common.{◌≡◌, ℕ, ◌<◌, ◌-◌, true}
use Rattle.kernel_model.specs.Policies.{lives}
use Rattle.kernel_model.specs.Needs.{free_process}
use Rattle.process_table.proofs.arrays.least_free.Given as goal

abbrev pub invariant-loop-p : goal.invariant-loop-p
invariant-loop-p l = record {
  rest : free_process l.rows (16 - l.p) l.p ≡ free_process l.rows 16 0;
  below : (q : ℕ) → q < l.p → lives l.rows q ≡ true;
}
