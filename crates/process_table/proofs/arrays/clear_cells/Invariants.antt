use Rattle.std.proofs.Common.{◌≡◌, ℕ, ◌+◌, ◌*◌, cond, ◌&&◌, nat_le, nat_lt, slice_index}
use Rattle.process_table.proofs.arrays.clear_cells.Given as goal

abbrev pub invariant-loop-k : goal.invariant-loop-k
invariant-loop-k l =
    (i : ℕ) → slice_index l.cells i ≡ cond (nat_le (4 * l.p) i && nat_lt i (4 * l.p + l.k)) 0
    (slice_index l.initial.cells i)
