use Rattle.std.proofs.Common.{◌≡◌, ℕ, ◌+◌, ◌*◌, cond, ◌&&◌, nat_le, nat_lt, slice_index_or, None}
use Rattle.process_table.proofs.arrays.close_files.Given as goal

abbrev pub invariant-loop-fd : goal.invariant-loop-fd
invariant-loop-fd l =
    (i : ℕ) → slice_index_or l.files i None ≡ cond (nat_le (4 * l.p) i && nat_lt i (4 * l.p + l.fd))
    None (slice_index_or l.initial.files i None)
