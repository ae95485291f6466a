use Rattle.std.proofs.Common.{◌≡◌, ℕ, ◌<◌, None, length, slice_index_or}
use Rattle.audit_kernel.specs.Runs.{call_at, IsKept}
use Rattle.audit_kernel.proofs.flights.run_all_again.Given as goal

-- those before are kept, and all calls are as they were
abbrev pub invariant-loop-i : goal.invariant-loop-i
invariant-loop-i l =
    ((q : ℕ) → q < l.i → IsKept l.setting l.store q (slice_index_or l.flights.items q None))
    × ((q : ℕ) → call_at l.flights.items q ≡ call_at l.fn.flights.items q)
    × (length l.flights.items ≡ length l.fn.flights.items)
