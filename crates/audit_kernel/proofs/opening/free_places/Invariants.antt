use Rattle.std.proofs.Common.{◌≡◌, ℕ, None, slice_index_or}
use Rattle.audit_kernel.proofs.opening.free_places.Given as goal

-- no place has a call
abbrev pub invariant-loop : goal.invariant-loop
invariant-loop l = (q : ℕ) → slice_index_or l.places.items q None ≡ None
