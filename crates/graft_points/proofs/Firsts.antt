-- The first with the least key, found from the front on.
use Rattle.std.proofs.Common.{ℕ, cond, nat_lt}
use Rattle.std.proofs.Common.{Option, Some, None}

-- the first of one and what was found behind it
abbrev pub better : {A : Type 0} → (A → ℕ) → A → Option A → Option A
better key x o = elim o [ None ↦ Some x | Some y ↦ cond (nat_lt (key y) (key x)) (Some y) (Some x) ]
