-- The bytes of the innermost level's segment.
use Rattle.std.proofs.Common.{◌≡◌, ◌<◌, ◌≤◌, ◌+◌, ◌-◌, ◌*◌, ℕ, List, [], ◌∷◌, length, map}
use Rattle.std.proofs.Common.{option_map, Some, slice_index, arith}
use Rattle.std.proofs.lemmas.Bool.Decides.{nat_tests}
use Rattle.kernel_model.specs.Locks.{LockTable}
use Rattle.kernel_data.specs.Objects.{Things}
use Rattle.graft_levels.specs.UndoLevels.{Logged}
use Rattle.graft_levels.specs.declared.GraftLevel.{GraftLevel}
use Rattle.graft_levels.specs.Chains.{levels_in}
use Rattle.placed_laws.specs.Placed.{PlacedLevel, bare}
use Rattle.running_kernel.specs.Looking.{innermost_level}

-- what stands in memory at a place of the segment of the innermost of some levels
pub byte-of_innermost : (gs : List GraftLevel) (p at : ℕ) (ram : List ℕ) (t : LockTable)
    (log : List (List Logged)) (w : Things)
    → 1 ≤ length gs → at < 4096
    → option_map (λ (l : PlacedLevel). l.machine.memory at) (innermost_level (map bare (levels_in p ram t gs log w)))
    ≡ Some (slice_index ram (262144 + 4096 * (4 * p + (length gs - 1)) + at))
byte-of_innermost [] p at ram t log w h k = grind (arith)
byte-of_innermost (g ∷ gs) p at ram t log w h k = grind (arith, nat_tests)
