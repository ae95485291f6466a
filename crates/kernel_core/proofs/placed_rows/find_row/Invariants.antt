-- The same rows are left as from the first place on. Each step passes a place or a section.
use Rattle.std.proofs.Common.{◌+◌, ◌-◌, ◌*◌}
use Rattle.running_kernel.specs.Views.{placed_of}
use Rattle.kernel_core.proofs.RowPlaceLemmas.{IsAlike}
use Rattle.kernel_core.proofs.placed_rows.find_row.Given as goal

abbrev pub invariant-loop-at : goal.invariant-loop-at
invariant-loop-at g l = IsAlike (placed_of l.running) l.initial.at l.at

abbrev pub decreases-loop-at : goal.decreases-loop-at
decreases-loop-at g l = 257 * (12 - l.at.section) + (256 - l.at.place)
