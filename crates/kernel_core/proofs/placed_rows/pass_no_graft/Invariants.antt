-- The places so far had no row.
use Rattle.std.proofs.Common.{◌-◌}
use Rattle.running_kernel.specs.Views.{placed_of}
use Rattle.kernel_core.specs.declared.placed_rows.Section.TheVariants.{Grafts}
use Rattle.kernel_core.specs.PlacedSections.{IsPassed}
use Rattle.kernel_core.proofs.placed_rows.pass_no_graft.Given as goal

abbrev pub invariant-loop-at : goal.invariant-loop-at
invariant-loop-at g l = IsPassed (placed_of l.running) Grafts l.initial.at l.at

abbrev pub decreases-loop-at : goal.decreases-loop-at
decreases-loop-at g l = 256 - l.at.place
