-- So many rows are passed.
use Rattle.running_kernel.specs.Views.{placed_of}
use Rattle.kernel_core.proofs.RowPlaceLemmas.{IsBehind}
use Rattle.kernel_core.proofs.kernel.Kernel.raw.Given as goal

abbrev pub invariant-loop-before : goal.invariant-loop-before
invariant-loop-before g l = IsBehind (placed_of l.self.running) l.before l.at
