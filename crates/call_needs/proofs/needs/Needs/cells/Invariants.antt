-- So many of these objects were added.
use Rattle.std.proofs.Common.{◌≡◌, ◌++◌, map}
use Rattle.std.specs.List.{range_with_len}
use Rattle.kernel_model.specs.declared.Object.TheVariants.{Cell}
use Rattle.kernel_model.specs.Needs.{exclusive}
use Rattle.call_needs.proofs.needs.Needs.cells.Given as goal

abbrev pub invariant-loop-k : goal.invariant-loop-k
invariant-loop-k l = l.self ≡ l.fn.self ++ map (λ k. exclusive (Cell l.p k)) (range_with_len 0 l.k)
