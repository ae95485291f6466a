-- So many of these objects were added.
use Rattle.std.proofs.Common.{◌≡◌, ◌++◌, map}
use Rattle.std.specs.List.{range_with_len}
use Rattle.kernel_model.specs.declared.Object.TheVariants.{Lock}
use Rattle.kernel_model.specs.Needs.{exclusive}
use Rattle.audit_needs.proofs.lists.locks.Given as goal

abbrev pub invariant-loop-u : goal.invariant-loop-u
invariant-loop-u l = l.out.items ≡ l.fn.out.items ++ map (λ u. exclusive (Lock u)) (range_with_len 0 l.u)
