-- So many of these objects were added.
use Rattle.std.proofs.Common.{◌≡◌, ◌++◌, map}
use Rattle.std.specs.List.{range_with_len}
use Rattle.kernel_model.specs.declared.Object.TheVariants.{OpenFile}
use Rattle.kernel_model.specs.Needs.{exclusive}
use Rattle.audit_needs.proofs.lists.files.Given as goal

abbrev pub invariant-loop-fd : goal.invariant-loop-fd
invariant-loop-fd l = l.out.items ≡ l.fn.out.items ++ map (λ fd. exclusive (OpenFile l.p fd)) (range_with_len 0 l.fd)
