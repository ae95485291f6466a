-- So many of these objects were added.
use Rattle.std.proofs.Common.{◌≡◌, ◌++◌, map}
use Rattle.std.specs.List.{range_with_len}
use Rattle.kernel_model.specs.declared.Object.TheVariants.{OpenFile}
use Rattle.kernel_model.specs.Needs.{exclusive}
use Rattle.call_needs.proofs.needs.Needs.files.Given as goal

abbrev pub invariant-loop-fd : goal.invariant-loop-fd
invariant-loop-fd l = l.self ≡ l.fn.self ++ map (λ fd. exclusive (OpenFile l.p fd)) (range_with_len 0 l.fd)
