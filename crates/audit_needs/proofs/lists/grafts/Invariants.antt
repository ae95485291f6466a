-- So many of these objects were added.
use Rattle.std.proofs.Common.{◌≡◌, ◌++◌, map}
use Rattle.std.specs.List.{range_with_len}
use Rattle.kernel_model.specs.declared.Object.TheVariants.{Graft}
use Rattle.kernel_model.specs.Needs.{exclusive}
use Rattle.audit_needs.proofs.lists.grafts.Given as goal

abbrev pub invariant-loop-pt : goal.invariant-loop-pt
invariant-loop-pt l = l.out.items ≡ l.fn.out.items ++ map (λ pt. exclusive (Graft l.p pt)) (range_with_len 0 l.pt)
