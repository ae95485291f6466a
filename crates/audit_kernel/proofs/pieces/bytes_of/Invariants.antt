use Rattle.std.proofs.Common.{◌≡◌, take}
use Rattle.audit_kernel.proofs.pieces.bytes_of.Given as goal

abbrev pub invariant-loop-item : goal.invariant-loop-item
invariant-loop-item l = l.bytes ≡ take l.item-index l.items
