use Rattle.std.proofs.Common.{◌<◌, length, IfSome}
use Rattle.lab_likeness.proofs.most_like.Given as goal

abbrev pub invariant-loop-i : goal.invariant-loop-i
invariant-loop-i l = IfSome l.found (λ i. i < length l.names)
