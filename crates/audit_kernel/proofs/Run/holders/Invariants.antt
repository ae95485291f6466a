use Rattle.audit_kernel.specs.Runs.{kernel_of}
use Rattle.audit_kernel.proofs.Holding.{AreSoFar}
use Rattle.audit_kernel.proofs.Run.holders.Given as goal

-- the processes that were looked at, as far as they have a level, with those that are left
abbrev pub invariant-loop-q : goal.invariant-loop-q
invariant-loop-q l = AreSoFar (kernel_of l.self) l.holders.items l.q
