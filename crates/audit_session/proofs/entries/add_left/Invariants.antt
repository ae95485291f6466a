-- The lines of the calls of the processes before the place.
use Rattle.std.proofs.Common.{◌≡◌, ◌++◌}
use Rattle.audit_kernel.specs.Runs.{kernel_of}
use Rattle.audit_session.proofs.Lines.{first_lines}
use Rattle.audit_session.proofs.entries.add_left.Given as goal

abbrev pub invariant-loop-p : goal.invariant-loop-p
invariant-loop-p l = l.out ≡ l.fn.out ++ first_lines (kernel_of l.run) l.p
