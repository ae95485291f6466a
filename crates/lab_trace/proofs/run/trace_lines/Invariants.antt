use Rattle.vino_top.specs.Bounds.{IsSessionWithin}
use Rattle.lab_trace.proofs.run.trace_lines.Given as goal

abbrev pub invariant-loop-i : goal.invariant-loop-i
invariant-loop-i g l = IsSessionWithin (g.D.Disk.seen l.slow.disk).size l.slow.session
