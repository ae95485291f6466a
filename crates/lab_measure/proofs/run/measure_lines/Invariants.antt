use Rattle.std.proofs.Common.{length}
use Rattle.vino_top.specs.Bounds.{IsSessionWithin}
use Rattle.lab_measure.proofs.run.measure_lines.Given as goal

abbrev pub decreases-loop-line : goal.decreases-loop-line
decreases-loop-line g l = length l.lines

abbrev pub invariant-loop-line : goal.invariant-loop-line
invariant-loop-line g l = IsSessionWithin (g.D.Disk.seen l.slow.disk.disk).size l.slow.session
