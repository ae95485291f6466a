use Rattle.vino_top.specs.Bounds.{IsSessionWithin}
use Rattle.lab_measure.proofs.run.measure_steps.Given as goal

abbrev pub invariant-loop : goal.invariant-loop
invariant-loop g l = IsSessionWithin (g.D.Disk.seen l.slow.disk.disk).size l.slow.session
