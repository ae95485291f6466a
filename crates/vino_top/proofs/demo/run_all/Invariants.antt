-- Some lines were run, and the others are to come.
use Rattle.std.proofs.Common.{length}
use Rattle.vino_top.specs.Standing.{seen_of}
use Rattle.vino_top.specs.Bounds.{IsSessionWithin}
use Rattle.vino_top.specs.Demos.{demo_place, DemoReached}
use Rattle.vino_top.proofs.demo.run_all.Given as goal

abbrev pub invariant-lines : goal.invariant-lines
invariant-lines g l =
    record {
      reached : DemoReached (demo_place (g.D.Disk.seen l.fn.disk).size) l.fn.lines l.lines
          (seen_of l.fn.run.session) (seen_of l.run.session)
          (g.D.Disk.seen l.fn.disk) (g.D.Disk.seen l.disk)
          l.run.tally;
      within : IsSessionWithin (g.D.Disk.seen l.disk).size l.run.session;
    }

abbrev pub decreases-lines : goal.decreases-lines
decreases-lines g l = length l.lines
