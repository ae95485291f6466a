-- Line after line goes on, until there is no memory for one, or none is left.
use Rattle.std.proofs.Common.{◌≡◌}
use Rattle.vino_top.proofs.DemoLemmas.{demo_begins, demo_goes_on, demo_stops, has_room, one_of_few}
use Rattle.vino_top.proofs.demo.run_all.Goals as goal

pub lines-init : goal.lines-init
lines-init g c =
    record {
      reached = demo_begins _ _ _ _ _ c.requires.tally;
      within = c.requires.within;
    }

pub run_one-requires-clause-room : goal.run_one-requires-clause-room
run_one-requires-clause-room g c =
    one_of_few _ _ _ _ _ _ _ _ c.requires.few c.requires.begun.lines c.lines.invariant.reached

pub run_one-requires-clause-tally : goal.run_one-requires-clause-tally
run_one-requires-clause-tally g c = has_room _ _ _ _ _ _ _ _ c.requires.few c.lines.invariant.reached

pub returns-in-Err-clause-err : goal.returns-in-Err-clause-err
returns-in-Err-clause-err g c =
    demo_stops _ _ _ _ c.next.new.line _ _ _ _ _ _ (c.next.ensures.more c.lines-test.true)
    (rw c.as_slice.ensures.value at c.in-Err.ensures.err)
    c.in-Err.ensures.same_disk c.lines.invariant.reached

pub lines-preserved : goal.lines-preserved
lines-preserved g c =
    let size : (g.D.Disk.seen c.lines.disk).size ≡ (g.D.Disk.seen c.args.disk.now).size =
    c.lines.invariant.reached.ran.calls.size in
    record {
      reached =
          demo_goes_on _ _ _ _ c.next.new.line _ _ _ _ _ _ _ _
          (c.next.ensures.more c.lines-test.true) c.lines.invariant.reached
          (rw (c.as_slice.ensures.value, size) at c.in_default.ensures.ok);
      within = c.run_one.ensures.within;
    }
