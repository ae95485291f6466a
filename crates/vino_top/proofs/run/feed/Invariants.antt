-- The bytes before the place were fed.
use Rattle.vino_top.specs.Standing.{seen_of}
use Rattle.std.proofs.Common.{◌≤◌, ◌-◌, false, length, take}
use Rattle.vino_base.specs.Streams.{IsUsed}
use Rattle.script_text.specs.Syntax.{words_seen}
use Rattle.vino_top.specs.Run.{place_with, Feeds}
use Rattle.vino_top.specs.Bounds.{IsSessionOver}
use Rattle.vino_top.proofs.run.feed.Given as goal

abbrev pub invariant-loop-at : goal.invariant-loop-at
invariant-loop-at g l =
    record {
      fed : Feeds (place_with (words_seen l.own) g.C.Meaning.Rules.meaning l.keys (g.D.Disk.seen l.fn.disk).size)
          (seen_of l.fn.reader.session)
          (seen_of l.reader.session) l.fn.reader.line l.reader.line (take l.at l.bytes)
          (g.K.Sink.seen l.fn.out).got (g.K.Sink.seen l.out).got
          (g.D.Disk.seen l.fn.disk) (g.D.Disk.seen l.disk);
      within : IsSessionOver g.C.Meaning.Rules.meaning (g.D.Disk.seen l.disk).size l.reader.session;
      sink : IsUsed (g.K.Sink.seen l.fn.out).device (g.K.Sink.seen l.out).device false;
      inside : l.at ≤ length l.bytes;
    }

abbrev pub decreases-loop-at : goal.decreases-loop-at
decreases-loop-at g l = length l.bytes - l.at
