-- What was taken so far was fed, and no line was refused.
use Rattle.vino_top.specs.Standing.{seen_of}
use Rattle.std.proofs.Common.{◌≡◌, ◌<◌, length, false}
use Rattle.vino_base.specs.Streams.{IsUsed}
use Rattle.script_text.specs.Syntax.{words_seen}
use Rattle.vino_top.specs.Run.{place_with, Reached}
use Rattle.vino_top.specs.Bounds.{IsSessionOver}
use Rattle.vino_top.proofs.run.run_to_end.Given as goal

abbrev pub invariant-loop-left : goal.invariant-loop-left
invariant-loop-left g l =
    record {
      reached : Reached (place_with (words_seen l.loading.own.now) g.C.Meaning.Rules.meaning
          l.loading.keys.now (g.D.Disk.seen l.fn.disk).size)
          (seen_of l.fn.reader.session) (seen_of l.reader.session) (g.S.Source.seen l.fn.src).rest
          (g.S.Source.seen l.src).rest (g.K.Sink.seen l.fn.out).got (g.K.Sink.seen l.out).got
          (g.D.Disk.seen l.fn.disk) (g.D.Disk.seen l.disk)
          l.reader.line l.left;
      within : IsSessionOver g.C.Meaning.Rules.meaning (g.D.Disk.seen l.disk).size l.reader.session;
      going : l.reader.session.refused ≡ false;
      source : IsUsed (g.S.Source.seen l.fn.src).device (g.S.Source.seen l.src).device false;
      sink : IsUsed (g.K.Sink.seen l.fn.out).device (g.K.Sink.seen l.out).device false;
      room : 0 < length l.buf;
    }

abbrev pub decreases-loop-left : goal.decreases-loop-left
decreases-loop-left g l = l.left
