-- The sink has what stands before the place.
use Rattle.std.proofs.Common.{false, length, ◌-◌, ◌≤◌, take}
use Rattle.std.specs.Io.KnownBytes.{Appends}
use Rattle.vino_base.specs.Streams.{IsUsed}
use Rattle.vino_base.proofs.output.write_all.Given as goal

abbrev pub invariant-loop-at : goal.invariant-loop-at
invariant-loop-at g l =
    record {
      within : l.at ≤ length l.bytes;
      used : IsUsed (g.K.Sink.seen l.fn.out).device (g.K.Sink.seen l.out).device false;
      appended : Appends (g.K.Sink.seen l.fn.out).got (g.K.Sink.seen l.out).got (take l.at l.bytes);
    }

abbrev pub decreases-loop-at : goal.decreases-loop-at
decreases-loop-at g l = length l.bytes - l.at
