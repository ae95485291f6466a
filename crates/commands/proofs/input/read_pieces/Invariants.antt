-- The source gave what was taken so far.
use Rattle.std.proofs.Common.{◌+◌, ◌-◌, ◌<◌, ◌≤◌, false, length}
use Rattle.std.specs.Io.KnownBytes.{Consumes}
use Rattle.script_model.specs.Outcome.{SCRIPT_BYTES}
use Rattle.vino_base.specs.Streams.{IsUsed}
use Rattle.commands.proofs.input.read_pieces.Given as goal

abbrev pub invariant-loop-input : goal.invariant-loop-input
invariant-loop-input g l =
    record {
      within : length l.input.items ≤ SCRIPT_BYTES + 1;
      consumed : Consumes (g.S.Source.seen l.fn.src).rest (g.S.Source.seen l.src).rest l.input.items;
      used : IsUsed (g.S.Source.seen l.fn.src).device (g.S.Source.seen l.src).device false;
      room : 0 < length l.buf;
    }

abbrev pub decreases-loop-input : goal.decreases-loop-input
decreases-loop-input g l = SCRIPT_BYTES + 1 - length l.input.items
