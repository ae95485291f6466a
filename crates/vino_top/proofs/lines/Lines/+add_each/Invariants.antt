-- Each turn has one note less.
use Rattle.std.proofs.Common.{length}
use Rattle.vino_top.proofs.lines.Lines.+add_each.Given as goal

abbrev pub decreases-add_each : goal.decreases-add_each
decreases-add_each l = length l.list.now
