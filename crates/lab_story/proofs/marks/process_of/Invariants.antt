use Rattle.std.proofs.Common.{◌≡◌, drop}
use Rattle.lab_story.specs.Bars.{process_of}
use Rattle.lab_story.proofs.marks.process_of.Given as goal

abbrev pub invariant-loop-bar : goal.invariant-loop-bar
invariant-loop-bar l = process_of l.call (drop l.bar-index l.bars) ≡ process_of l.call l.bars
