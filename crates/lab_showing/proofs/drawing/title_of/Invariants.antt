use Rattle.std.proofs.Common.{length}
use Rattle.lab_showing.proofs.drawing.title_of.Given as goal

abbrev pub decreases-loop-part : goal.decreases-loop-part
decreases-loop-part l = length l.parts

abbrev pub decreases-loop-word : goal.decreases-loop-word
decreases-loop-word l = length l.words
