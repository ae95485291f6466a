use Rattle.lab_picture.proofs.Lanes.{AreNumbered}
use Rattle.lab_picture.proofs.layout.lanes_of.Given as goal

abbrev pub invariant-loop-process : goal.invariant-loop-process
invariant-loop-process l = AreNumbered l.bars l.lanes l.process l.count
