use Rattle.box_rewriter.proofs.Places.{Passed}
use Rattle.box_rewriter.proofs.boxed_places.Given as goal

abbrev pub invariant-loop-i : goal.invariant-loop-i
invariant-loop-i l = Passed l.code l.i-index l.place l.places.items
