use Rattle.lab_levels.proofs.Origins.{IsBehind}
use Rattle.lab_levels.proofs.code.written_place.Given as goal

abbrev pub invariant-loop-i : goal.invariant-loop-i
invariant-loop-i l = IsBehind l.code l.boxed l.i l.behind
