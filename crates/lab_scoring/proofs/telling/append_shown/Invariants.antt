use Rattle.std.proofs.Common.{◌≡◌, ◌++◌, map, take}
use Rattle.lab_scoring.specs.Ranking as spec
use Rattle.lab_scoring.proofs.telling.append_shown.Given as goal

abbrev pub invariant-loop-byte : goal.invariant-loop-byte
invariant-loop-byte l =
    l.out.items ≡ l.initial.out.items ++ map spec.shown (take l.byte-index l.name)
