use Rattle.std.proofs.Common.{◌≡◌, take}
use Rattle.lab_matching.specs.Matching.{sequence_of}
use Rattle.lab_matching.proofs.judging.sequence_of.Given as goal

abbrev pub invariant-loop-want : goal.invariant-loop-want
invariant-loop-want l =
    l.sequence.items ≡ sequence_of ((take l.want-index l.wants))
