use Rattle.std.proofs.Common.{◌≡◌, take}
use Rattle.lab_lines.specs.AsWanted.{wanted_of}
use Rattle.lab_matching.proofs.owners.wants_of.Given as goal

abbrev pub invariant-loop-want : goal.invariant-loop-want
invariant-loop-want l =
    l.texts.items ≡ wanted_of l.owner (take l.want-index l.wants)
