use Rattle.std.proofs.Common.{◌≡◌, drop}
use Rattle.std.specs.List.{list_all}
use Rattle.lab_matching.specs.Matching.{is_met}
use Rattle.lab_matching.proofs.judging.are_met.Given as goal

abbrev pub invariant-loop-want : goal.invariant-loop-want
invariant-loop-want l =
    list_all (is_met (l.lines)) (l.wants)
    ≡ list_all (is_met (l.lines)) ((drop l.want-index l.wants))
