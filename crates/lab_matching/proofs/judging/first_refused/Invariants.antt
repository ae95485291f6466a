use Rattle.std.proofs.Common.{◌≡◌, drop}
use Rattle.std.specs.List.{list_all}
use Rattle.lab_matching.specs.Matching.{is_allowed}
use Rattle.lab_matching.proofs.judging.first_refused.Given as goal

abbrev pub invariant-loop-piece : goal.invariant-loop-piece
invariant-loop-piece l =
    list_all (is_allowed l.wants l.last) l.pieces
    ≡ list_all (is_allowed l.wants l.last) (drop l.piece-index l.pieces)
