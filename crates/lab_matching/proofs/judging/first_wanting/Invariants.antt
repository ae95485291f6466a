use Rattle.std.proofs.Common.{◌≡◌, drop}
use Rattle.std.specs.List.{list_all}
use Rattle.lab_reader.specs.declared.sheet.Want.{Want}
use Rattle.lab_matching.specs.Matching.{is_owner_graded}
use Rattle.lab_matching.proofs.judging.first_wanting.Given as goal

abbrev pub invariant-loop-want : goal.invariant-loop-want
invariant-loop-want l =
    list_all (λ (w : Want). is_owner_graded l.wants l.last l.pieces w.owner) l.wants
    ≡ list_all (λ (w : Want). is_owner_graded l.wants l.last l.pieces w.owner)
    (drop l.want-index l.wants)
