use Rattle.std.proofs.Common.{◌≡◌, ◌^◌, ◌-◌, min, map, sum, take}
use Rattle.lab_counts.specs.Notes as spec
use Rattle.lab_counts.proofs.counts.sum_taken.Given as goal

abbrev pub invariant-loop-note : goal.invariant-loop-note
invariant-loop-note l =
    l.sum ≡ min (sum (map spec.taken_in (take l.note-index l.notes))) (2 ^ 64 - 1)
