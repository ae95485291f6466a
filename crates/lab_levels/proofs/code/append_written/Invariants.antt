use Rattle.std.proofs.Common.{◌≡◌, ◌==◌}
use Rattle.std.specs.List.{slice_split}
use Rattle.lab_levels.proofs.Origins.{IsAhead}
use Rattle.lab_levels.proofs.code.append_written.Given as goal

abbrev pub invariant-loop-number : goal.invariant-loop-number
invariant-loop-number l =
    IsAhead l.number-items (slice_split (λ b. b == 10) l.graft.text) l.k l.number-index l.count l.lines
    × (l.out.items ≡ l.initial.out.items)
