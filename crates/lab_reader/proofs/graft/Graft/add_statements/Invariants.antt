use Rattle.std.proofs.Common.{◌≡◌, ◌==◌, length}
use Rattle.std.specs.List.{slice_split}
use Rattle.lab_reader.specs.Grafts.{with_statements}
use Rattle.lab_reader.proofs.graft.Graft.add_statements.Given as goal

abbrev pub invariant-loop-part : goal.invariant-loop-part
invariant-loop-part l =
    with_statements l.fn.n l.fn.self (slice_split (λ b. b == 59) l.fn.code)
    ≡ with_statements l.fn.n l.self l.parts

abbrev pub decreases-loop-part : goal.decreases-loop-part
decreases-loop-part l = length l.parts
