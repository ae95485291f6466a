use Rattle.std.proofs.Common.{◌≡◌, ◌++◌, flat_map, take}
use Rattle.lab_scoring.specs.Ranking as spec
use Rattle.lab_scoring.proofs.telling.append_lines.Given as goal

abbrev pub invariant-loop-entry : goal.invariant-loop-entry
invariant-loop-entry l =
    l.out.items ≡ l.initial.out.items ++ flat_map (spec.line_of l.most l.all) (take l.entry-index l.all)
