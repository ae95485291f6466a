use Rattle.std.proofs.Common.{◌≡◌, ◌≤◌, ◌++◌, length, drop}
use Rattle.lab_levels.specs.Lines.{lines_in}
use Rattle.lab_levels.specs.Woven.{woven}
use Rattle.lab_levels.proofs.woven.weave_lines.Given as goal

abbrev pub invariant-loop-line : goal.invariant-loop-line
invariant-loop-line l =
    (l.at ≤ length l.kernel)
    × (woven l.kernel 0 (lines_in l.texts l.lines)
    ≡ l.out.items ++ woven l.kernel l.at (lines_in l.texts (drop l.line-index l.lines)))
