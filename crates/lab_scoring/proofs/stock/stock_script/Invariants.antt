use Rattle.std.proofs.Common.{◌≡◌, ◌++◌, length}
use Rattle.lab_scoring.specs.Stock as spec
use Rattle.lab_scoring.proofs.stock.stock_script.Given as goal

-- the lines so far, and those that are left
abbrev pub invariant-loop-line : goal.invariant-loop-line
invariant-loop-line l =
    spec.stock_of l.gives l.script ≡ l.text.items ++ spec.kept_lines l.gives l.above l.lines

abbrev pub decreases-loop-line : goal.decreases-loop-line
decreases-loop-line l = length l.lines
