use Rattle.std.proofs.Common.{◌≡◌, ◌+◌, ◌≤◌, length}
use Rattle.script_model.specs.Assembler.{lines_of}
use Rattle.lab_reader.specs.Lab.{with_lines, first_lab}
use Rattle.lab_reader.proofs.reader.read_lines.Given as goal

abbrev pub invariant-loop-line : goal.invariant-loop-line
invariant-loop-line l =
    record {
      said : with_lines 1 first_lab (lines_of l.fn.text) ≡ with_lines l.number l.lab l.lines;
      few : l.number + length l.lines ≤ 16777218;
    }

abbrev pub decreases-loop-line : goal.decreases-loop-line
decreases-loop-line l = length l.lines
