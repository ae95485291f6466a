use Rattle.std.proofs.Common.{◌≡◌, ◌+◌, ◌≤◌, length}
use Rattle.graft_texts.specs.Assembler.{with_lines, empty_assembly, lines_of}
use Rattle.gm_asm.proofs.assembly.read_lines.Given as goal

abbrev pub invariant-loop-line : goal.invariant-loop-line
invariant-loop-line l =
    record {
      said : with_lines 1 empty_assembly (lines_of l.fn.text) ≡ with_lines l.number l.assembly l.lines;
      few : l.number + length l.lines ≤ 16777218;
    }

abbrev pub decreases-loop-line : goal.decreases-loop-line
decreases-loop-line l = length l.lines
