-- The lines so far, and those of the rows that are left.
use Rattle.std.proofs.Common.{◌≡◌, ◌≤◌, ◌+◌, ◌*◌, ◌++◌, length}
use Rattle.script_model.specs.Text.{row_lines}
use Rattle.placed_laws.specs.PlacedRows.{placed_rows}
use Rattle.running_kernel.specs.Views.{placed_of}
use Rattle.kernel_core.specs.PlacedSections.{most_left, rows_left}
use Rattle.vino_top.proofs.lines.Lines.add_rows.Given as goal

abbrev pub invariant-loop-found : goal.invariant-loop-found
invariant-loop-found g l =
    record {
      lines :
          l.self ++ row_lines l.n (rows_left (placed_of l.kernel.running) l.at)
          ≡ row_lines l.n (placed_rows (placed_of l.kernel.running));
      room : length l.self + 2048 * most_left l.at ≤ 3026944;
    }

abbrev pub decreases-loop-found : goal.decreases-loop-found
decreases-loop-found g l = most_left l.at
