use Rattle.std.proofs.Common.{◌≡◌, ◌≤◌, ◌+◌, ◌*◌, ◌++◌, take, flat_map}
use Rattle.script_model.specs.Text.{frame_text}
use Rattle.line_text.proofs.rows.frame_rows.Given as goal

abbrev pub invariant-loop-r : goal.invariant-loop-r
invariant-loop-r l = record {
  text : take l.at l.out ≡ take l.initial.at l.initial.out ++ flat_map frame_text (take l.r-index l.rows);
  end : l.at ≤ l.initial.at + 27 * l.r-index;
}
