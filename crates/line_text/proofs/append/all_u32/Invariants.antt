use Rattle.std.proofs.Common.{◌≡◌, ◌≤◌, ◌+◌, ◌*◌, ◌++◌, take}
use Rattle.script_model.specs.Text.{all_spaced}
use Rattle.line_text.proofs.append.all_u32.Given as goal

abbrev pub invariant-loop-n : goal.invariant-loop-n
invariant-loop-n l = record {
  text : take l.at l.out ≡ take l.initial.at l.initial.out ++ all_spaced (take l.n-index l.ns);
  end : l.at ≤ l.initial.at + 11 * l.n-index;
}
