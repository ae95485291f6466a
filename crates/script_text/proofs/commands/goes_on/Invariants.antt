-- The bytes before the place are the same: what those from it on answer, all answer.
use Rattle.std.proofs.Common.{◌≡◌, ◌≤◌, length, drop}
use Rattle.script_model.specs.World.{same_bytes}
use Rattle.script_text.specs.Words.{front_word}
use Rattle.script_text.proofs.commands.goes_on.Given as goal

abbrev pub invariant-loop-i : goal.invariant-loop-i
invariant-loop-i l = record {
  long : length l.ending ≤ length l.rest;
  inside : l.i ≤ length l.ending;
  rest : same_bytes (drop l.i l.ending) (front_word (drop l.i l.rest)) ≡ same_bytes l.ending (front_word l.rest);
}
