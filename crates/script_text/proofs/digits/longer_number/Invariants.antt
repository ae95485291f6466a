use Rattle.std.proofs.Common.{◌≡◌, ◌<◌, ◌≤◌, ◌^◌, ◌-◌, true, take}
use Rattle.std.specs.List.{list_all}
use Rattle.script_model.specs.Bytes.{digits_value, is_digit}
use Rattle.script_text.proofs.digits.longer_number.Given as goal

abbrev pub invariant-loop-size : goal.invariant-loop-size
invariant-loop-size l = record {
  some : 1 ≤ l.size;
  within : l.size ≤ l.most;
  value : l.n ≡ digits_value (take l.size l.text);
  below : l.n < 10 ^ l.size;
  digits : list_all is_digit (take l.size l.text) ≡ true;
}

abbrev pub decreases-loop-size : goal.decreases-loop-size
decreases-loop-size l = l.most - l.size
