use Rattle.std.proofs.Common.{◌≡◌, ◌<◌, ◌^◌, true, take}
use Rattle.std.specs.List.{list_all}
use Rattle.script_model.specs.Bytes.{digits_value, is_digit}
use Rattle.script_text.proofs.digits.value.Given as goal

abbrev pub invariant-loop-byte : goal.invariant-loop-byte
invariant-loop-byte l = record {
  value : l.n ≡ digits_value (take l.byte-index l.word);
  below : l.n < 10 ^ l.byte-index;
  digits : list_all is_digit (take l.byte-index l.word) ≡ true;
}
