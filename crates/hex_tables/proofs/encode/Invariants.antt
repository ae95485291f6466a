use Rattle.std.proofs.Common.{◌≡◌, ◌*◌, ◌++◌, take, drop}
use Rattle.kernel_data.specs.Bytes.{hex_text}
use Rattle.hex_tables.proofs.encode.Given as goal

abbrev pub invariant-bytes : goal.invariant-bytes
invariant-bytes l = take (2 * l.i) l.to ++ hex_text (drop l.i l.bytes) ≡ hex_text l.bytes
