use Rattle.std.proofs.Common.{◌≡◌, ◌*◌, take, drop}
use Rattle.kernel_data.specs.Bytes.{hex_bytes}
use Rattle.hex_tables.proofs.Loops.{prepend}
use Rattle.hex_tables.proofs.decode.Given as goal

abbrev pub invariant-pairs : goal.invariant-pairs
invariant-pairs l = hex_bytes l.word ≡ prepend (take l.i l.to) (hex_bytes (drop (2 * l.i) l.word))
