use Rattle.std.proofs.Common.{◌≡◌, ◌++◌, flat_map, take}
use Rattle.lab_state.specs.Quoted as spec
use Rattle.lab_state.proofs.quoted.append_hex.Given as goal

abbrev pub invariant-loop-byte : goal.invariant-loop-byte
invariant-loop-byte l = l.out.items ≡ l.initial.out.items ++ flat_map spec.two_digits (take l.byte-index l.bytes)
