use Rattle.std.proofs.Common.{◌≡◌, take}
use Rattle.kernel_state.proofs.cache.bytes_from.Given as goal

abbrev pub invariant-loop-byte : goal.invariant-loop-byte
invariant-loop-byte l = l.bytes ≡ take l.byte-index l.from
