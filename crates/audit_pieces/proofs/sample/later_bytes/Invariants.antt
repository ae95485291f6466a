-- So many bytes were put.
use Rattle.std.proofs.Common.{◌≡◌, map}
use Rattle.std.specs.List.{range_with_len}
use Rattle.kernel_model.specs.Directory.{sample_byte}
use Rattle.audit_pieces.proofs.sample.later_bytes.Given as goal

abbrev pub invariant-loop-i : goal.invariant-loop-i
invariant-loop-i l = l.bytes.items ≡ map (sample_byte l.b) (range_with_len 0 l.i)
