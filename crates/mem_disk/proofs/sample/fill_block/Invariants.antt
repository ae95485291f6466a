use Rattle.std.proofs.Common.{◌≡◌, ℕ, ◌<◌, get_or}
use Rattle.kernel_data.specs.Directory.{sample_byte}
use Rattle.mem_disk.proofs.sample.fill_block.Given as goal

abbrev pub invariant-loop-i : goal.invariant-loop-i
invariant-loop-i l = (k : ℕ) → k < l.i → get_or l.block k 0 ≡ sample_byte l.b k
