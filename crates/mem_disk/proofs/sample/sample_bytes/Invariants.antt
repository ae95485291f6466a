use Rattle.std.proofs.Common.{◌≡◌, ◌*◌, length, map}
use Rattle.std.specs.List.{range_with_len}
use Rattle.kernel_data.specs.Directory.{sample_block}
use Rattle.mem_disk.specs.DiskState.{blocks_in}
use Rattle.mem_disk.proofs.sample.sample_bytes.Given as goal

abbrev pub invariant-loop-b : goal.invariant-loop-b
invariant-loop-b l = record {
  value : blocks_in l.bytes.items l.b ≡ map sample_block (range_with_len 0 l.b);
  len : length l.bytes.items ≡ 512 * l.b;
}
