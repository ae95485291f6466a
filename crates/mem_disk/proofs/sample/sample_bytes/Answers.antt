use Rattle.std.proofs.Common.{◌≡◌, ◌<◌, arith, ap, ◌∙◌, length}
use Rattle.kernel_data.specs.Directory.{sample_directory}
use Rattle.mem_disk.proofs.SampleBlocks.{first-block, length-sample_directory, more-blocks, more-bytes}
use Rattle.mem_disk.proofs.sample.sample_bytes.Goals as goal

pub loop-b-init : goal.loop-b-init
loop-b-init c =
    let is : c.append_directory.new.bytes.items ≡ sample_directory =
    cc (c.in_ok-append_directory.ensures, c.in_ok-bytes.ensures.items) in
    record { value = first-block c.append_directory.new.bytes.items is; len = ap length is ∙ length-sample_directory }

pub loop-b-preserved : goal.loop-b-preserved
loop-b-preserved c =
    let later : 0 < c.loop-b.b = omega arith in
    record {
      value =
          more-blocks c.loop-b.bytes.items c.append_block.new.bytes.items c.loop-b.b later
          c.loop-b.invariant.len c.in_ok-append_block.ensures c.loop-b.invariant.value;
      len =
          more-bytes c.loop-b.bytes.items c.append_block.new.bytes.items c.loop-b.b later
          c.loop-b.invariant.len c.in_ok-append_block.ensures;
    }
