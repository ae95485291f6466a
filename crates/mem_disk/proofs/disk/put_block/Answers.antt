use Rattle.std.proofs.Common.{◌≡◌, ◌+◌, ◌-◌, arith}
use Rattle.mem_disk.proofs.Blocks.{blocks_of-put}
use Rattle.mem_disk.proofs.disk.put_block.Goals as goal

pub returns : goal.returns
returns c =
    let size : c.start_of-start.result + 512 - c.start_of-start.result ≡ 512 = omega arith in
    rw (size, c.start_of-start.ensures.value, c.copy_from_slice.ensures.after)
    (blocks_of-put c.args.bytes.now c.args.from.now c.args.b c.requires c.told-from)
