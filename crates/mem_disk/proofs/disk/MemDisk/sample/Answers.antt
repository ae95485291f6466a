use Rattle.std.proofs.Common.{arith}
use Rattle.mem_disk.proofs.Blocks.{blocks_of-counted}
use Rattle.mem_disk.proofs.disk.MemDisk.sample.Goals as goal

pub returns-in-Ok : goal.returns-in-Ok
returns-in-Ok c =
    let told = blocks_of-counted c.in-Ok.bytes.items 64 (omega (arith, c.in-Ok.ensures.len)) in
    cc (c.from_bytes.ensures, told, c.in-Ok.ensures.value)
