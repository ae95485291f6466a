use Rattle.std.proofs.Common.{rules}
use Rattle.mem_disk.proofs.Blocks.{length-blocks_of, length-each_block}
use Rattle.mem_disk.proofs.disk.MemDiskDisk.block.Goals as goal

pub block_at-requires : goal.block_at-requires
block_at-requires c = search (rules, length-blocks_of)

pub returns-clause-whole : goal.returns-clause-whole
returns-clause-whole c = search (rules, length-blocks_of, length-each_block)
