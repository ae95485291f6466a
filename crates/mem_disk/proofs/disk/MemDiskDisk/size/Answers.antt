use Rattle.std.proofs.Common.{rules}
use Rattle.mem_disk.proofs.Blocks.{length-blocks_of, length-each_block}
use Rattle.mem_disk.proofs.disk.MemDiskDisk.size.Goals as goal

pub returns-clause-count : goal.returns-clause-count
returns-clause-count c = search (rules, length-blocks_of)

pub returns-clause-known : goal.returns-clause-known
returns-clause-known c = search (rules, length-blocks_of)

pub returns-clause-whole : goal.returns-clause-whole
returns-clause-whole c = search (rules, length-blocks_of, length-each_block)
