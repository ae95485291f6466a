use Rattle.std.proofs.Common.{arith}
use Rattle.mem_disk.proofs.Blocks.{length-blocks_of}
use Rattle.mem_disk.proofs.disk.start_of.Goals as goal

pub returns-clause-bound : goal.returns-clause-bound
returns-clause-bound c = omega (arith, length-blocks_of c.args.bytes.now)
