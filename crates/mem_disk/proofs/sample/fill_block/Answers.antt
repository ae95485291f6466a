use Rattle.std.proofs.Common.{arith}
use Rattle.mem_disk.proofs.SampleBlocks.{sample_block-by_each}
use Rattle.mem_disk.proofs.sample.fill_block.Goals as goal

pub returns : goal.returns
returns c =
    sample_block-by_each c.args.b c.loop-i.block c.requires.not_first (omega arith)
    (λ k below. c.loop-i.invariant k (omega arith))
