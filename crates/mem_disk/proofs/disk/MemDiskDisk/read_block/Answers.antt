use Rattle.std.proofs.Common.{rules, [], ap}
use Rattle.std.proofs.lemmas.Option.{slice_get-get_or}
use Rattle.mem_disk.specs.DiskState.{DiskState}
use Rattle.mem_disk.proofs.Blocks.{length-blocks_of}
use Rattle.mem_disk.proofs.disk.MemDiskDisk.read_block.Goals as goal

pub invariant_of-self : goal.invariant_of-self
invariant_of-self c = search (rules, length-blocks_of)

pub invariant_of-self-else-next_fails : goal.invariant_of-self-else-next_fails
invariant_of-self-else-next_fails c = search (rules, length-blocks_of)

pub returns-clause-given : goal.returns-clause-given
returns-clause-given c =
    cc (
      slice_get-get_or c.args.self.now.blocks c.args.b [] c.requires,
      ap (λ (d : DiskState). d.blocks) c.self.view_is,
    )
