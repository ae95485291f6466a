use Rattle.std.proofs.Common.{ℕ, ◌+◌, slice_range, [], ap, sym, ◌∙◌}
use Rattle.mem_disk.proofs.Blocks.{get_or-blocks_of}
use Rattle.mem_disk.proofs.disk.block_at.Goals as goal

pub returns : goal.returns
returns c =
    c.in-Ok.ensures.1.same ∙ ap (λ (s : ℕ). slice_range c.args.bytes.now s (s + 512)) c.start_of-start.ensures.value
    ∙ sym (get_or-blocks_of c.args.bytes.now c.args.b [] c.requires)
