use Rattle.std.proofs.Common.{arith, Option, option_map}
use Rattle.kernel_data.specs.declared.FrameRow.{FrameRow}
use Rattle.buffer_cache.specs.Frames.{handed}
use Rattle.buffer_cache.proofs.Orders.{map_step}
use Rattle.buffer_cache.proofs.frames.change_owner.Goals as goal

pub loop-row-preserved : goal.loop-row-preserved
loop-row-preserved c =
    map_step (λ (r : Option FrameRow). option_map (handed c.args.from c.args.to) r) _ _ _ _ _
    (omega arith) c.loop-row.invariant c.row_for.ensures
