use Rattle.std.proofs.Common.{◌≡◌, take, drop, map, ◌++◌, Option, option_map}
use Rattle.kernel_data.specs.declared.FrameRow.{FrameRow}
use Rattle.buffer_cache.specs.Frames.{handed}
use Rattle.buffer_cache.proofs.frames.change_owner.Given as goal

abbrev pub invariant-loop-row : goal.invariant-loop-row
invariant-loop-row l =
    l.rows ≡ map (λ (r : Option FrameRow). option_map (handed l.from l.to) r)
    (take l.row-index l.initial.rows) ++ drop l.row-index l.initial.rows
