-- The rows so far are those of the first frames in the order of use.
use Rattle.std.proofs.Common.{◌≡◌, map, take, Some}
use Rattle.kernel_data.specs.declared.FrameRow.{FrameRow}
use Rattle.buffer_cache.specs.Frames.{row_at}
use Rattle.kernel_state.proofs.Store.frame_rows.Given as goal

abbrev pub invariant-loop-f : goal.invariant-loop-f
invariant-loop-f g l = map (λ (r : FrameRow). Some r) l.rows ≡ map (row_at l.self.cache.rows) (take l.f-index l.f-items)
