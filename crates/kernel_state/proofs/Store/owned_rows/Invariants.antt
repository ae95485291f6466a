-- The rows so far are those of the process, of the first frames in the order of use.
use Rattle.std.proofs.Common.{◌≡◌, ◌≤◌, length, map, take, filter, Some}
use Rattle.kernel_data.specs.declared.FrameRow.{FrameRow}
use Rattle.kernel_data.specs.Policies.{is_owned}
use Rattle.buffer_cache.specs.Frames.{row_at}
use Rattle.kernel_state.specs.Stores.{cache_of}
use Rattle.kernel_state.proofs.Store.owned_rows.Given as goal

abbrev pub invariant-loop-f : goal.invariant-loop-f
invariant-loop-f g l = record {
  are : map (λ (r : FrameRow). Some r) l.rows ≡ map (row_at l.self.cache.rows)
      (filter (λ f. is_owned (cache_of l.self) l.q f) (take l.f-index l.f-items));
  few : length l.rows ≤ l.f-index;
}
