use Rattle.std.proofs.Common.{◌≡◌, ℕ, ◌<◌, false, take}
use Rattle.std.specs.Option.{is_none}
use Rattle.buffer_cache.specs.Frames.{row_at}
use Rattle.buffer_cache.proofs.frames.free_frame.Given as goal

abbrev pub invariant-loop-f : goal.invariant-loop-f
invariant-loop-f l = (k : ℕ) → k < l.f → is_none (row_at (take l.count l.rows) k) ≡ false
