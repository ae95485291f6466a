use Rattle.std.proofs.Common.{◌≡◌, ℕ, take}
use Rattle.buffer_cache.specs.Frames.{uses}
use Rattle.buffer_cache.proofs.frames.place_of.Given as goal

abbrev pub invariant-loop-i : goal.invariant-loop-i
invariant-loop-i l = ◌≡◌ {A = ℕ} (uses l.f (take l.i l.order)) 0
