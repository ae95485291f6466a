-- The frame is one of those that are left.
use Rattle.std.proofs.Common.{◌≡◌, drop, filter}
use Rattle.std.specs.Prelude.{slice_get}
use Rattle.kernel_data.specs.Policies.{frames_of, is_owned}
use Rattle.kernel_state.specs.Stores.{cache_of}
use Rattle.kernel_state.proofs.Store.owned_frame.Given as goal

abbrev pub invariant-loop-f : goal.invariant-loop-f
invariant-loop-f g l = record {
  rest : slice_get (filter (λ f. is_owned (cache_of l.self) l.q f) (drop l.f-index l.f-items))
      l.left ≡ slice_get (frames_of (cache_of l.self) l.q) l.n;
}
