-- The frames of the process so far are those of the first frames in the order of use.
use Rattle.std.proofs.Common.{◌≡◌, ◌≤◌, length, take, filter}
use Rattle.kernel_data.specs.Policies.{is_owned}
use Rattle.kernel_state.specs.Stores.{cache_of}
use Rattle.kernel_state.proofs.Store.owned_count.Given as goal

abbrev pub invariant-loop-f : goal.invariant-loop-f
invariant-loop-f g l = record {
  counted : l.count ≡ length (filter (λ f. is_owned (cache_of l.self) l.q f) (take l.f-index l.f-items));
  few : l.count ≤ l.f-index;
}
