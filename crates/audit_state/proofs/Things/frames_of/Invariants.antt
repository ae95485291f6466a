use Rattle.std.proofs.Common.{◌≡◌, ℕ, List, ◌++◌, filter, drop}
use Rattle.kernel_model.specs.Policies.{is_owned}
use Rattle.audit_state.specs.Things.{things_of}
use Rattle.audit_state.proofs.Things.frames_of.Given as goal

abbrev pub invariant-loop-f : goal.invariant-loop-f
invariant-loop-f l =
    (bytes : ℕ → List ℕ) →
    l.frames.items ++ filter (λ f. is_owned (things_of bytes l.self).cache l.q f) (drop l.f-index l.f-items)
    ≡ filter (λ f. is_owned (things_of bytes l.self).cache l.q f) l.f-items
