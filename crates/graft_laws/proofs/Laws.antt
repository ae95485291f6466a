-- A law of this crate by its function's name: proofs of other crates cite it here.
use Rattle.kernel_model.specs.Meaning.{Meaning}
use Rattle.kernel_model.specs.Claims.{Stability}
use Rattle.graft_laws.proofs.StabilityLemmas as Stable

pub calls_are_stable : (m : Meaning) → Stability m
calls_are_stable = Stable.calls_are_stable
