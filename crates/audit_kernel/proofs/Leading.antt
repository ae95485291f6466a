-- Where histories lead.
use Rattle.std.proofs.Common.{◌≡◌, ℕ, List, Option, Some, None, refl}
use Rattle.kernel_model.specs.World.{World, ImageTable}
use Rattle.kernel_model.specs.History.{Mark, Trace, marks_on, first_trace}
use Rattle.kernel_model.specs.Levels.{Config}
use Rattle.audit_replay.specs.Traces.{led_from}

-- where marks lead from the beginning of a graft call, as the definition says it
pub led_is : (v : World) (images : ImageTable) (p : ℕ) (ks : List Mark) (o : Option Config) →
    led_from v images p ks o
    ≡ (elim o as (λ _. Option Trace) [ None ↦ None | Some c ↦ marks_on v images p ks (first_trace c) ])
led_is v images p ks None = refl
led_is v images p ks (Some c) = refl
