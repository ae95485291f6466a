-- An instruction on a trace.
use Rattle.std.proofs.Common.{◌≡◌, Bool, true, false, Option, Some, None, sym, ap, ◌∙◌}
use Rattle.kernel_model.specs.Levels.{Outcome, is_going_on}
use Rattle.kernel_model.specs.History.{Trace, trace_after, stepped}

-- the trace after an instruction, by whether the call goes on
abbrev after_if : Trace → Outcome → Bool → Option Trace
after_if t r b = elim b [ true ↦ Some (trace_after t r) | false ↦ None ]

-- the call goes on
pub stepped_on : (t : Trace) (r m : Outcome) (u : Trace) → is_going_on r.said ≡ true →
    u ≡ trace_after t r → r ≡ m → Some u ≡ stepped t m
stepped_on t r m u on after is =
    ap (λ (x : Trace). Some x) after ∙ sym (ap (after_if t r) on) ∙ ap (stepped t) is

-- it doesn't
pub stepped_off : (t : Trace) (r m : Outcome) → is_going_on r.said ≡ false → r ≡ m →
    None ≡ stepped t m
stepped_off t r m off is = sym (ap (after_if t r) off) ∙ ap (stepped t) is
