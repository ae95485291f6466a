-- Where a call stands at the end of an event.
use Rattle.std.proofs.Common.{◌≡◌, ℕ, Bool, true, false, Option, Some, None, refl, sym, ap, ◌∙◌, arith}
use Rattle.kernel_data.specs.declared.Note.TheVariants.{Refused, Waits}
use Rattle.kernel_data.specs.declared.Refusal.TheVariants.{Busy}
use Rattle.kernel_data.specs.declared.SysCall.{SysCall}
use Rattle.kernel_model.specs.AllCalls.{all_calls}
use Rattle.kernel_model.specs.Blocking.{blocker, levels_of, number_of_call}
use Rattle.kernel_model.specs.Kernel.{Blocker, Call, Run, noted}
use Rattle.kernel_model.specs.Events.{begun, graft_note, in_order, last, last_note, sys_event, waits_note}

-- what waits for nothing is told of no more
pub quiet : (n : ℕ) (x : Option Blocker) (r : Run) → None ≡ x → r ≡ waits_note n x r
quiet n x r is = ap (λ (y : Option Blocker). waits_note n y r) is

-- what waits is told
pub told : (n : ℕ) (b : Blocker) (x : Option Blocker) (r s : Run) → Some b ≡ x →
    s ≡ noted (Waits n b.object b.holder) r → s ≡ waits_note n x r
told n b x r s is made = made ∙ ap (λ (y : Option Blocker). waits_note n y r) is

-- no call is in flight
pub ended : (p : ℕ) (o : Option Call) (r : Run) → None ≡ number_of_call o → r ≡ last_note all_calls p o r
ended p None r is = refl
ended p (Some c) r is = absurd (grind (arith, is))

-- the last note by a test
abbrev by_place : (p n : ℕ) → Run → Bool → Run
by_place p n r b = elim b [
  | true ↦ waits_note n (blocker all_calls r.kernel p) r
  | false ↦ graft_note n (levels_of all_calls r.kernel p) r
]

-- a call in the order
pub waits : (p n : ℕ) (o : Option Call) (r s : Run) → Some n ≡ number_of_call o →
    in_order p r.kernel.order ≡ true → s ≡ waits_note n (blocker all_calls r.kernel p) r →
    s ≡ last_note all_calls p o r
waits p n None r s is h made = absurd (grind (arith, is))
waits p n (Some c) r s is h made =
    let number : n ≡ c.number = grind (arith, is) in
    made ∙ ap (λ (m : ℕ). waits_note m (blocker all_calls r.kernel p) r) number
    ∙ sym (ap (by_place p c.number r) h)

-- a call in a graft
pub runs : (p n : ℕ) (o : Option Call) (r s : Run) → Some n ≡ number_of_call o →
    in_order p r.kernel.order ≡ false → s ≡ graft_note n (levels_of all_calls r.kernel p) r →
    s ≡ last_note all_calls p o r
runs p n None r s is h made = absurd (grind (arith, is))
runs p n (Some c) r s is h made =
    let number : n ≡ c.number = grind (arith, is) in
    made ∙ ap (λ (m : ℕ). graft_note m (levels_of all_calls r.kernel p) r) number
    ∙ sym (ap (by_place p c.number r) h)

-- a process that has a call makes no other
pub busy : (number p n : ℕ) (call : SysCall) (o : Option Call) (r s : Run) → Some n ≡ number_of_call o →
    s ≡ noted (Refused number (Busy n)) r → s ≡ sys_event all_calls number p call o r
busy number p n call None r s is made = absurd (grind (arith, is))
busy number p n call (Some c) r s is made =
    let same : n ≡ c.number = grind (arith, is) in
    made ∙ ap (λ (m : ℕ). noted (Refused number (Busy m)) r) same

-- and one that has none begins it
pub begins : (number p : ℕ) (call : SysCall) (o : Option Call) (r mid s : Run) → None ≡ number_of_call o →
    mid ≡ begun all_calls number p (all_calls.early r.kernel.world r.kernel.images p call) r →
    s ≡ last all_calls p mid → s ≡ sys_event all_calls number p call o r
begins number p call None r mid s is first made = made ∙ ap (last all_calls p) first
begins number p call (Some c) r mid s is first made = absurd (grind (arith, is))
