-- One event of a kernel in place.
use Rattle.std.specs.Prelude.{ℕ, zero, suc, Bool, true, false, not, ◌&&◌, nat_le, List, [], ◌∷◌}
use Rattle.std.specs.Prelude.{Option, Some, None, length, Result, Ok, Err}
use Rattle.kernel_model.specs.declared.Event.{Event}
use Rattle.kernel_model.specs.declared.Event.TheVariants.{Tick, Step, Sys}
use Rattle.kernel_model.specs.declared.SysCall.{SysCall}
use Rattle.kernel_model.specs.declared.Note.TheVariants.{Refused, Ran, Waits, InGraft}
use Rattle.kernel_model.specs.declared.Refusal.{Refusal}
use Rattle.kernel_model.specs.declared.Refusal.TheVariants.{NoProcess, Busy, BadIndex, TimedOut}
use Rattle.kernel_model.specs.declared.Cause.{Cause}
use Rattle.kernel_model.specs.declared.Cause.TheVariants.{TimeOut}
use Rattle.kernel_model.specs.World.{World}
use Rattle.kernel_model.specs.Policies.{lives}
use Rattle.kernel_model.specs.Meaning.{Meaning, Stage}
use Rattle.kernel_model.specs.Locks.{outermost_holding}
use Rattle.kernel_model.specs.Kernel.{Blocker, Waiter}
use Rattle.kernel_model.specs.Events.{object_kind, MOST_STEPS, in_order, wanted}
use Rattle.placed_laws.specs.Placed.{PlacedLevel, PlacedCall, PlacedRun, has_some}
use Rattle.placed_laws.specs.Placed.{placed_holds, placed_needs, placed_blocker}
use Rattle.placed_laws.specs.PlacedSteps.{with_placed_call, placed_noted, placed_joins}
use Rattle.placed_laws.specs.PlacedSteps.{placed_requeue, placed_ticked, with_placed_order}
use Rattle.placed_laws.specs.PlacedSteps.{placed_step, placed_drop, placed_first_free}
use Rattle.placed_laws.specs.PlacedSteps.{placed_rested_order}

-- ---- where a call stands at the end of an event

-- the note of a call that waits
abbrev pub placed_waits_note : ℕ → Option Blocker → PlacedRun → PlacedRun
placed_waits_note n None r = r
placed_waits_note n (Some b) r = placed_noted (Waits n b.object b.holder) r

-- the note of a call in a graft
abbrev pub placed_graft_note : ℕ → List PlacedLevel → PlacedRun → PlacedRun
placed_graft_note n [] r = r
placed_graft_note n (l ∷ ls) r = placed_noted (InGraft n l.owner l.point (suc (length ls))) r

-- ---- counts

-- an entry's count has reached the patience of its blocker's kind
abbrev pub is_over_by : World → Waiter → Option Blocker → Bool
is_over_by v e None = false
is_over_by v e (Some b) = nat_le (v.patience (object_kind b.object)) e.count

-- the first entry whose count has reached the patience
abbrev pub expired_by : World → List Waiter → Option Waiter
expired_by v [] = None
expired_by v (e ∷ es) = elim (is_over_by v e e.blocker) [ true ↦ Some e | false ↦ expired_by v es ]

module _ (m : Meaning) where
  -- ---- steps until all are blocked

  -- each entry keeps its blocker
  abbrev pub placed_rested : PlacedRun → PlacedRun
  placed_rested r = with_placed_order (placed_rested_order m r.placed r.placed.order) r

  -- at most so many steps, each of the first call in the order that nothing blocks, and then rest
  abbrev pub placed_settle : ℕ → PlacedRun → PlacedRun
  placed_settle zero r = placed_rested r
  placed_settle (suc n) r =
      elim (placed_first_free m r.placed r.placed.order) [
        | None ↦ placed_rested r
        | Some p ↦ placed_settle n (placed_step m p r)
      ]

  -- all steps that can be taken: 256 are always enough
  abbrev pub placed_settled : PlacedRun → PlacedRun
  placed_settled r = placed_settle 256 r

  -- where the call of a process stands, if it is still in flight: it waits, or it is in a graft
  abbrev pub placed_last_note : ℕ → Option PlacedCall → PlacedRun → PlacedRun
  placed_last_note p None r = r
  placed_last_note p (Some c) r =
      elim (in_order p r.placed.order) [
        | true ↦ placed_waits_note c.number (placed_blocker m r.placed p) r
        | false ↦ placed_graft_note c.number (r.placed.levels p) r
      ]

  -- the last line of an event that began or stepped a call of p
  abbrev pub placed_last : ℕ → PlacedRun → PlacedRun
  placed_last p r = placed_last_note p (r.placed.call p) r

  -- ---- a system call

  -- a call begins, or is refused at once
  abbrev pub placed_begun : ℕ → ℕ → Result Stage Refusal → PlacedRun → PlacedRun
  placed_begun number p (Err refusal) r = placed_noted (Refused number refusal) r
  placed_begun number p (Ok t) r =
      placed_settled
      (placed_joins p (with_placed_call p (Some (record { number = number; stage = t })) r))

  -- a system call: busy, refused at once, or begun
  abbrev pub placed_sys_event : ℕ → ℕ → SysCall → Option PlacedCall → PlacedRun → PlacedRun
  placed_sys_event number p call (Some c) r = placed_noted (Refused number (Busy c.number)) r
  placed_sys_event number p call None r =
      placed_last p (placed_begun number p (m.early r.placed.world r.placed.images p call) r)

  -- ---- steps

  -- at most n instructions of the call of p, as long as it has a level and isn't in the order; how
  -- many were taken up
  abbrev pub placed_steps : ℕ → ℕ → ℕ → PlacedRun → ℕ × PlacedRun
  placed_steps p zero taken r = (taken, r)
  placed_steps p (suc n) taken r =
      elim (has_some (r.placed.levels p) && not (in_order p r.placed.order)) [
        | false ↦ (taken, r)
        | true ↦ elim (placed_blocker m r.placed p) [
          | Some b ↦ (taken, placed_settled (placed_joins p r))
          | None ↦ placed_steps p n (suc taken) (placed_settled (placed_step m p r))
        ]
      ]

  -- instructions of the call of p
  abbrev pub placed_step_event : ℕ → ℕ → ℕ → PlacedRun → PlacedRun
  placed_step_event number p n r = let s = placed_steps p n 0 r in
      placed_last p (placed_noted (Ran number s.0) s.1)

  -- ---- time-outs

  -- level d of a call is dropped, if it is there
  abbrev pub placed_drop_if : ℕ → Option ℕ → Cause → PlacedRun → PlacedRun
  placed_drop_if p None cause r = r
  placed_drop_if p (Some d) cause r = placed_drop m p d cause r

  -- a waiter for a user lock: its innermost level is dropped, or it ends
  abbrev pub placed_waiter_by : ℕ → Blocker → PlacedCall → List PlacedLevel → PlacedRun → PlacedRun
  placed_waiter_by p b c [] r =
      placed_requeue p (placed_noted (Refused c.number (TimedOut b.object b.holder))
      (with_placed_call p None r))
  placed_waiter_by p b c (l ∷ ls) r = placed_drop m p (length ls) (TimeOut b.object b.holder) r

  -- the same, if there is a call
  abbrev pub placed_waiter : ℕ → Blocker → Option PlacedCall → PlacedRun → PlacedRun
  placed_waiter p b None r = r
  placed_waiter p b (Some c) r = placed_waiter_by p b c (r.placed.levels p) r

  -- a call that blocks loses the outermost level whose hold on the object conflicts
  abbrev pub placed_holder : ℕ → Blocker → PlacedRun → PlacedRun
  placed_holder p b r =
      placed_drop_if b.holder
      (outermost_holding b.object (wanted b.object (placed_needs m r.placed p))
      (placed_holds r.placed b.holder)) (TimeOut b.object p) r

  -- one action of a tick, for a waiter and its blocker
  abbrev pub placed_action : ℕ → Blocker → Option ℕ → PlacedRun → PlacedRun
  placed_action p b None r = placed_waiter p b (r.placed.call p) r
  placed_action p b (Some n) r = placed_holder p b r

  -- the action for an entry that has waited too long
  abbrev pub placed_entry_action : Waiter → Option Blocker → PlacedRun → PlacedRun
  placed_entry_action e None r = r
  placed_entry_action e (Some b) r = placed_action e.process b b.call r

  -- at most so many actions, as long as a count has reached its patience
  abbrev pub placed_actions : ℕ → PlacedRun → PlacedRun
  placed_actions zero r = r
  placed_actions (suc n) r =
      elim (expired_by r.placed.world r.placed.order)
      [ None ↦ r | Some e ↦ placed_actions n (placed_settled (placed_entry_action e e.blocker r)) ]

  -- the clock, and the actions of calls that waited too long: 288 are always enough
  abbrev pub placed_tick_event : ℕ → PlacedRun → PlacedRun
  placed_tick_event number r = placed_actions 288 (placed_ticked number r)

  -- ---- any event

  -- what an event does
  abbrev pub placed_event_on : ℕ → Event → PlacedRun → PlacedRun
  placed_event_on number Tick r = placed_tick_event number r
  placed_event_on number (Step p n) r =
      elim (lives r.placed.objects.things.queue p) [
        | false ↦ placed_noted (Refused number NoProcess) r
        | true ↦ elim (nat_le 1 n && nat_le n MOST_STEPS) [
          | true ↦ placed_step_event number p n r
          | false ↦ placed_noted (Refused number BadIndex) r
        ]
      ]
  placed_event_on number (Sys p call) r =
      elim (lives r.placed.objects.things.queue p) [
        | false ↦ placed_noted (Refused number NoProcess) r
        | true ↦ placed_sys_event number p call (r.placed.call p) r
      ]
