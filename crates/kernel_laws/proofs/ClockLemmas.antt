-- Proofs of the laws of the clock.
use Rattle.std.specs.Prelude.{◌≡◌, ℕ, zero, suc, Bool, true, false, not, ◌&&◌, nat_le, List, []}
use Rattle.std.specs.Prelude.{◌∷◌, Option, Some, None, Result, Ok, Err}
use Rattle.std.proofs.Common.{refl, ◌∙◌}
use Rattle.kernel_model.specs.declared.Event.{Event}
use Rattle.kernel_model.specs.declared.Event.TheVariants.{Tick, Step, Sys}
use Rattle.kernel_model.specs.declared.Micro.{Micro}
use Rattle.kernel_model.specs.declared.SysCall.{SysCall}
use Rattle.kernel_model.specs.declared.Cause.{Cause}
use Rattle.kernel_model.specs.declared.Cause.TheVariants.{TimeOut}
use Rattle.kernel_model.specs.declared.Refusal.{Refusal}
use Rattle.kernel_model.specs.declared.Refusal.TheVariants.{NoProcess, BadIndex}
use Rattle.kernel_model.specs.declared.Note.TheVariants.{Refused, Ran}
use Rattle.kernel_model.specs.declared.Point.{Point}
use Rattle.kernel_model.specs.Objects.{GraftValue}
use Rattle.kernel_model.specs.Policies.{lives}
use Rattle.kernel_model.specs.Meaning.{Meaning, Stage}
use Rattle.kernel_model.specs.Levels.{Level, Outcome, drop_level}
use Rattle.kernel_model.specs.GraftStep.{micro}
use Rattle.kernel_model.specs.History.{Mark, Trace}
use Rattle.kernel_model.specs.Kernel.{Call, Blocker, Waiter, Run, joins, noted, with_call, has_level}
use Rattle.kernel_model.specs.Blocking.{levels_of, blocker, trace_of, needs, holds}
use Rattle.kernel_model.specs.Locks.{outermost_holding}
use Rattle.kernel_model.specs.Settle.{piece_at, piece_step, after_outcome, graft_step}
use Rattle.kernel_model.specs.Settle.{marked_step, call_step, step, first_free, rested, settle}
use Rattle.kernel_model.specs.Settle.{settled}
use Rattle.kernel_model.specs.Events.{MOST_STEPS, in_order, waits_note, graft_note, expired}
use Rattle.kernel_model.specs.Events.{ticked, last_note, last, begun, sys_event, steps, step_event}
use Rattle.kernel_model.specs.Events.{drop_at, drop_marked, drop_call, wanted, times_out}
use Rattle.kernel_model.specs.Events.{waiter_action, innermost, action, entry_action, actions}
use Rattle.kernel_model.specs.Events.{event_on}
use Rattle.kernel_laws.specs.Clock.{is_tick, TicksRaiseTheClock, OthersLeaveTheClock}

-- the clock of a run
abbrev clock_of : Run → ℕ
clock_of r = r.kernel.clock

module _ (m : Meaning) where
  -- ---- one step

  piece_at_clock : (p : ℕ) (c : Call) (g : Option GraftValue) (r : Run) → clock_of (piece_at m p c g r) ≡ clock_of r
  piece_at_clock p c None r = refl
  piece_at_clock p c (Some g) r = refl

  piece_clock : (p : ℕ) (c : Call) (a : Option Point) (r : Run) → clock_of (piece_step m p c a r) ≡ clock_of r
  piece_clock p c None r = refl
  piece_clock p c (Some a) r = piece_at_clock p c (r.kernel.objects.accounts.graft a.installer a.point) r

  outcome_clock : (p : ℕ) (c : Call) (t : Trace) (ks : List Mark) (o : Outcome) (said : Micro)
      (r : Run) → clock_of (after_outcome m p c t ks o said r) ≡ clock_of r
  outcome_clock p c t ks o Micro.Went r = refl
  outcome_clock p c t ks o (Micro.Blocked object holder by_user) r = refl
  outcome_clock p c t ks o (Micro.Completed answer) r = refl
  outcome_clock p c t ks o (Micro.Dropped zero q pt cause) r = refl
  outcome_clock p c t ks o (Micro.Dropped (suc d) q pt cause) r = refl

  graft_clock : (p : ℕ) (c : Call) (ks : List Mark) (t : Option Trace) (r : Run) →
      clock_of (graft_step m p c ks t r) ≡ clock_of r
  graft_clock p c ks None r = refl
  graft_clock p c ks (Some t) r =
      let o = micro r.kernel.world r.kernel.images p t.config in outcome_clock p c t ks o o.said r

  marked_clock : (p : ℕ) (c : Call) (ks : Option (List Mark)) (r : Run) → clock_of (marked_step m p c ks r) ≡ clock_of r
  marked_clock p c None r = piece_clock p c (m.asks r.kernel.world r.kernel.objects p c.stage) r
  marked_clock p c (Some ks) r = graft_clock p c ks (trace_of m r.kernel p (Some c)) r

  call_clock : (p : ℕ) (c : Option Call) (r : Run) → clock_of (call_step m p c r) ≡ clock_of r
  call_clock p None r = refl
  call_clock p (Some c) r = marked_clock p c c.marks r

  -- one step
  step_clock : (p : ℕ) (r : Run) → clock_of (step m p r) ≡ clock_of r
  step_clock p r = call_clock p (r.kernel.call p) r

  -- a step of the first call that nothing blocks, or rest
  settle_by : (n : ℕ) (r : Run) → ((q : Run) → clock_of (settle m n q) ≡ clock_of q) → (x : Option ℕ) →
      clock_of (elim x as (λ _. Run) [ None ↦ rested m r | Some p ↦ settle m n (step m p r) ]) ≡ clock_of r
  settle_by n r h None = refl
  settle_by n r h (Some p) = h (step m p r) ∙ step_clock p r

  -- steps until all are blocked
  settle_clock : (n : ℕ) (r : Run) → clock_of (settle m n r) ≡ clock_of r
  settle_clock zero r = refl
  settle_clock (suc n) r = settle_by n r (settle_clock n) (first_free m r.kernel r.kernel.order)

  -- ---- where a call stands at the end

  waits_clock : (n : ℕ) (b : Option Blocker) (r : Run) → clock_of (waits_note n b r) ≡ clock_of r
  waits_clock n None r = refl
  waits_clock n (Some b) r = refl

  levels_clock : (n : ℕ) (ls : List Level) (r : Run) → clock_of (graft_note n ls r) ≡ clock_of r
  levels_clock n [] r = refl
  levels_clock n (l ∷ ls) r = refl

  stands_clock : (b : Bool) (c : Call) (w : Option Blocker) (ls : List Level) (r : Run) →
      clock_of (elim b as (λ _. Run) [ true ↦ waits_note c.number w r | false ↦ graft_note c.number ls r ]) ≡ clock_of r
  stands_clock true c w ls r = waits_clock c.number w r
  stands_clock false c w ls r = levels_clock c.number ls r

  last_note_clock : (p : ℕ) (c : Option Call) (r : Run) → clock_of (last_note m p c r) ≡ clock_of r
  last_note_clock p None r = refl
  last_note_clock p (Some c) r =
      stands_clock (in_order p r.kernel.order) c (blocker m r.kernel p) (levels_of m r.kernel p) r

  last_clock : (p : ℕ) (r : Run) → clock_of (last m p r) ≡ clock_of r
  last_clock p r = last_note_clock p (r.kernel.call p) r

  -- ---- system calls

  begun_clock : (number p : ℕ) (t : Result Stage Refusal) (r : Run) → clock_of (begun m number p t r) ≡ clock_of r
  begun_clock number p (Err refusal) r = refl
  begun_clock number p (Ok t) r =
      settle_clock 256
      (joins p (with_call p (Some (record { number = number; stage = t; marks = None })) r))

  sys_clock : (number p : ℕ) (call : SysCall) (c : Option Call) (r : Run) →
      clock_of (sys_event m number p call c r) ≡ clock_of r
  sys_clock number p call (Some c) r = refl
  sys_clock number p call None r =
      let t = m.early r.kernel.world r.kernel.images p call in
      last_clock p (begun m number p t r) ∙ begun_clock number p t r

  -- ---- instructions

  -- an instruction that is blocked, or done
  steps_by : (p n taken : ℕ) (r : Run) →
      ((k : ℕ) (q : Run) → clock_of (steps m p n k q).1 ≡ clock_of q) →
      (b : Bool) (w : Option Blocker) →
      clock_of (elim b as (λ _. ℕ × Run) [
        | false ↦ (taken, r)
        | true ↦ elim w as (λ _. ℕ × Run) [
          | Some x ↦ (taken, settled m (joins p r))
          | None ↦ steps m p n (suc taken) (settled m (step m p r))
        ]
      ]).1 ≡ clock_of r
  steps_by p n taken r h false w = refl
  steps_by p n taken r h true (Some x) = settle_clock 256 (joins p r)
  steps_by p n taken r h true None =
      h (suc taken) (settled m (step m p r)) ∙ settle_clock 256 (step m p r) ∙ step_clock p r

  steps_clock : (p n taken : ℕ) (r : Run) → clock_of (steps m p n taken r).1 ≡ clock_of r
  steps_clock p zero taken r = refl
  steps_clock p (suc n) taken r =
      steps_by p n taken r (λ k q. steps_clock p n k q)
      (has_level (r.kernel.call p) && not (in_order p r.kernel.order)) (blocker m r.kernel p)

  step_event_clock : (number p n : ℕ) (r : Run) → clock_of (step_event m number p n r) ≡ clock_of r
  step_event_clock number p n r =
      let s = steps m p n 0 r in last_clock p (noted (Ran number s.0) s.1) ∙ steps_clock p n 0 r

  -- ---- time-outs

  drop_at_clock : (p : ℕ) (c : Call) (ks : List Mark) (t : Trace) (d : Option ℕ) (cause : Cause)
      (r : Run) → clock_of (drop_at m p c ks t d cause r) ≡ clock_of r
  drop_at_clock p c ks t None cause r = refl
  drop_at_clock p c ks t (Some d) cause r =
      let o = drop_level r.kernel.world t.config.now t.config.levels d cause in outcome_clock p c t ks o o.said r

  drop_marked_clock : (p : ℕ) (c : Call) (ks : Option (List Mark)) (t : Option Trace) (d : Option ℕ)
      (cause : Cause) (r : Run) →
      clock_of (drop_marked m p c ks t d cause r) ≡ clock_of r
  drop_marked_clock p c (Some ks) (Some t) d cause r = drop_at_clock p c ks t d cause r
  drop_marked_clock p c None t d cause r = refl
  drop_marked_clock p c (Some ks) None d cause r = refl

  drop_call_clock : (p : ℕ) (c : Option Call) (d : Option ℕ) (cause : Cause) (r : Run) →
      clock_of (drop_call m p c d cause r) ≡ clock_of r
  drop_call_clock p None d cause r = refl
  drop_call_clock p (Some c) d cause r = drop_marked_clock p c c.marks (trace_of m r.kernel p (Some c)) d cause r

  waiter_by : (p : ℕ) (b : Blocker) (c : Call) (ks : Option (List Mark)) (r : Run) →
      clock_of (elim ks as (λ _. Run) [
        | None ↦ times_out m p b c r
        | Some x ↦ drop_call m p (Some c) (innermost (levels_of m r.kernel p)) (TimeOut b.object b.holder) r
      ]) ≡ clock_of r
  waiter_by p b c None r = refl
  waiter_by p b c (Some ks) r =
      drop_call_clock p (Some c) (innermost (levels_of m r.kernel p)) (TimeOut b.object b.holder) r

  waiter_clock : (p : ℕ) (b : Blocker) (c : Option Call) (r : Run) → clock_of (waiter_action m p b c r) ≡ clock_of r
  waiter_clock p b None r = refl
  waiter_clock p b (Some c) r = waiter_by p b c c.marks r

  action_clock : (p : ℕ) (b : Blocker) (n : Option ℕ) (r : Run) → clock_of (action m p b n r) ≡ clock_of r
  action_clock p b None r = waiter_clock p b (r.kernel.call p) r
  action_clock p b (Some n) r =
      drop_call_clock b.holder (r.kernel.call b.holder)
      (outermost_holding b.object (wanted b.object (needs m r.kernel p))
      (holds m r.kernel b.holder)) (TimeOut b.object p) r

  entry_clock : (e : Waiter) (b : Option Blocker) (r : Run) → clock_of (entry_action m e b r) ≡ clock_of r
  entry_clock e None r = refl
  entry_clock e (Some b) r = action_clock e.process b b.call r

  actions_by : (n : ℕ) (r : Run) → ((q : Run) → clock_of (actions m n q) ≡ clock_of q) → (x : Option Waiter) →
      clock_of (elim x as (λ _. Run) [
        | None ↦ r
        | Some e ↦ actions m n (settled m (entry_action m e e.blocker r))
      ]) ≡ clock_of r
  actions_by n r h None = refl
  actions_by n r h (Some e) =
      let u = entry_action m e e.blocker r in
      h (settled m u) ∙ settle_clock 256 u ∙ entry_clock e e.blocker r

  actions_clock : (n : ℕ) (r : Run) → clock_of (actions m n r) ≡ clock_of r
  actions_clock zero r = refl
  actions_clock (suc n) r = actions_by n r (actions_clock n) (expired r.kernel r.kernel.order)

  -- ---- events

  -- a tick raises the clock by one
  pub ticks_raise_the_clock : TicksRaiseTheClock m
  ticks_raise_the_clock k blocks number io =
      actions_clock 288 (ticked number (record { kernel = k; blocks = blocks; notes = []; io = io }))

  -- a step, by whether its number is in the range
  step_by_range : (number p n : ℕ) (b : Bool) (r : Run) →
      clock_of (elim b as (λ _. Run) [
        | true ↦ step_event m number p n r
        | false ↦ noted (Refused number BadIndex) r
      ]) ≡ clock_of r
  step_by_range number p n true r = step_event_clock number p n r
  step_by_range number p n false r = refl

  -- a step, by whether its process lives
  step_by_life : (number p n : ℕ) (b : Bool) (r : Run) →
      clock_of (elim b as (λ _. Run) [
        | false ↦ noted (Refused number NoProcess) r
        | true ↦ elim (nat_le 1 n && nat_le n MOST_STEPS) as (λ _. Run)
            [ true ↦ step_event m number p n r | false ↦ noted (Refused number BadIndex) r ]
      ]) ≡ clock_of r
  step_by_life number p n false r = refl
  step_by_life number p n true r = step_by_range number p n (nat_le 1 n && nat_le n MOST_STEPS) r

  -- a system call, by whether its process lives
  sys_by_life : (number p : ℕ) (call : SysCall) (b : Bool) (r : Run) →
      clock_of (elim b as (λ _. Run) [
        | false ↦ noted (Refused number NoProcess) r
        | true ↦ sys_event m number p call (r.kernel.call p) r
      ]) ≡ clock_of r
  sys_by_life number p call false r = refl
  sys_by_life number p call true r = sys_clock number p call (r.kernel.call p) r

  -- any event but a tick
  event_clock : (number : ℕ) (e : Event) (r : Run) → is_tick e ≡ false → clock_of (event_on m number e r) ≡ clock_of r
  event_clock number Tick r h = absurd (true_is_not_false h)
    where
      true_is_not_false : true ≡ false → ⊥
      true_is_not_false h = cc
  event_clock number (Step p n) r h = step_by_life number p n (lives r.kernel.objects.things.queue p) r
  event_clock number (Sys p call) r h = sys_by_life number p call (lives r.kernel.objects.things.queue p) r

  -- no other event changes the clock
  pub others_leave_the_clock : OthersLeaveTheClock m
  others_leave_the_clock k blocks number e io h =
      event_clock number e (record { kernel = k; blocks = blocks; notes = []; io = io }) h
