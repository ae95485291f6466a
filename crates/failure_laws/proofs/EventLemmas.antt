-- Events with lists that say the same.
use Rattle.std.specs.Prelude.{◌≡◌, ℕ, zero, suc, ◌&&◌, not, nat_le, Bool, true, false, List, []}
use Rattle.std.specs.Prelude.{◌∷◌}
use Rattle.std.specs.Prelude.{Option, Some, None, Result, Ok, Err}
use Rattle.std.proofs.Common.{refl, sym, subst}
use Rattle.script_model.specs.declared.Cause.{Cause}
use Rattle.script_model.specs.declared.Cause.TheVariants.{TimeOut}
use Rattle.script_model.specs.declared.Event.{Event}
use Rattle.script_model.specs.declared.Event.TheVariants.{Tick, Step, Sys}
use Rattle.script_model.specs.declared.Note.TheVariants.{Refused, Ran}
use Rattle.script_model.specs.declared.Refusal.{Refusal}
use Rattle.script_model.specs.declared.Refusal.TheVariants.{NoProcess, Busy, BadIndex}
use Rattle.script_model.specs.declared.SysCall.{SysCall}
use Rattle.script_model.specs.Policies.{lives}
use Rattle.script_model.specs.Meaning.{Meaning, Stage}
use Rattle.script_model.specs.Levels.{Level, drop_level}
use Rattle.script_model.specs.Locks.{outermost_holding}
use Rattle.script_model.specs.History.{Mark, Trace}
use Rattle.script_model.specs.Kernel.{Call, Blocker, Waiter, Run, noted, joins, with_call}
use Rattle.script_model.specs.Kernel.{has_level}
use Rattle.script_model.specs.Blocking.{needs, levels_of, holds, blocker, trace_of}
use Rattle.script_model.specs.Settle.{settled, step}
use Rattle.script_model.specs.Events.{MOST_STEPS, in_order, innermost, wanted, expired, ticked}
use Rattle.script_model.specs.Events.{waits_note, graft_note, last_note, last, begun, sys_event}
use Rattle.script_model.specs.Events.{steps, step_event, drop_at, drop_marked, drop_call, times_out}
use Rattle.script_model.specs.Events.{waiter_action, action, entry_action, actions}
use Rattle.script_model.specs.Events.{event_on}
use Rattle.failure_laws.specs.Failures.{FailAlike, SeesFailures, RunsAlike, EventsSeeFailures}
use Rattle.failure_laws.proofs.StepLemmas.{with_list, alike, run_is, Keeps, on, either, requeued}
use Rattle.failure_laws.proofs.StepLemmas.{outcome_step_keeps, step_keeps, settled_keeps}
use Rattle.failure_laws.proofs.StepLemmas.{settled_alike}

module _ (m : Meaning) (sees : SeesFailures m) where
  -- ---- the last line

  waits_note_keeps : (n : ℕ) (b : Option Blocker) → Keeps (waits_note n b)
  waits_note_keeps n None r jo h = alike r jo h
  waits_note_keeps n (Some b) r jo h = alike (waits_note n (Some b) r) jo h

  graft_note_keeps : (n : ℕ) (ls : List Level) → Keeps (graft_note n ls)
  graft_note_keeps n [] r jo h = alike r jo h
  graft_note_keeps n (l ∷ ls) r jo h = alike (graft_note n (l ∷ ls) r) jo h

  last_note_keeps : (p : ℕ) (c : Option Call) → Keeps (last_note m p c)
  last_note_keeps p None r jo h = alike r jo h
  last_note_keeps p (Some c) r jo h =
      either (in_order p r.kernel.order) _ _ _ _
      (waits_note_keeps c.number (blocker m r.kernel p) r jo h)
      (graft_note_keeps c.number (levels_of m r.kernel p) r jo h)

  last_keeps : (p : ℕ) → Keeps (last m p)
  last_keeps p r jo h = last_note_keeps p (r.kernel.call p) r jo h

  -- ---- a system call

  begun_keeps : (number p : ℕ) (x : Result Stage Refusal) → Keeps (begun m number p x)
  begun_keeps number p (Err refusal) r jo h = alike (noted (Refused number refusal) r) jo h
  begun_keeps number p (Ok t) r jo h =
      settled_keeps m sees (joins p
      (with_call p (Some (record { number = number; stage = t; marks = None })) r)) jo h

  sys_keeps : (number p : ℕ) (call : SysCall) (c : Option Call) →
      Keeps (sys_event m number p call c)
  sys_keeps number p call (Some c) r jo h = alike (noted (Refused number (Busy c.number)) r) jo h
  sys_keeps number p call None r jo h =
      let x = m.early r.kernel.world r.kernel.images p call in
      on (last m p) (last_keeps p) (begun m number p x r) (begun m number p x (with_list jo r))
      (begun_keeps number p x r jo h)

  -- ---- instructions

  -- as many were taken, and the runs are alike
  abbrev StepsAlike : (x y : ℕ × Run) → Type 0
  StepsAlike x y = (y.0 ≡ x.0) × RunsAlike x.1 y.1

  steps_keep : (p n taken : ℕ) (r : Run) (jo : List Bool) → FailAlike r.io jo →
      StepsAlike (steps m p n taken r) (steps m p n taken (with_list jo r))
  steps_keep p zero taken r jo h = (refl, alike r jo h)
  steps_keep p (suc n) taken r jo h =
      by_test (has_level (r.kernel.call p) && not (in_order p r.kernel.order))
      (blocker m r.kernel p)
      (λ a b k. subst (λ x. StepsAlike (steps m p n (suc taken) a) (steps m p n (suc taken) x))
      (sym (run_is a b k)) (steps_keep p n (suc taken) a b.io k.io))
    where
      by_test : (t : Bool) (x : Option Blocker) →
          ((a b : Run) → RunsAlike a b →
          StepsAlike (steps m p n (suc taken) a) (steps m p n (suc taken) b)) →
          StepsAlike (elim t as (λ _. ℕ × Run) [
            | false ↦ (taken, r)
            | true ↦ elim x as (λ _. ℕ × Run) [
              | Some b ↦ (taken, settled m (joins p r))
              | None ↦ steps m p n (suc taken) (settled m (step m p r))
            ]
          ])
          (elim t as (λ _. ℕ × Run) [
            | false ↦ (taken, with_list jo r)
            | true ↦ elim x as (λ _. ℕ × Run) [
              | Some b ↦ (taken, settled m (joins p (with_list jo r)))
              | None ↦ steps m p n (suc taken) (settled m (step m p (with_list jo r)))
            ]
          ])
      by_test false x rest = (refl, alike r jo h)
      by_test true (Some b) rest = (refl, settled_keeps m sees (joins p r) jo h)
      by_test true None rest =
          rest (settled m (step m p r)) (settled m (step m p (with_list jo r)))
          (settled_alike m sees (step m p r) (step m p (with_list jo r))
          (step_keeps m sees p r jo h))

  noted_keeps : (p number k : ℕ) → Keeps (λ r. last m p (noted (Ran number k) r))
  noted_keeps p number k r jo h = last_keeps p (noted (Ran number k) r) jo h

  step_event_keeps : (number p n : ℕ) → Keeps (step_event m number p n)
  step_event_keeps number p n r jo h =
      let x = steps m p n 0 r in
      let y = steps m p n 0 (with_list jo r) in
      let both = steps_keep p n 0 r jo h in
      subst (λ (k : ℕ). RunsAlike (last m p (noted (Ran number x.0) x.1))
      (last m p (noted (Ran number k) y.1))) (sym both.0)
      (on (λ (u : Run). last m p (noted (Ran number x.0) u)) (noted_keeps p number x.0) x.1 y.1
      both.1)

  -- ---- time-outs

  drop_at_keeps : (p : ℕ) (c : Call) (ks : List Mark) (t : Trace) (d : Option ℕ)
      (cause : Cause) → Keeps (drop_at m p c ks t d cause)
  drop_at_keeps p c ks t None cause r jo h = alike r jo h
  drop_at_keeps p c ks t (Some d) cause r jo h =
      requeued m sees p _ _
      (outcome_step_keeps m sees p c t ks
      (drop_level r.kernel.world t.config.now t.config.levels d cause) r jo h)

  drop_marked_keeps : (p : ℕ) (c : Call) (ks : Option (List Mark)) (t : Option Trace)
      (d : Option ℕ) (cause : Cause) → Keeps (drop_marked m p c ks t d cause)
  drop_marked_keeps p c None t d cause r jo h = alike r jo h
  drop_marked_keeps p c (Some ks) None d cause r jo h = alike r jo h
  drop_marked_keeps p c (Some ks) (Some t) d cause r jo h =
      drop_at_keeps p c ks t d cause r jo h

  drop_call_keeps : (p : ℕ) (c : Option Call) (d : Option ℕ) (cause : Cause) →
      Keeps (drop_call m p c d cause)
  drop_call_keeps p None d cause r jo h = alike r jo h
  drop_call_keeps p (Some c) d cause r jo h =
      drop_marked_keeps p c c.marks (trace_of m r.kernel p (Some c)) d cause r jo h

  waiter_action_keeps : (p : ℕ) (b : Blocker) (c : Option Call) → Keeps (waiter_action m p b c)
  waiter_action_keeps p b None r jo h = alike r jo h
  waiter_action_keeps p b (Some c) r jo h = by_marks c.marks
    where
      cause : Cause
      cause = TimeOut b.object b.holder

      by_marks : (x : Option (List Mark)) →
          RunsAlike (elim x as (λ _. Run) [
            | None ↦ times_out m p b c r
            | Some ks ↦ drop_call m p (Some c) (innermost (levels_of m r.kernel p)) cause r
          ])
          (elim x as (λ _. Run) [
            | None ↦ times_out m p b c (with_list jo r)
            | Some ks ↦ drop_call m p (Some c) (innermost (levels_of m r.kernel p)) cause
                (with_list jo r)
          ])
      by_marks None = alike (times_out m p b c r) jo h
      by_marks (Some ks) =
          drop_call_keeps p (Some c) (innermost (levels_of m r.kernel p)) cause r jo h

  action_keeps : (p : ℕ) (b : Blocker) (n : Option ℕ) → Keeps (action m p b n)
  action_keeps p b None r jo h = waiter_action_keeps p b (r.kernel.call p) r jo h
  action_keeps p b (Some n) r jo h =
      drop_call_keeps b.holder (r.kernel.call b.holder)
      (outermost_holding b.object (wanted b.object (needs m r.kernel p))
      (holds m r.kernel b.holder)) (TimeOut b.object p) r jo h

  entry_action_keeps : (e : Waiter) (b : Option Blocker) → Keeps (entry_action m e b)
  entry_action_keeps e None r jo h = alike r jo h
  entry_action_keeps e (Some b) r jo h = action_keeps e.process b b.call r jo h

  actions_keep : (n : ℕ) → Keeps (actions m n)
  actions_keep zero r jo h = alike r jo h
  actions_keep (suc n) r jo h =
      by_entry (expired r.kernel r.kernel.order) (λ a b k. on (actions m n) (actions_keep n) a b k)
    where
      by_entry : (x : Option Waiter) →
          ((a b : Run) → RunsAlike a b → RunsAlike (actions m n a) (actions m n b)) →
          RunsAlike (elim x as (λ _. Run) [
            | None ↦ r
            | Some e ↦ actions m n (settled m (entry_action m e e.blocker r))
          ])
          (elim x as (λ _. Run) [
            | None ↦ with_list jo r
            | Some e ↦ actions m n (settled m (entry_action m e e.blocker (with_list jo r)))
          ])
      by_entry None rest = alike r jo h
      by_entry (Some e) rest =
          rest _ _ (settled_alike m sees _ _ (entry_action_keeps e e.blocker r jo h))

  -- ---- any event

  event_on_keeps : (number : ℕ) (e : Event) → Keeps (event_on m number e)
  event_on_keeps number Tick r jo h = actions_keep 288 (ticked number r) jo h
  event_on_keeps number (Step p n) r jo h =
      either (lives r.kernel.objects.things.queue p) _ _ _ _
      (either (nat_le 1 n && nat_le n MOST_STEPS) _ _ _ _ (step_event_keeps number p n r jo h)
      (alike (noted (Refused number BadIndex) r) jo h))
      (alike (noted (Refused number NoProcess) r) jo h)
  event_on_keeps number (Sys p call) r jo h =
      either (lives r.kernel.objects.things.queue p) _ _ _ _
      (sys_keeps number p call (r.kernel.call p) r jo h)
      (alike (noted (Refused number NoProcess) r) jo h)

-- the law of events
pub events_see_failures : EventsSeeFailures
events_see_failures m k blocks number e io jo sees h =
    event_on_keeps m sees number e (record { kernel = k; blocks = blocks; notes = []; io = io })
    jo h
