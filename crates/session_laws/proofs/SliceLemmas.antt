-- The slices of all processes, and the calls in flight, are together at most a run's events.
use Rattle.std.specs.Prelude.{◌≡◌, ℕ, suc, ◌+◌, ◌≤◌, nat_le, ◌&&◌, Bool, true, false, List, []}
use Rattle.std.specs.Prelude.{◌∷◌, Option, Some, None, is_some, Result, Ok, Err}
use Rattle.std.proofs.Common.{arith, refl, subst, sym, ap}
use Rattle.script_model.specs.declared.Keys.{Keys}
use Rattle.script_model.specs.declared.Event.{Event}
use Rattle.script_model.specs.declared.Event.TheVariants.{Tick, Step, Sys}
use Rattle.script_model.specs.declared.Note.TheVariants.{Refused, Ran}
use Rattle.script_model.specs.declared.Refusal.{Refusal}
use Rattle.script_model.specs.declared.Refusal.TheVariants.{NoProcess, BadIndex}
use Rattle.script_model.specs.declared.SysCall.{SysCall}
use Rattle.script_model.specs.Policies.{lives}
use Rattle.script_model.specs.Meaning.{Meaning, Stage}
use Rattle.script_model.specs.Levels.{Level}
use Rattle.script_model.specs.Kernel.{Call, Blocker, Kernel, Run, noted, joins, with_call}
use Rattle.script_model.specs.Blocking.{levels_of, blocker}
use Rattle.script_model.specs.Settle.{settled}
use Rattle.script_model.specs.Events.{MOST_STEPS, in_order, waits_note, graft_note, ticked}
use Rattle.script_model.specs.Events.{last_note, begun, sys_event, steps, step_event, actions}
use Rattle.script_model.specs.Events.{event_on}
use Rattle.script_model.specs.Opening.{opening_kernel}
use Rattle.script_model.specs.Session.{Build, Session, after_line, first_io, later_io, session_after, first_session}
use Rattle.script_model.specs.Sound.{once_if}
use Rattle.script_model.specs.Laws.{Laws, slices_in}
use Rattle.call_laws.specs.Ledgers.{at_here, at_other, sum_one, sum_zero}
use Rattle.kernel_laws.proofs.InstructionLemmas.{instructions_work}
use Rattle.kernel_laws.proofs.HistoryLemmas.{histories_work}
use Rattle.kernel_laws.proofs.SoundConfigLemmas.{effects_stay_sound}
use Rattle.graft_laws.proofs.MoveLemmas.{StandsAt}
use Rattle.graft_laws.proofs.GoLemmas.{goes_self, settled_goes, steps_go, actions_go}
use Rattle.graft_laws.proofs.NoteLemmas.{begun_stands, sound_stands}
use Rattle.session_laws.specs.Slices.{calls_in_flight, slices_due, SlicesWithinEvents}
use Rattle.session_laws.proofs.EventCountLemmas.{IsEventCount, WithinEvents, IsWithin, RaisesByOne, line_within}
use Rattle.session_laws.proofs.SessionLemmas.{StandsWith, Stands, line_stands, first_session_stands}

-- of a run
abbrev due : Run → ℕ
due r = slices_due r.kernel

-- they are 0 at boot, and an image leaves them
slices_count : IsEventCount slices_due
slices_count =
    record {
      opens = λ v. still_none (calls_in_flight (opening_kernel v))
          (sum_zero 16 (λ p. once_if (is_some ((opening_kernel v).call p))) (λ p low. refl));
      images = λ slot i k. refl;
    }
  where
    still_none : (n : ℕ) → n ≡ 0 → 0 + n ≡ 0
    still_none n e = omega arith

none_more : (n : ℕ) → n ≤ suc n
none_more n = omega arith

-- what is no more is at most one more
not_more : (x n : ℕ) → x ≤ n → x ≤ suc n
not_more x n h = omega arith

module _ (m : Meaning) (laws : Laws m) where
  -- ---- the last line

  -- it leaves the kernel
  pub last_kernel : (p : ℕ) (x : Option Call) (r : Run) → (last_note m p x r).kernel ≡ r.kernel
  last_kernel p None r = refl
  last_kernel p (Some c) r = by_place (in_order p r.kernel.order)
    where
      waits : (b : Option Blocker) → (waits_note c.number b r).kernel ≡ r.kernel
      waits None = refl
      waits (Some b) = refl

      stands : (ls : List Level) → (graft_note c.number ls r).kernel ≡ r.kernel
      stands [] = refl
      stands (l ∷ ls) = refl

      by_place : (b : Bool) → (elim b as (λ _. Run) [
        | true ↦ waits_note c.number (blocker m r.kernel p) r
        | false ↦ graft_note c.number (levels_of m r.kernel p) r
      ]).kernel ≡ r.kernel
      by_place true = waits (blocker m r.kernel p)
      by_place false = stands (levels_of m r.kernel p)

  -- what stands before it stands after it
  last_due : (p n : ℕ) (r : Run) → due r ≤ n → due (last_note m p (r.kernel.call p) r) ≤ n
  last_due p n r h = subst (λ k. slices_due k ≤ n) (sym (last_kernel p (r.kernel.call p) r)) h

  -- ---- events

  -- a call that begins is one more in flight
  begins_due : (number p : ℕ) (t : Stage) (r : Run) → StandsAt m r →
      lives r.kernel.objects.things.queue p ≡ true →
      due (joins p (with_call p (Some (record { number = number; stage = t; marks = None })) r)) ≤ suc (due r)
  begins_due number p t r h alive =
      let new : Call = record { number = number; stage = t; marks = None } in
      let u = joins p (with_call p (Some new) r) in
      one (slices_in r.kernel.objects.things.queue) (calls_in_flight u.kernel) (calls_in_flight r.kernel)
      (once_if (is_some (u.kernel.call p))) (once_if (is_some (r.kernel.call p)))
      (sum_one 16 p (λ q. once_if (is_some (u.kernel.call q))) (λ q. once_if (is_some (r.kernel.call q)))
      (h.store.numbers p alive)
      (λ q low ne. ap (λ x. once_if (is_some x)) (at_other p q (Some new) r.kernel.call ne)))
      (ap (λ x. once_if (is_some x)) (at_here p (Some new) r.kernel.call))
    where
      one : (s x y a b : ℕ) → x + b ≡ y + a → a ≡ 1 → s + x ≤ suc (s + y)
      one s x y a b e f = omega arith

  begun_due : (number p : ℕ) (call : SysCall) (x : Result Stage Refusal) (r : Run) → StandsAt m r →
      lives r.kernel.objects.things.queue p ≡ true →
      m.early r.kernel.world r.kernel.images p call ≡ x →
      due (begun m number p x r) ≤ suc (due r)
  begun_due number p call (Err why) r h alive e = none_more (due r)
  begun_due number p call (Ok t) r h alive e =
      let u = joins p (with_call p (Some (record { number = number; stage = t; marks = None })) r) in
      let stands = begun_stands m laws number p call t r h alive e in
      at_most (due (settled m u)) (due u) (suc (due r))
      (settled_goes m laws instructions_work (histories_work m) u u (goes_self m u stands)).slices
      (begins_due number p t r h alive)
    where
      at_most : (a b c : ℕ) → a ≤ b → b ≤ c → a ≤ c
      at_most a b c e f = omega arith

  call_due : (number p : ℕ) (call : SysCall) (x : Option Call) (r : Run) → StandsAt m r →
      lives r.kernel.objects.things.queue p ≡ true →
      due (sys_event m number p call x r) ≤ suc (due r)
  call_due number p call (Some c) r h alive = none_more (due r)
  call_due number p call None r h alive =
      last_due p (suc (due r)) (begun m number p (m.early r.kernel.world r.kernel.images p call) r)
      (begun_due number p call (m.early r.kernel.world r.kernel.images p call) r h alive refl)

  step_due : (number p n : ℕ) (r : Run) → StandsAt m r → due (step_event m number p n r) ≤ due r
  step_due number p n r h =
      let s = steps m p n 0 r in
      last_due p (due r) (noted (Ran number s.0) s.1)
      (steps_go m laws instructions_work (histories_work m) p n 0 r h).slices

  tick_due : (number : ℕ) (r : Run) → StandsAt m r → due (actions m 288 (ticked number r)) ≤ due r
  tick_due number r h =
      let u = ticked number r in
      let stands : StandsAt m u = record {
        store = h.store;
        disk = h.disk;
        whole = h.whole;
        callers = h.callers;
        granted = h.granted;
        fit = h.fit;
      } in
      (actions_go m laws instructions_work (histories_work m) effects_stay_sound 288 u stands).slices

  -- an event raises them by at most one
  event_due : (number : ℕ) (e : Event) (r : Run) → StandsAt m r →
      due (event_on m number e r) ≤ suc (due r)
  event_due number Tick r h =
      not_more (due (event_on m number Tick r)) (due r) (tick_due number r h)
  event_due number (Step p n) r h =
      step_by (lives r.kernel.objects.things.queue p) (nat_le 1 n && nat_le n MOST_STEPS)
    where
      step_by : (alive right : Bool) → due (elim alive as (λ _. Run) [
        | false ↦ noted (Refused number NoProcess) r
        | true ↦ elim right as (λ _. Run)
            [ true ↦ step_event m number p n r | false ↦ noted (Refused number BadIndex) r ]
      ]) ≤ suc (due r)
      step_by false right = none_more (due r)
      step_by true false = none_more (due r)
      step_by true true = not_more (due (step_event m number p n r)) (due r) (step_due number p n r h)
  event_due number (Sys p call) r h = sys_by (lives r.kernel.objects.things.queue p) refl
    where
      sys_by : (alive : Bool) → lives r.kernel.objects.things.queue p ≡ alive → due (elim alive as (λ _. Run) [
        | false ↦ noted (Refused number NoProcess) r
        | true ↦ sys_event m number p call (r.kernel.call p) r
      ]) ≤ suc (due r)
      sys_by false e = none_more (due r)
      sys_by true e = call_due number p call (r.kernel.call p) r h e

-- ---- lines

module _ (b : Build) (keys : Keys) (size : ℕ) where
  -- an event of a session that stands
  events_raise : Laws b.meaning → (s : Session) (x : Option Kernel) → StandsWith b keys size s x →
      RaisesByOne slices_due b.meaning s.events s.blocks x
  events_raise laws s None h = tt
  events_raise laws s (Some k) h =
      λ e io. event_due b.meaning laws (suc s.events) e
      (record { kernel = k; blocks = s.blocks; notes = []; io = io })
      (sound_stands b.meaning k s.blocks h.0 h.1)

  module _ (laws : Laws b.meaning) (callable : b.callable ≤ 15) (some : 1 ≤ size) (high : size ≤ 4096) where
    lines_within : (s : Session) (texts : List (List ℕ)) (ios : List (List Bool)) → Stands b keys size s →
        IsWithin slices_due s → IsWithin slices_due (session_after b keys size s texts ios)
    lines_within s [] ios stands h = h
    lines_within s (text ∷ texts) ios stands h =
        lines_within (after_line b keys size s text (first_io ios)).session texts (later_io ios)
        (line_stands b keys size laws callable some high s text (first_io ios) stands)
        (line_within slices_due slices_count b keys size s text (first_io ios)
        (events_raise laws s s.kernel stands) h)

pub slices_within_events : SlicesWithinEvents
slices_within_events b keys d texts ios k h is =
    let s = session_after b keys d.size (first_session d) texts ios in
    subst (WithinEvents slices_due s.events) is
    (lines_within b keys d.size h.laws h.callable h.some h.most (first_session d) texts ios
    (first_session_stands b keys d h) tt)
