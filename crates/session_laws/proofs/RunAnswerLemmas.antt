-- Each kernel of a run rests, and its calls have the numbers of events that were: so the next event
-- is answered.
use Rattle.std.specs.Prelude.{◌≡◌, ℕ, suc, ◌<◌, ◌≤◌, ◌==◌, ◌&&◌, nat_le, Bool, true, false, List}
use Rattle.std.specs.Prelude.{[], ◌∷◌, Option, Some, None, is_some, Result, Ok, Err}
use Rattle.std.specs.List.{AllByRecursion}
use Rattle.std.proofs.Common.{arith, refl, subst, sym, ap, ◌∙◌, inl, inr}
use Rattle.std.proofs.lemmas.Bool.{cases_eq}
use Rattle.std.proofs.lemmas.Bool.Decides.{nat_tests}
use Rattle.script_model.specs.declared.Event.{Event}
use Rattle.script_model.specs.declared.Event.TheVariants.{Tick, Step, Sys}
use Rattle.script_model.specs.declared.Keys.{Keys}
use Rattle.script_model.specs.declared.Note.TheVariants.{Refused, Ran}
use Rattle.script_model.specs.declared.Refusal.{Refusal}
use Rattle.script_model.specs.declared.Refusal.TheVariants.{NoProcess, BadIndex}
use Rattle.script_model.specs.declared.SysCall.{SysCall}
use Rattle.script_model.specs.World.{World, Image}
use Rattle.script_model.specs.Objects.{at}
use Rattle.script_model.specs.Policies.{lives}
use Rattle.script_model.specs.Meaning.{Meaning, Stage}
use Rattle.script_model.specs.Kernel.{Call, Waiter, Kernel, Run, noted, joins, with_call}
use Rattle.script_model.specs.Blocking.{blocker}
use Rattle.script_model.specs.Events.{MOST_STEPS, counted, ticked, last_note, begun, sys_event}
use Rattle.script_model.specs.Events.{steps, step_event, entry_action, actions, event_on}
use Rattle.script_model.specs.Alike.{Extends}
use Rattle.script_model.specs.Opening.{opening_kernel}
use Rattle.script_model.specs.Session.{Build, Session, after_line, first_io, later_io, session_after, first_session}
use Rattle.script_model.specs.Sound.{IsAtRest}
use Rattle.script_model.specs.Directory.{Disk}
use Rattle.script_model.specs.Laws.{Laws}
use Rattle.call_laws.specs.Ledgers.{at_here, at_other}
use Rattle.graft_laws.specs.Kernels.{IsSoundRun}
use Rattle.graft_laws.proofs.EventLemmas.{ticked_sound}
use Rattle.graft_laws.proofs.KernelStepLemmas.{drop_sound}
use Rattle.graft_laws.proofs.SettleSoundLemmas.{timed_out_sound, joined_call_sound}
use Rattle.session_laws.specs.NoteNumbers.{numbered}
use Rattle.session_laws.specs.Answers.{has_call, RunsAnswer}
use Rattle.session_laws.specs.Sessions.{run_of, IsRunnable}
use Rattle.session_laws.proofs.ActionLemmas.{Loses, entry_keeps, actions_keep, settled_keeps}
use Rattle.session_laws.proofs.ActionLemmas.{all_steps_keep, all_actions_keep}
use Rattle.session_laws.proofs.AnsweringLemmas.{call_test, IsAbsent, absent_kept}
use Rattle.session_laws.proofs.AnswerLemmas.{IsQuiet, settled_quiet, steps_quiet, events_are_answered}
use Rattle.session_laws.proofs.ImageRestLemmas.{blocker_grown}
use Rattle.session_laws.proofs.LineLemmas.{Holds, HoldsIn, GoesOnFrom, line_holds}
use Rattle.session_laws.proofs.SessionLemmas.{StandsWith, Stands, line_stands, first_session_stands, runs_are_sound}
use Rattle.session_laws.proofs.SliceLemmas.{last_kernel}
use Rattle.kernel_laws.proofs.LevelLemmas.{each_contains, each_from}

module _ (m : Meaning) (laws : Laws m) where
  -- ---- rest

  -- an entry that is blocked by what it keeps
  abbrev IsBlocked : Kernel → Waiter → Type 0
  IsBlocked k e = (is_some e.blocker ≡ true) × (blocker m k e.process ≡ e.blocker)

  ticked_quiet : (number : ℕ) (r : Run) → IsQuiet m r → IsQuiet m (ticked number r)
  ticked_quiet number r h =
      record {
        sound = ticked_sound m laws laws.need.grafts number r h.sound;
        rests = λ e among. each_contains (IsBlocked r.kernel) (counted r.kernel.order) e
            (counted_blocked r.kernel.order (each_from (IsBlocked r.kernel) r.kernel.order h.rests)) among;
      }
    where
      counted_blocked : (es : List Waiter) → AllByRecursion (IsBlocked r.kernel) es →
          AllByRecursion (IsBlocked r.kernel) (counted es)
      counted_blocked [] h = tt
      counted_blocked (e ∷ es) h = (h.0, counted_blocked es h.1)

  loses : Loses m (IsSoundRun m)
  loses = record {
    drops = λ p n cause r low h. drop_sound m laws laws.need.grafts r p n cause h low;
    ends = λ p b c r is h. timed_out_sound m laws laws.need.grafts p b c r h is;
  }

  tick_quiet : (number : ℕ) (r : Run) → IsQuiet m r → IsQuiet m (actions m 288 (ticked number r))
  tick_quiet number r h =
      actions_keep m (IsQuiet m)
      (λ e r h. settled_quiet m laws (entry_action m e e.blocker r)
      (entry_keeps m laws (IsSoundRun m) loses e e.blocker r h.sound)) 288
      (ticked number r) (ticked_quiet number r h)

  last_rests : (p : ℕ) (r : Run) → IsAtRest m r.kernel →
      IsAtRest m (last_note m p (r.kernel.call p) r).kernel
  last_rests p r h = subst (IsAtRest m) (sym (last_kernel m laws p (r.kernel.call p) r)) h

  begun_rests : (number p : ℕ) (call : SysCall) (x : Result Stage Refusal) (r : Run) → IsQuiet m r →
      r.kernel.call p ≡ None → lives r.kernel.objects.things.queue p ≡ true →
      m.early r.kernel.world r.kernel.images p call ≡ x → IsAtRest m (begun m number p x r).kernel
  begun_rests number p call (Err why) r h none alive early = h.rests
  begun_rests number p call (Ok t) r h none alive early =
      (settled_quiet m laws (joins p (with_call p (Some (record { number = number; stage = t; marks = None })) r))
      (joined_call_sound m laws laws.need.grafts number p call t r h.sound none alive early)).rests

  event_rests : (number : ℕ) (e : Event) (r : Run) → IsQuiet m r →
      IsAtRest m (event_on m number e r).kernel
  event_rests number Tick r h = (tick_quiet number r h).rests
  event_rests number (Step p n) r h =
      by_both (lives r.kernel.objects.things.queue p) (nat_le 1 n && nat_le n MOST_STEPS)
    where
      by_both : (a b : Bool) → IsAtRest m (elim a as (λ _. Run) [
        | false ↦ noted (Refused number NoProcess) r
        | true ↦ elim b as (λ _. Run)
            [ true ↦ step_event m number p n r | false ↦ noted (Refused number BadIndex) r ]
      ]).kernel
      by_both false b = h.rests
      by_both true false = h.rests
      by_both true true =
          let s = steps m p n 0 r in
          last_rests p (noted (Ran number s.0) s.1) (steps_quiet m laws p n 0 r h).rests
  event_rests number (Sys p call) r h = by_lives (lives r.kernel.objects.things.queue p) refl
    where
      by_call : (x : Option Call) → r.kernel.call p ≡ x → lives r.kernel.objects.things.queue p ≡ true →
          IsAtRest m (sys_event m number p call x r).kernel
      by_call (Some c) is alive = h.rests
      by_call None is alive =
          let x = m.early r.kernel.world r.kernel.images p call in
          last_rests p (begun m number p x r) (begun_rests number p call x r h is alive refl)

      by_lives : (alive : Bool) → lives r.kernel.objects.things.queue p ≡ alive →
          IsAtRest m (elim alive as (λ _. Run) [
            | false ↦ noted (Refused number NoProcess) r
            | true ↦ sys_event m number p call (r.kernel.call p) r
          ]).kernel
      by_lives false e = h.rests
      by_lives true e = by_call (r.kernel.call p) refl e

  -- ---- numbers

  -- no call in flight has this number
  abbrev IsFree : ℕ → Kernel → Type 0
  IsFree i k = (q : ℕ) → has_call k q i ≡ false

  absent : (i : ℕ) (r : Run) → IsFree i r.kernel → IsAbsent i (numbered i r.notes) r
  absent i r h = record { calls = h; told = refl }

  last_free : (i p : ℕ) (r : Run) → IsFree i r.kernel →
      IsFree i (last_note m p (r.kernel.call p) r).kernel
  last_free i p r h = subst (IsFree i) (sym (last_kernel m laws p (r.kernel.call p) r)) h

  begun_free : (number i p : ℕ) (x : Result Stage Refusal) (r : Run) → (number == i) ≡ false →
      IsFree i r.kernel → IsFree i (begun m number p x r).kernel
  begun_free number i p (Err why) r other h = h
  begun_free number i p (Ok t) r other h =
      let c : Call = record { number = number; stage = t; marks = None } in
      let u = joins p (with_call p (Some c) r) in
      let free : IsFree i u.kernel = λ q. elim (cases_eq q p) [
        | inl same ↦ ap (λ j. has_call u.kernel j i) same
            ∙ call_test u.kernel p i (Some c) (at_here p (Some c) r.kernel.call) ∙ other
        | inr ne ↦ call_test u.kernel q i (r.kernel.call q) (at_other p q (Some c) r.kernel.call ne) ∙ h q
      ] in
      (settled_keeps m (IsAbsent i (numbered i u.notes)) (absent_kept m i (numbered i u.notes)) u
      (absent i u free)).calls

  -- an event of another number leaves it so
  event_free : (number i : ℕ) (e : Event) (r : Run) → (number == i) ≡ false → IsFree i r.kernel →
      IsFree i (event_on m number e r).kernel
  event_free number i Tick r other h =
      let u = ticked number r in
      (all_actions_keep m (IsAbsent i (numbered i u.notes)) (absent_kept m i (numbered i u.notes)) laws 288 u
      (absent i u h)).calls
  event_free number i (Step p n) r other h =
      by_both (lives r.kernel.objects.things.queue p) (nat_le 1 n && nat_le n MOST_STEPS)
    where
      by_both : (a b : Bool) → IsFree i (elim a as (λ _. Run) [
        | false ↦ noted (Refused number NoProcess) r
        | true ↦ elim b as (λ _. Run)
            [ true ↦ step_event m number p n r | false ↦ noted (Refused number BadIndex) r ]
      ]).kernel
      by_both false b = h
      by_both true false = h
      by_both true true =
          let s = steps m p n 0 r in
          last_free i p (noted (Ran number s.0) s.1)
          (all_steps_keep m (IsAbsent i (numbered i r.notes)) (absent_kept m i (numbered i r.notes)) p n 0 r
          (absent i r h)).calls
  event_free number i (Sys p call) r other h = by_lives (lives r.kernel.objects.things.queue p)
    where
      by_call : (x : Option Call) → IsFree i (sys_event m number p call x r).kernel
      by_call (Some c) = h
      by_call None =
          let x = m.early r.kernel.world r.kernel.images p call in
          last_free i p (begun m number p x r) (begun_free number i p x r other h)

      by_lives : (alive : Bool) → IsFree i (elim alive as (λ _. Run) [
        | false ↦ noted (Refused number NoProcess) r
        | true ↦ sys_event m number p call (r.kernel.call p) r
      ]).kernel
      by_lives false = h
      by_lives true = by_call (r.kernel.call p)

-- ---- sessions

-- a kernel after so many events rests, and no call has a later number
record RestsAfter (m : Meaning) (n : ℕ) (k : Kernel) : Type 0 where
  rests : IsAtRest m k
  free : (i : ℕ) → n < i → (q : ℕ) → has_call k q i ≡ false

opening_rests : (m : Meaning) (n : ℕ) (v : World) → RestsAfter m n (opening_kernel v)
opening_rests m n v = record { rests = λ e among. absurd (nothing among.0 among.1); free = λ i low q. refl }
  where
    nothing : (i : ℕ) → i < 0 → ⊥
    nothing i h = omega arith

-- an image in a free slot leaves the others
slot_extends : (k : Kernel) (slot : ℕ) (i : Image) → k.images slot ≡ None →
    Extends k.images (at slot (Some i) k.images)
slot_extends k slot i free s j is = elim (cases_eq s slot) [
  | inl same ↦ absurd (none_some j (sym free ∙ ap k.images (sym same) ∙ is))
  | inr ne ↦ at_other slot s (Some i) k.images ne ∙ is
]
  where
    none_some : (j : Image) → None ≡ Some j → ⊥
    none_some j e = cc

module _ (b : Build) (keys : Keys) (size : ℕ) where
  goes_on : Laws b.meaning → (s : Session) (x : Option Kernel) → StandsWith b keys size s x →
      Holds (RestsAfter b.meaning) s.events x →
      GoesOnFrom (RestsAfter b.meaning) b.meaning s.events s.blocks x
  goes_on laws s None stands h = tt
  goes_on laws s (Some k) stands h =
      let r : List Bool → Run = λ io. record { kernel = k; blocks = s.blocks; notes = []; io = io } in
      let sound : IsSoundRun b.meaning (r []) = record { kernel = stands.0; blocks = stands.1 } in
      record {
        same = record { rests = h.rests; free = λ i low. h.free i (later s.events i low) };
        images = λ slot i none. record {
          rests = λ e among.
              let rest = h.rests e among in (
                rest.0,
                blocker_grown b.meaning laws (r []) sound (at slot (Some i) k.images)
                    (slot_extends k slot i none) e.process ∙ rest.1,
              );
          free = λ i low. h.free i (later s.events i low);
        };
        events = λ e io. record {
          rests = event_rests b.meaning laws (suc s.events) e (r io)
              (record { sound = record { kernel = stands.0; blocks = stands.1 }; rests = h.rests });
          free = λ i low. event_free b.meaning laws (suc s.events) i e (r io) (apart (suc s.events) i low)
              (h.free i (later s.events i low));
        };
      }
    where
      later : (n i : ℕ) → suc n < i → n < i
      later n i low = omega arith

      apart : (n i : ℕ) → n < i → (n == i) ≡ false
      apart n i low = grind (arith, nat_tests)

  module _ (laws : Laws b.meaning) (callable : b.callable ≤ 15) (some : 1 ≤ size) (high : size ≤ 4096)
    where
      lines_rest : (s : Session) (texts : List (List ℕ)) (ios : List (List Bool)) →
          Stands b keys size s → HoldsIn (RestsAfter b.meaning) s →
          HoldsIn (RestsAfter b.meaning) (session_after b keys size s texts ios)
      lines_rest s [] ios stands h = h
      lines_rest s (text ∷ texts) ios stands h =
          lines_rest (after_line b keys size s text (first_io ios)).session texts (later_io ios)
          (line_stands b keys size laws callable some high s text (first_io ios) stands)
          (line_holds (RestsAfter b.meaning) (opening_rests b.meaning) b keys size s text (first_io ios)
          (goes_on laws s s.kernel stands h) h)

-- each kernel of a run rests, and no call has the number of an event to come
runs_rest_after : (b : Build) (keys : Keys) (d : Disk) (texts : List (List ℕ)) (ios : List (List Bool)) (k : Kernel) →
    IsRunnable b d → (run_of b keys d texts ios).kernel ≡ Some k →
    RestsAfter b.meaning (run_of b keys d texts ios).events k
runs_rest_after b keys d texts ios k h is =
    subst (Holds (RestsAfter b.meaning) (run_of b keys d texts ios).events) is
    (lines_rest b keys d.size h.laws h.callable h.some h.most (first_session d) texts ios
    (first_session_stands b keys d h) tt)

pub runs_rest : (b : Build) (keys : Keys) (d : Disk) (texts : List (List ℕ)) (ios : List (List Bool)) (k : Kernel) →
    IsRunnable b d → (run_of b keys d texts ios).kernel ≡ Some k → IsAtRest b.meaning k
runs_rest b keys d texts ios k h is = (runs_rest_after b keys d texts ios k h is).rests

pub runs_answer : RunsAnswer
runs_answer b keys d texts ios k h is =
    let s = session_after b keys d.size (first_session d) texts ios in
    let sound = runs_are_sound b keys d texts ios k h is in
    let ready = runs_rest_after b keys d texts ios k h is in
    events_are_answered b.meaning h.laws k s.blocks (suc s.events) sound.0 ready.rests sound.1
    (ready.free (suc s.events) (next s.events))
  where
    next : (n : ℕ) → n < suc n
    next n = omega arith
