-- The clock of a run is at most the number of its events.
use Rattle.std.specs.Prelude.{◌≡◌, ℕ, suc, ◌≤◌, Bool, List, [], ◌∷◌, Option, Some, None, Result}
use Rattle.std.proofs.Common.{arith, refl, subst}
use Rattle.script_model.specs.declared.Event.{Event}
use Rattle.script_model.specs.declared.Event.TheVariants.{Tick, Step, Sys}
use Rattle.script_model.specs.World.{Image, Blocks}
use Rattle.script_model.specs.declared.Keys.{Keys}
use Rattle.script_model.specs.Images.{LoadFault}
use Rattle.script_model.specs.Kernel.{Kernel}
use Rattle.script_model.specs.Events.{event}
use Rattle.script_model.specs.Meaning.{Meaning}
use Rattle.script_model.specs.Session.{Build, Session, after_line, first_io}
use Rattle.script_model.specs.ImageLines.{image_answer}
use Rattle.script_model.specs.Session.{later_io, session_after, first_session}
use Rattle.kernel_laws.proofs.ClockLemmas.{ticks_raise_the_clock, others_leave_the_clock}
use Rattle.session_laws.specs.Clock.{ClockWithinEvents}
use Rattle.session_laws.proofs.EventCountLemmas.{IsEventCount, WithinEvents, IsWithin, RaisesByOne}
use Rattle.session_laws.proofs.EventCountLemmas.{image_leaves, line_within}

abbrev clock_of : Kernel → ℕ
clock_of k = k.clock

clock_counts : IsEventCount clock_of
clock_counts = record { opens = λ v. refl; images = λ slot i k. refl }

-- an image line leaves the clock
pub image_clock : (slot : ℕ) (x : Result Image LoadFault) (k : Kernel) →
    (image_answer slot x k).0.clock ≡ k.clock
image_clock slot x k = image_leaves clock_of clock_counts slot x k

-- an event raises the clock by at most one
event_clock : (m : Meaning) (k : Kernel) (blocks : Blocks) (number : ℕ) (e : Event)
    (io : List Bool) →
    (event m k blocks number e io).kernel.clock ≤ suc k.clock
event_clock m k blocks number Tick io =
    raised (event m k blocks number Tick io).kernel.clock k.clock
    (ticks_raise_the_clock m k blocks number io)
  where
    raised : (x c : ℕ) → x ≡ suc c → x ≤ suc c
    raised x c e = omega arith
event_clock m k blocks number (Step p count) io =
    left (event m k blocks number (Step p count) io).kernel.clock k.clock
    (others_leave_the_clock m k blocks number (Step p count) io refl)
  where
    left : (x c : ℕ) → x ≡ c → x ≤ suc c
    left x c e = omega arith
event_clock m k blocks number (Sys p call) io =
    left (event m k blocks number (Sys p call) io).kernel.clock k.clock
    (others_leave_the_clock m k blocks number (Sys p call) io refl)
  where
    left : (x c : ℕ) → x ≡ c → x ≤ suc c
    left x c e = omega arith

-- so does the next one of a session
events_raise : (m : Meaning) (n : ℕ) (blocks : Blocks) (x : Option Kernel) →
    RaisesByOne clock_of m n blocks x
events_raise m n blocks None = tt
events_raise m n blocks (Some k) = λ e io. event_clock m k blocks (suc n) e io

module _ (b : Build) (keys : Keys) (size : ℕ) where
  lines_within : (s : Session) (texts : List (List ℕ)) (ios : List (List Bool)) → IsWithin clock_of s →
      IsWithin clock_of (session_after b keys size s texts ios)
  lines_within s [] ios h = h
  lines_within s (text ∷ texts) ios h =
      lines_within (after_line b keys size s text (first_io ios)).session texts (later_io ios)
      (line_within clock_of clock_counts b keys size s text (first_io ios)
      (events_raise b.meaning s.events s.blocks s.kernel) h)

pub clock_within_events : ClockWithinEvents
clock_within_events b keys d texts ios k is =
    let s = session_after b keys d.size (first_session d) texts ios in
    subst (WithinEvents clock_of s.events) is (lines_within b keys d.size (first_session d) texts ios tt)
