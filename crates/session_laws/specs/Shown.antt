-- What the steps of a run of events show, whatever is looked at in a step. Each definition goes the
-- way of the abstract kernel's own of that name, and keeps nothing but what the steps show.
use Rattle.std.specs.Prelude.{ℕ, zero, suc, Bool, true, false, not, ◌&&◌, nat_le, List, [], ◌∷◌}
use Rattle.std.specs.Prelude.{◌++◌, Option, Some, None, Result, Ok, Err}
use Rattle.script_model.specs.declared.Event.{Event}
use Rattle.script_model.specs.declared.Event.TheVariants.{Tick, Step, Sys}
use Rattle.script_model.specs.declared.SysCall.{SysCall}
use Rattle.script_model.specs.declared.Refusal.{Refusal}
use Rattle.script_model.specs.World.{Blocks}
use Rattle.script_model.specs.Policies.{lives}
use Rattle.script_model.specs.Meaning.{Meaning, Stage}
use Rattle.script_model.specs.Kernel.{Call, Kernel, Run, joins, with_call, has_level}
use Rattle.script_model.specs.Blocking.{blocker}
use Rattle.script_model.specs.Settle.{first_free, settled, step}
use Rattle.script_model.specs.Events.{MOST_STEPS, in_order, expired, ticked, entry_action, event}
use Rattle.script_model.specs.Session.{first_io, later_io}

-- ---- a run of several events

-- a run of no event yet
abbrev pub before_events : Kernel → Blocks → Run
before_events k blocks = record { kernel = k; blocks = blocks; notes = []; io = [] }

-- an event begins on a run's kernel and blocks, with no note of its own yet, and with its own calls
-- of the disk
abbrev pub begins_on : List Bool → Run → Run
begins_on io r = record { kernel = r.kernel; blocks = r.blocks; notes = []; io = io }

-- a run goes on with a numbered event, whose notes come behind
abbrev pub with_event : Meaning → ℕ × Event → List Bool → Run → Run
with_event m e io r =
    let u = event m r.kernel r.blocks e.0 e.1 io in record u { notes = r.notes ++ u.notes }

-- the run after numbered events, one after another, with one list for each one's calls of the disk
abbrev pub events_on : Meaning → List (ℕ × Event) → List (List Bool) → Run → Run
events_on m [] ios r = r
events_on m (e ∷ es) ios r = events_on m es (later_io ios) (with_event m e (first_io ios) r)

-- the run of numbered events that begins with a kernel
abbrev pub run_from : Meaning → Kernel → Blocks → List (ℕ × Event) → List (List Bool) → Run
run_from m k blocks es ios = events_on m es ios (before_events k blocks)

-- ---- what is shown

-- where `shows` tells what the next step of a process shows
module _ {A : Type 0} (m : Meaning) (shows : ℕ → Run → List A) where
  -- what settling shows, which takes at most so many steps
  abbrev pub settle_shows : ℕ → Run → List A
  settle_shows zero r = []
  settle_shows (suc n) r =
      elim (first_free m r.kernel r.kernel.order)
      [ None ↦ [] | Some p ↦ shows p r ++ settle_shows n (step m p r) ]

  -- what all steps show that can be taken
  abbrev pub settled_shows : Run → List A
  settled_shows r = settle_shows 256 r

  -- what is shown where a call begins, or is refused at once
  abbrev pub begun_shows : ℕ → ℕ → Result Stage Refusal → Run → List A
  begun_shows number p (Err refusal) r = []
  begun_shows number p (Ok t) r =
      settled_shows
      (joins p (with_call p (Some (record { number = number; stage = t; marks = None })) r))

  -- what a system call shows
  abbrev pub sys_shows : ℕ → ℕ → SysCall → Option Call → Run → List A
  sys_shows number p call (Some c) r = []
  sys_shows number p call None r =
      begun_shows number p (m.early r.kernel.world r.kernel.images p call) r

  -- what up to n instructions of the call of p show, and the steps after each
  abbrev pub steps_show : ℕ → ℕ → Run → List A
  steps_show p zero r = []
  steps_show p (suc n) r =
      elim (has_level (r.kernel.call p) && not (in_order p r.kernel.order)) [
        | false ↦ []
        | true ↦ elim (blocker m r.kernel p) [
          | Some b ↦ settled_shows (joins p r)
          | None ↦ shows p r
              ++ (settled_shows (step m p r) ++ steps_show p n (settled m (step m p r)))
        ]
      ]

  -- what the actions of a tick show: none of them is a step, and after each one the kernel settles
  abbrev pub actions_show : ℕ → Run → List A
  actions_show zero r = []
  actions_show (suc n) r =
      elim (expired r.kernel r.kernel.order) [
        | None ↦ []
        | Some e ↦ settled_shows (entry_action m e e.blocker r)
            ++ actions_show n (settled m (entry_action m e e.blocker r))
      ]

  -- what an event shows
  abbrev pub event_on_shows : ℕ → Event → Run → List A
  event_on_shows number Tick r = actions_show 288 (ticked number r)
  event_on_shows number (Step p n) r =
      elim (lives r.kernel.objects.things.queue p) [
        | false ↦ []
        | true ↦ elim (nat_le 1 n && nat_le n MOST_STEPS) [ true ↦ steps_show p n r | false ↦ [] ]
      ]
  event_on_shows number (Sys p call) r =
      elim (lives r.kernel.objects.things.queue p)
      [ false ↦ [] | true ↦ sys_shows number p call (r.kernel.call p) r ]

  -- what numbered events show, one after another
  abbrev pub events_show : List (ℕ × Event) → List (List Bool) → Run → List A
  events_show [] ios r = []
  events_show (e ∷ es) ios r =
      event_on_shows e.0 e.1 (begins_on (first_io ios) r)
      ++ events_show es (later_io ios) (with_event m e (first_io ios) r)

  -- what the run of numbered events shows that begins with a kernel
  abbrev pub run_shows : Kernel → Blocks → List (ℕ × Event) → List (List Bool) → List A
  run_shows k blocks es ios = events_show es ios (before_events k blocks)
