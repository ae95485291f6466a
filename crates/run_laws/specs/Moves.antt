-- What lines of a script go through, move by move. A move is a step of a call, or the action of a
-- tick for a call that waited too long. Each definition goes the way of the abstract kernel's own
-- of that name, and keeps the moves alone.
use Rattle.std.specs.Prelude.{ℕ, zero, suc, Bool, true, false, not, ◌&&◌, nat_le, List, []}
use Rattle.std.specs.Prelude.{◌∷◌}
use Rattle.std.specs.Prelude.{◌++◌, Option, Some, None, Result, Ok, Err}
use Rattle.script_model.specs.declared.Event.{Event}
use Rattle.script_model.specs.declared.Event.TheVariants.{Tick, Step, Sys}
use Rattle.script_model.specs.declared.Keys.{Keys}
use Rattle.script_model.specs.declared.Refusal.{Refusal}
use Rattle.script_model.specs.declared.SysCall.{SysCall}
use Rattle.script_model.specs.Directory.{Disk}
use Rattle.script_model.specs.Policies.{lives}
use Rattle.script_model.specs.Meaning.{Meaning, Stage}
use Rattle.script_model.specs.Kernel.{Call, Waiter, Run, joins, with_call, has_level}
use Rattle.script_model.specs.Blocking.{blocker}
use Rattle.script_model.specs.Settle.{first_free, settled, step}
use Rattle.script_model.specs.Events.{MOST_STEPS, in_order, expired, ticked, entry_action}
use Rattle.script_model.specs.Session.{Build, first_session}
use Rattle.session_laws.specs.Lines.{lines_show}

-- a step of a process's call, or the action for a waiter who waited too long, on the run before it
pub data Move : Type 0 where
  Steps : (process : ℕ) → Run → Move
  Acts : Waiter → Run → Move

-- the run before a move
abbrev pub run_before : Move → Run
run_before (Steps p r) = r
run_before (Acts e r) = r

module _ (m : Meaning) where
  -- the run after it
  abbrev pub run_after : Move → Run
  run_after (Steps p r) = step m p r
  run_after (Acts e r) = entry_action m e e.blocker r

  -- ---- moves of an event

  -- the moves of settling, which takes at most so many steps
  abbrev pub settle_moves : ℕ → Run → List Move
  settle_moves zero r = []
  settle_moves (suc n) r =
      elim (first_free m r.kernel r.kernel.order)
      [ None ↦ [] | Some p ↦ Steps p r ∷ settle_moves n (step m p r) ]

  -- those of all steps that can be taken
  abbrev pub settled_moves : Run → List Move
  settled_moves r = settle_moves 256 r

  -- those of a call that begins, or is refused at once
  abbrev pub begun_moves : ℕ → ℕ → Result Stage Refusal → Run → List Move
  begun_moves number p (Err refusal) r = []
  begun_moves number p (Ok t) r =
      settled_moves
      (joins p (with_call p (Some (record { number = number; stage = t; marks = None })) r))

  -- those of a system call
  abbrev pub sys_moves : ℕ → ℕ → SysCall → Option Call → Run → List Move
  sys_moves number p call (Some c) r = []
  sys_moves number p call None r =
      begun_moves number p (m.early r.kernel.world r.kernel.images p call) r

  -- those of up to n instructions of the call of p, and of the steps after each
  abbrev pub steps_moves : ℕ → ℕ → Run → List Move
  steps_moves p zero r = []
  steps_moves p (suc n) r =
      elim (has_level (r.kernel.call p) && not (in_order p r.kernel.order)) [
        | false ↦ []
        | true ↦ elim (blocker m r.kernel p) [
          | Some b ↦ settled_moves (joins p r)
          | None ↦ Steps p r
              ∷ (settled_moves (step m p r) ++ steps_moves p n (settled m (step m p r)))
        ]
      ]

  -- those of a tick
  abbrev pub actions_moves : ℕ → Run → List Move
  actions_moves zero r = []
  actions_moves (suc n) r =
      elim (expired r.kernel r.kernel.order) [
        | None ↦ []
        | Some e ↦ Acts e r
            ∷ (settled_moves (entry_action m e e.blocker r)
            ++ actions_moves n (settled m (entry_action m e e.blocker r)))
      ]

  -- those of an event
  abbrev pub event_moves : ℕ → Event → Run → List Move
  event_moves number Tick r = actions_moves 288 (ticked number r)
  event_moves number (Step p n) r =
      elim (lives r.kernel.objects.things.queue p) [
        | false ↦ []
        | true ↦ elim (nat_le 1 n && nat_le n MOST_STEPS)
            [ true ↦ steps_moves p n r | false ↦ [] ]
      ]
  event_moves number (Sys p call) r =
      elim (lives r.kernel.objects.things.queue p)
      [ false ↦ [] | true ↦ sys_moves number p call (r.kernel.call p) r ]

-- ---- moves of a run

-- the moves of the lines of a script over a disk, from its first line on
abbrev pub moves_of : Build → Keys → Disk → List (List ℕ) → List (List Bool) → List Move
moves_of b keys d texts ios =
    lines_show (event_moves b.meaning) b keys d.size (first_session d) texts ios
