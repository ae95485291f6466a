-- What the clock of a run counts.
use Rattle.std.specs.Prelude.{◌≡◌, ℕ, ◌+◌, ◌≤◌, Bool, true, false, ◌&&◌, List, [], ◌∷◌, is_some, Some, Result, Ok, Err}
use Rattle.script_model.specs.declared.Keys.{Keys}
use Rattle.script_model.specs.Directory.{Disk}
use Rattle.script_model.specs.Kernel.{Kernel}
use Rattle.script_model.specs.Script.{Entry, Happens, ScriptFault, OwnWord, parsed_line}
use Rattle.script_model.specs.Session.{Build, Session, first_session, after_line, first_io, later_io}
use Rattle.script_model.specs.Sound.{once_if}
use Rattle.kernel_laws.specs.Clock.{is_tick}
use Rattle.session_laws.specs.Sessions.{run_of}

-- an entry is a tick
abbrev pub is_tick_entry : Entry → Bool
is_tick_entry (Happens e) = is_tick e
is_tick_entry _ = false

-- a line says a tick
abbrev pub says_tick : Result Entry ScriptFault → Bool
says_tick (Err fault) = false
says_tick (Ok e) = is_tick_entry e

-- a line is run as a tick: it says one, with these words added, after boot, and no line before it
-- was refused
abbrev pub is_tick_line : List OwnWord → Session → List ℕ → Bool
is_tick_line own s text =
    elim s.refused [
      | true ↦ false
      | false ↦ says_tick (parsed_line own (is_some s.kernel) text) && is_some s.kernel
    ]

-- how many of these lines are
abbrev pub tick_lines : Build → Keys → (size : ℕ) → Session → List (List ℕ) → List (List Bool) → ℕ
tick_lines b keys size s [] ios = 0
tick_lines b keys size s (text ∷ texts) ios =
    once_if (is_tick_line b.words s text)
    + tick_lines b keys size (after_line b keys size s text (first_io ios)).session texts
    (later_io ios)

-- the clock of a run is the number of its lines that are run as ticks
abbrev pub ClockCountsTicks : Type 0
ClockCountsTicks =
    (b : Build) (keys : Keys) (d : Disk) (texts : List (List ℕ)) (ios : List (List Bool))
    (k : Kernel) →
    (run_of b keys d texts ios).kernel ≡ Some k →
    k.clock ≡ tick_lines b keys d.size (first_session d) texts ios

-- the clock of a run is at most the number of its events
abbrev pub ClockWithinEvents : Type 0
ClockWithinEvents =
    (b : Build) (keys : Keys) (d : Disk) (texts : List (List ℕ)) (ios : List (List Bool))
    (k : Kernel) →
    (run_of b keys d texts ios).kernel ≡ Some k → k.clock ≤ (run_of b keys d texts ios).events
