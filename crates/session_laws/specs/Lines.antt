-- What the lines of a script are run as, and what the events among them show.
use Rattle.std.specs.Prelude.{ℕ, suc, Bool, true, false, List, [], ◌∷◌, ◌++◌, Option, Some, None}
use Rattle.std.specs.Prelude.{Result, Ok, Err}
use Rattle.script_model.specs.declared.Event.{Event}
use Rattle.script_model.specs.declared.Keys.{Keys}
use Rattle.script_model.specs.Kernel.{Kernel, Run}
use Rattle.script_model.specs.Script.{Entry, Happens, ScriptFault, OwnWord, parsed_line}
use Rattle.script_model.specs.Session.{Build, Session, after_line, first_io, later_io}

-- ---- events

-- the event of an entry, if it is one
abbrev pub entry_event : Entry → Option Event
entry_event (Happens e) = Some e
entry_event entry = None

-- the event that a parsed line says, if it says one
abbrev pub event_said : Result Entry ScriptFault → Option Event
event_said (Err fault) = None
event_said (Ok entry) = entry_event entry

-- the event that a line says after boot, with these words added
abbrev pub event_after_boot : List OwnWord → Option Kernel → List ℕ → Option Event
event_after_boot own None text = None
event_after_boot own (Some k) text = event_said (parsed_line own true text)

-- the event that a line of a session is run as, if it is one: it says one, after boot, and no line
-- before it was refused
abbrev pub line_event : List OwnWord → Session → List ℕ → Option Event
line_event own s text =
    elim s.refused [ true ↦ None | false ↦ event_after_boot own s.kernel text ]

-- ---- what is shown

-- where `shows` tells what an event of a number shows
module _ {A : Type 0} (shows : ℕ → Event → Run → List A) where
  -- what an event of a session shows in its kernel: nothing where there is no event, or no kernel
  abbrev pub event_in_shows : Session → Option Kernel → Option Event → List Bool → List A
  event_in_shows s None e io = []
  event_in_shows s (Some k) None io = []
  event_in_shows s (Some k) (Some e) io =
      shows (suc s.events) e (record { kernel = k; blocks = s.blocks; notes = []; io = io })

  -- what a line shows: that of the event that it is run as
  abbrev pub line_shows : List OwnWord → Session → List ℕ → List Bool → List A
  line_shows own s text io = event_in_shows s s.kernel (line_event own s text) io

  -- what lines show, one after another, with one list for each line's calls of the disk
  abbrev pub lines_show : Build → Keys → (size : ℕ) → Session → List (List ℕ) →
      List (List Bool) → List A
  lines_show b keys size s [] ios = []
  lines_show b keys size s (text ∷ texts) ios =
      line_shows b.words s text (first_io ios)
      ++ lines_show b keys size (after_line b keys size s text (first_io ios)).session texts
      (later_io ios)
