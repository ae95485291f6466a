-- Over the definitions, too, the text of its lines alone says which line is refused, and how a run
-- ends.
use Rattle.std.specs.Prelude.{◌≡◌, ℕ, Bool, List, [], take}
use Rattle.script_model.specs.declared.Keys.{Keys}
use Rattle.kernel_data.specs.Directory.{Disk}
use Rattle.script_model.specs.Outcome.{SCRIPT_BYTES, Ending, outcome, written, lines_after}
use Rattle.script_model.specs.Session.{Build, first_session, session_after}
use Rattle.vino_top.specs.Parsed.{Parsed, EndsWith, parsed_session, text_parsed, text_status, text_refusal}

-- how far a run of the definitions has come that took these bytes
abbrev pub session_parsed : Build → Keys → (taken : List ℕ) → Disk → List (List Bool) → Parsed
session_parsed b keys taken d ios =
    parsed_session (session_after b keys d.size (first_session d)
    (lines_after [] (take SCRIPT_BYTES taken)) ios)

-- a run of the definitions goes on and ends as the text of its lines says
pub record EndsByText (b : Build) (keys : Keys) (taken : List ℕ) (e : Ending) (d : Disk)
    (ios : List (List Bool)) : Type 0 where
  pub parsed : session_parsed b keys taken d ios ≡ text_parsed b.words taken
  pub status : (outcome b keys taken e d ios).status ≡ text_status b.words taken e
  pub refusal : EndsWith (written (outcome b keys taken e d ios)) (text_refusal b.words taken e)

-- so it is whichever the keys, the disk and its calls
abbrev pub TextDecides : Type 0
TextDecides =
    (b : Build) (keys : Keys) (taken : List ℕ) (e : Ending) (d : Disk) (ios : List (List Bool))
    → EndsByText b keys taken e d ios
