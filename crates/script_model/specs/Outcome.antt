-- What a whole run writes, and the status with which it ends.
use Rattle.std.specs.Prelude.{◌≡◌, ℕ, suc, ◌<◌, Bool, true, false, cond, ◌||◌, ◌==◌, List, [], ◌∷◌}
use Rattle.std.specs.Prelude.{◌++◌, length, take, Option, None, Some, flat_map}
use Rattle.std.specs.List.{concat}
use Rattle.kernel_data.specs.World.{Blocks, processes}
use Rattle.kernel_data.specs.Directory.{Disk}
use Rattle.graft_code.specs.declared.Keys.{Keys}
use Rattle.kernel_model.specs.Kernel.{Kernel, Call}
use Rattle.script_model.specs.Text.{line, left_text}
use Rattle.script_model.specs.Script.{Unfinished, LINE_BYTES}
use Rattle.script_model.specs.Session.{Build, Session, first_session, fault_text, session_after, pieces_of}

-- ---- the lines of a script

-- a byte ends a line: it is the newline, or the one that makes the line too long
abbrev pub ends_line : List ℕ → ℕ → Bool
ends_line text byte = byte == 10 || length text == LINE_BYTES

-- a line that ended: without its newline, or with the byte that made it too long
abbrev pub ended_line : List ℕ → ℕ → List ℕ
ended_line text byte = cond (byte == 10) text (text ++ byte ∷ [])

-- The lines that end among these bytes, if `text` came before them. A line ends with its newline,
-- or with the byte that makes it too long.
abbrev pub lines_after : List ℕ → List ℕ → List (List ℕ)
lines_after text [] = []
lines_after text (byte ∷ bytes) =
    elim (ends_line text byte) [
      | true ↦ ended_line text byte ∷ lines_after [] bytes
      | false ↦ lines_after (text ++ byte ∷ []) bytes
    ]

-- the bytes after the last line that ended, if `text` came before
abbrev pub rest_after : List ℕ → List ℕ → List ℕ
rest_after text [] = text
rest_after text (byte ∷ bytes) =
    elim (ends_line text byte) [
      | true ↦ rest_after [] bytes
      | false ↦ rest_after (text ++ byte ∷ []) bytes
    ]

-- the most bytes of a script
abbrev pub SCRIPT_BYTES : ℕ
SCRIPT_BYTES = 16777216

-- ---- the end of a run

-- how reading ends, unless it stops after a refused line
pub data Ending : Type 0 where
  -- at the end of the input
  End : Ending
  -- at a failed read
  Fault : Ending
  -- with one byte more than a script may have
  Over : Ending

-- a status, the pieces of the output (one for each line, and one for the last lines of the run),
-- and the disk's blocks
pub record Outcome : Type 0 where
  pub status : ℕ
  pub pieces : List (List ℕ)
  pub blocks : Blocks

-- the bytes that are written
abbrev pub written : Outcome → List ℕ
written o = concat o.pieces

-- the line of a call that is left in flight
abbrev pub left_line : ℕ → Option Call → List ℕ
left_line p None = []
left_line p (Some c) = line (left_text p c.number)

-- the last lines of a run, one for each call in flight
abbrev pub left_lines : Option Kernel → List ℕ
left_lines None = []
left_lines (Some k) = flat_map (λ p. left_line p (k.call p)) processes

-- an outcome with this status, with this last piece after the others
abbrev pub ends_with : ℕ → Session → List (List ℕ) → List ℕ → Outcome
ends_with status s pieces last =
    record { status = status; pieces = pieces ++ last ∷ []; blocks = s.blocks }

-- an outcome with this status and no further piece
abbrev pub ends_as : ℕ → Session → List (List ℕ) → Outcome
ends_as status s pieces = record { status = status; pieces = pieces; blocks = s.blocks }

-- the outcome at the end of the input, if these bytes are left after the last line
abbrev pub at_end : Session → List (List ℕ) → List ℕ → Outcome
at_end s pieces [] = ends_with 0 s pieces (left_lines s.kernel)
at_end s pieces (byte ∷ bytes) = ends_with 2 s pieces (line (fault_text (suc s.lines) Unfinished))

-- the outcome when reading ends, if no line is refused
abbrev pub at_ending : Ending → Session → List (List ℕ) → List ℕ → Outcome
at_ending End s pieces rest = at_end s pieces rest
at_ending Fault s pieces rest = ends_as 3 s pieces
at_ending Over s pieces rest = ends_as 7 s pieces

-- the outcome for a session after all lines; if one was refused, it doesn't matter how reading ends
abbrev pub outcome_of : Ending → Session → List (List ℕ) → List ℕ → Outcome
outcome_of e s pieces rest =
    elim s.refused [ true ↦ ends_as 2 s pieces | false ↦ at_ending e s pieces rest ]

-- The outcome of a run that took these bytes, if reading ended like this. The status is 2 if a line
-- is refused; otherwise 3 after a failed read, 7 if the script has too many bytes, 2 if a line is
-- unfinished, and 0 with the lines of the calls left in flight. `ios` says, line by line, which
-- disk calls fail.
abbrev pub outcome : Build → Keys → (taken : List ℕ) → Ending → Disk → List (List Bool) → Outcome
outcome b keys taken e d ios =
    let script = take SCRIPT_BYTES taken in
    let lines = lines_after [] script in
    let s = first_session d in
    outcome_of e (session_after b keys d.size s lines ios) (pieces_of b keys d.size s lines ios)
    (rest_after [] script)

-- bytes that stop within a piece: they are some whole pieces, and a part of the next one
pub record IsCutShort (pieces : List (List ℕ)) (bytes : List ℕ) : Type 0 where
  pub done : List (List ℕ)
  pub next : List ℕ
  pub later : List (List ℕ)
  pub part : List ℕ
  pub more : List ℕ
  pub order : pieces ≡ done ++ next ∷ later
  pub cut : next ≡ part ++ more
  pub lacks : 0 < length more
  pub taken : bytes ≡ concat done ++ part
