-- A script slowly: rows before each event, and steps one by one.
use Rattle.std.specs.Prelude.{ℕ, zero, suc, ◌+◌, ◌*◌, ◌==◌, ◌&&◌, Bool, cond, nat_le, nat_lt, List, []}
use Rattle.std.specs.Prelude.{◌∷◌, ◌++◌, Option, None, Some, codes, slice_index_or}
use Rattle.std.specs.List.{slice_split}
use Rattle.script_model.specs.Bytes.{number_of}
use Rattle.script_model.specs.World.{same_bytes}
use Rattle.lab_story.specs.Events.{is_event, events_by}

-- the k-th word of a line, from 0; nothing past their end
abbrev pub word_at : List ℕ → ℕ → List ℕ
word_at line k = slice_index_or (slice_split (λ b. b == 32) line) k []

-- a line as it is
abbrev pub plain_line : List ℕ → List ℕ
plain_line line = line ++ 10 ∷ []

-- a line, and before it one that asks for the rows
abbrev pub shown_line : List ℕ → List ℕ
shown_line line = codes "raw\n" ++ plain_line line

-- a single step of a process, behind the rows
abbrev pub single_step : (process : List ℕ) → List ℕ
single_step process = codes "raw\nstep " ++ process ++ codes " 1\n"

-- a text, so many times
abbrev pub times : (count : ℕ) → List ℕ → List ℕ
times zero text = []
times (suc n) text = text ++ times n text

-- so many single steps
abbrev pub single_steps : (process : List ℕ) → (count : ℕ) → List ℕ
single_steps process count = times count (single_step process)

-- so many steps are taken one by one: at least one, and at most 512
abbrev pub is_few : ℕ → Bool
is_few n = nat_le 1 n && nat_le n 512

-- steps one by one where they are few, and else the line as it is, behind the rows
abbrev pub slow_count : (line : List ℕ) → Option ℕ → List ℕ
slow_count line None = shown_line line
slow_count line (Some n) = cond (is_few n) (single_steps (word_at line 1) n) (shown_line line)

-- what a line of steps becomes
abbrev pub slow_steps : List ℕ → List ℕ
slow_steps line = slow_count line (number_of (word_at line 2))

-- a line is one of steps
abbrev pub is_step : List ℕ → Bool
is_step line = same_bytes (word_at line 0) (codes "step")

-- what a line becomes that is an event
abbrev pub slow_line : List ℕ → List ℕ
slow_line line = cond (is_step line) (slow_steps line) (shown_line line)

-- what a line becomes that is the n-th event: itself before the first chosen one, and nothing behind the
-- last
abbrev pub slow_event : (first last n : ℕ) → List ℕ → List ℕ
slow_event first last n line =
    cond (nat_lt n first) (plain_line line) (cond (nat_le n last) (slow_line line) [])

-- what a line of a script becomes, with so many events before it
abbrev pub slow_part : (first last before : ℕ) → List ℕ → List ℕ
slow_part first last before line =
    cond (is_event line) (slow_event first last (before + 1) line) (plain_line line)

-- what the lines of a script become
abbrev pub slow_lines : (first last before : ℕ) → List (List ℕ) → List ℕ
slow_lines first last before [] = []
slow_lines first last before (line ∷ lines) =
    slow_part first last before line ++ slow_lines first last (events_by before line) lines

-- ---- how many lines that are

-- of a line of steps
abbrev pub step_lines : Option ℕ → ℕ
step_lines None = 2
step_lines (Some n) = cond (is_few n) (2 * n) 2

-- of a line that is an event
abbrev pub line_count : List ℕ → ℕ
line_count line = cond (is_step line) (step_lines (number_of (word_at line 2))) 2

-- of the n-th event
abbrev pub event_lines : (first last n : ℕ) → List ℕ → ℕ
event_lines first last n line =
    cond (nat_lt n first) 1 (cond (nat_le n last) (line_count line) 0)
