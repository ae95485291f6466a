-- What the written lines of a run say, line by line; a count is the number of lines that say so.
use Rattle.std.specs.Prelude.{ℕ, ◌-◌, ◌==◌, Bool, true, false, ◌&&◌, cond, List, [], map, drop, codes}
use Rattle.std.specs.Prelude.{slice_index_or, is_some, Option, None, Some}
use Rattle.std.specs.List.{slice_split, starts_with}
use Rattle.kernel_data.specs.World.{same_bytes}
use Rattle.kernel_data.specs.Bytes.{number_of}
use Rattle.lab_counts.specs.declared.notes.Note.{Note}
use Rattle.lab_counts.specs.declared.notes.Said.{Said}
use Rattle.lab_counts.specs.declared.notes.Said.TheVariants.{Ended, Refused, Left, Dropped, Taken, Other}
use Rattle.lab_counts.specs.declared.counts.End.{End}
use Rattle.lab_counts.specs.declared.counts.End.TheVariants as end

-- the k-th word of a line, from 0; nothing past their end
abbrev pub word : (line : List ℕ) → ℕ → List ℕ
word line k = slice_index_or (slice_split (λ b. b == 32) line) k []

-- a number, or 0 where there is none
abbrev pub or_zero : Option ℕ → ℕ
or_zero None = 0
or_zero (Some n) = n

-- the number that a word writes, 0 where it writes none
abbrev pub number_in : List ℕ → ℕ
number_in w = or_zero (number_of w)

-- what a line with this second word says, but for one of a call left in flight
abbrev pub said_by : (line second : List ℕ) → Said
said_by line second =
    cond (same_bytes second (codes "ok")) Ended
    (cond (same_bytes second (codes "drop")) (Dropped (number_in (drop 1 (word line 4))))
    (cond (same_bytes second (codes "ran")) (Taken (number_in (word line 2)))
    (cond (starts_with ◌==◌ second (codes "E")) Refused Other)))

-- the call of the event of a number, where the events made these calls
abbrev pub call_at : (calls : List (Option ℕ)) → (number : ℕ) → Option ℕ
call_at calls number = cond (number == 0) None (slice_index_or calls (number - 1) None)

-- what a line says: `left P M` is of call M, and any other line of the call that its first word names
abbrev pub note_of : (calls : List (Option ℕ)) → (line : List ℕ) → Note
note_of calls line =
    cond (same_bytes (word line 0) (codes "left"))
    (record { call = call_at calls (number_in (word line 2)); said = Left })
    (record { call = call_at calls (number_in (word line 0)); said = said_by line (word line 1) })

-- what each line of a text says
abbrev pub notes_of : (calls : List (Option ℕ)) → (text : List ℕ) → List Note
notes_of calls text = map (note_of calls) (slice_split (λ b. b == 10) text)

-- ---- what is counted

-- a call comes to its end so
abbrev pub is_end : Said → End → Bool
is_end Ended end.Ended = true
is_end Refused end.Refused = true
is_end Left end.Left = true
is_end _ _ = false

-- a note is of the end of a call
abbrev pub is_of_calls : End → Note → Bool
is_of_calls e note = is_some note.call && is_end note.said e

-- a call is this one
abbrev pub is_call : (wanted : ℕ) → Option ℕ → Bool
is_call wanted None = false
is_call wanted (Some call) = call == wanted

-- a note is of the end of this call
abbrev pub is_of_call : (call : ℕ) → End → Note → Bool
is_of_call call e note = is_call call note.call && is_end note.said e

-- what is said is a drop for this cause
abbrev pub is_dropped : (cause : ℕ) → Said → Bool
is_dropped cause (Dropped number) = number == cause
is_dropped cause _ = false

-- a note is of a drop for this cause
abbrev pub is_drop : (cause : ℕ) → Note → Bool
is_drop cause note = is_dropped cause note.said

-- how many instructions were taken up
abbrev pub count_taken : Said → ℕ
count_taken (Taken count) = count
count_taken _ = 0

-- how many instructions a note says were taken up
abbrev pub taken_in : Note → ℕ
taken_in note = count_taken note.said
