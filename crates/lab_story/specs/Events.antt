-- Which lines of a script are events, and how many a picture shows.
use Rattle.std.specs.Prelude.{ℕ, ◌+◌, ◌-◌, ◌==◌, Bool, true, not, ◌&&◌, ◌||◌, cond, min, max, List}
use Rattle.std.specs.Prelude.{[], ◌∷◌, codes, count_by}
use Rattle.std.specs.List.{slice_split}
use Rattle.script_model.specs.World.{same_bytes}
use Rattle.script_model.specs.Script as script

-- the first word of a line
abbrev pub first_word : List ℕ → List ℕ
first_word line = script.first_word (slice_split (λ b. b == 32) line)

-- a word that begins a line which stands before the events
abbrev pub sets_up : List ℕ → Bool
sets_up word =
    same_bytes word (codes "frames") || same_bytes word (codes "patience")
    || same_bytes word (codes "grant") || same_bytes word (codes "boot")

-- an empty line, or a remark
abbrev pub is_blank : List ℕ → Bool
is_blank [] = true
is_blank (b ∷ bs) = b == 35

-- a line that is an event: not blank, and not one of those up to `boot`
abbrev pub is_event : List ℕ → Bool
is_event line = not (is_blank line) && not (sets_up (first_word line))

-- how many events there are by the end of a line, of so many before it
abbrev pub events_by : (before : ℕ) → List ℕ → ℕ
events_by before line = cond (is_event line) (before + 1) before

-- the lines of a script
abbrev pub lines_of : List ℕ → List (List ℕ)
lines_of script = slice_split (λ b. b == 10) script

-- how many lines of a script are events
abbrev pub event_count : List ℕ → ℕ
event_count script = count_by is_event (lines_of script)

-- how many events there are from the first to the last one, of so many
abbrev pub chosen_count : (first last count : ℕ) → ℕ
chosen_count first last count = min last count + 1 - max first 1
