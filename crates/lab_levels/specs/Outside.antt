-- Memory: the segment of a level, and what is outside it.
use Rattle.std.specs.Prelude.{ℕ, ◌+◌, ◌-◌, ◌*◌, ◌^◌, ◌==◌, Bool, true, false, ◌&&◌, cond, min}
use Rattle.std.specs.Prelude.{nat_le, List, [], ◌++◌, length, take, drop, slice_range, codes}
use Rattle.std.specs.Prelude.{decimal, Option, None, Some}
use Rattle.script_model.specs.World.{same_bytes}
use Rattle.lab_levels.specs.declared.view.LevelRow.{LevelRow}
use Rattle.lab_levels.specs.Places.{has_gone_on}

-- two memories are the same between two places
abbrev pub same_between : (from to : ℕ) → (before after : List ℕ) → Bool
same_between from to before after = same_bytes (slice_range after from to) (slice_range before from to)

-- they are the same before one place, and from another place on
abbrev pub same_outside : (from to : ℕ) → (before after : List ℕ) → Bool
same_outside from to before after = same_between 0 from before after && same_between to 524288 before after

-- where the segment of a level begins in memory
abbrev pub segment_begin : (process depth : ℕ) → ℕ
segment_begin process depth = 262144 + 4096 * (4 * process + depth)

-- the segment that begins at this place; no byte where the memory ends before
abbrev pub segment_in : (memory : List ℕ) → (from : ℕ) → List ℕ
segment_in memory from =
    cond (nat_le (from + 4096) 524288) (slice_range memory from (from + 4096)) []

-- ---- instructions compared

-- the memory that was kept, whether nothing was run since it was the memory, how many instructions
-- were compared, and how many of them changed bytes outside the segment of their level
pub record Compared : Type 0 where
  pub kept : List ℕ
  pub is_current : Bool
  pub compared : ℕ
  pub changing : ℕ

-- none yet
abbrev pub nothing_compared : Compared
nothing_compared = record { kept = []; is_current = false; compared = 0; changing = 0 }

-- one more, as far as a number of 32 bits counts
abbrev pub one_more : ℕ → ℕ
one_more n = min (n + 1) (2 ^ 32 - 1)

-- a memory with what stands between two places taken over from another
abbrev pub taken_over : (from to : ℕ) → (kept memory : List ℕ) → List ℕ
taken_over from to kept memory = take from kept ++ slice_range memory from to ++ drop to kept

-- an instruction more that left the memory outside these places as it was: what stands between them
-- is taken over
abbrev pub left_same : (from to : ℕ) → (memory : List ℕ) → Compared → Compared
left_same from to memory c =
    record c {
      kept = taken_over from to c.kept memory;
      is_current = true;
      compared = one_more c.compared;
    }

-- one that changed it
abbrev pub changed_more : Compared → Compared
changed_more c = record c { compared = one_more c.compared; changing = one_more c.changing }

-- the memory is compared outside these two places
abbrev pub compared_outside : (from to : ℕ) → (memory : List ℕ) → Compared → Compared
compared_outside from to memory c =
    cond (same_outside from to c.kept memory) (left_same from to memory c) (changed_more c)

-- it is compared outside the segment that begins at a place, where that is in the memory and one
-- was kept
abbrev pub compared_at : (begin : ℕ) → (memory : List ℕ) → Compared → Compared
compared_at begin memory c =
    cond (length c.kept == 524288 && nat_le (begin + 4096) 524288)
    (compared_outside begin (begin + 4096) memory c)
    c

-- after an instruction, if the innermost level of a process took one and went on
abbrev pub compared_after : (before after : Option LevelRow) → (memory : List ℕ) → Compared → Compared
compared_after None after memory c = c
compared_after (Some b) None memory c = c
compared_after (Some b) (Some a) memory c =
    cond (has_gone_on b a) (compared_at (segment_begin a.process a.depth) memory c) c

-- a count, or that it is none
unfoldable pub count_said : ℕ → List ℕ
count_said n = cond (n == 0) (codes "none") (decimal n)

-- what is said before the counts
unfoldable pub outside_said : List ℕ
outside_said = codes "memory outside the graft's segment: bytes changed in "

-- a text, and behind it a number
unfoldable pub numbered : (text : List ℕ) → ℕ → List ℕ
numbered text n = text ++ decimal n

-- what is said of all of them; nothing where none was compared
abbrev pub compared_said : (changing compared : ℕ) → List ℕ
compared_said changing compared =
    cond (compared == 0) []
    (outside_said ++ count_said changing ++ numbered (codes " of ") compared ++ codes " instructions")
