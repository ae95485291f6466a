-- How many notes an event leaves.
use Rattle.std.specs.Prelude.{ℕ, suc, ◌≤◌, Bool, true, false, cond, List, [], ◌∷◌, length}
use Rattle.kernel_model.specs.declared.Event.{Event}
use Rattle.kernel_model.specs.declared.Event.TheVariants.{Sys}
use Rattle.kernel_model.specs.declared.Note.{Note}
use Rattle.kernel_model.specs.declared.Note.TheVariants.{Ticked, Ended, Refused, Gave, Dropped, Ran, Waits, InGraft}
use Rattle.kernel_model.specs.declared.SysCall.{SysCall}
use Rattle.kernel_model.specs.World.{Blocks}
use Rattle.kernel_model.specs.Meaning.{Meaning}
use Rattle.kernel_model.specs.Kernel.{Kernel}
use Rattle.kernel_model.specs.Events.{event}
use Rattle.kernel_model.specs.Sound.{IsSoundKernel, HasWholeBlocks}

-- ---- kinds of notes

-- a level was dropped
abbrev pub is_drop : Note → Bool
is_drop (Dropped n q pt cause) = true
is_drop _ = false

-- a call ended, or was refused
abbrev pub is_end : Note → Bool
is_end (Ended n reply) = true
is_end (Refused n refusal) = true
is_end _ = false

-- a call gave bytes
abbrev pub is_data : Note → Bool
is_data (Gave n bytes) = true
is_data _ = false

-- the clock, how many instructions were taken up, or where a call stands
abbrev pub is_line : Note → Bool
is_line (Ticked n clock) = true
is_line (Ran n count) = true
is_line (Waits n object holder) = true
is_line (InGraft n q pt level) = true
is_line _ = false

-- how many notes pass a test
abbrev pub note_count : (Note → Bool) → List Note → ℕ
note_count test [] = 0
note_count test (n ∷ ns) = cond (test n) (suc (note_count test ns)) (note_count test ns)

-- ---- the bounds

-- the notes of an event, drops left out: at most one end of each process's call, and one of bytes
-- for each piece
pub record AreFewButDrops (notes : List Note) : Type 0 where
  pub ends : note_count is_end notes ≤ 16
  pub data_notes : note_count is_data notes ≤ 240
  pub lines : note_count is_line notes ≤ 2

-- an event from a sound kernel leaves at most 16 ends, 240 notes of bytes and two further lines,
-- drops left out
abbrev pub LeavesFewNotes : Meaning → Type 0
LeavesFewNotes m =
    (k : Kernel) (blocks : Blocks) (number : ℕ) (e : Event) (io : List Bool) → IsSoundKernel m k →
    HasWholeBlocks k.world blocks →
    AreFewButDrops (event m k blocks number e io).notes

-- a system call leaves at most 16 drops
abbrev pub CallsLeaveFewDrops : Meaning → Type 0
CallsLeaveFewDrops m =
    (k : Kernel) (blocks : Blocks) (number p : ℕ) (call : SysCall) (io : List Bool) →
    IsSoundKernel m k → HasWholeBlocks k.world blocks →
    note_count is_drop (event m k blocks number (Sys p call) io).notes ≤ 16

-- the notes of an event: at most one drop for each graft and for each call, and 530 notes in all
pub record AreFew (notes : List Note) : Type 0 where
  pub drops : note_count is_drop notes ≤ 272
  pub others : AreFewButDrops notes
  pub all : length notes ≤ 530

-- an event from a sound kernel leaves few notes
abbrev pub EventsLeaveFewNotes : Meaning → Type 0
EventsLeaveFewNotes m =
    (k : Kernel) (blocks : Blocks) (number : ℕ) (e : Event) (io : List Bool) → IsSoundKernel m k →
    HasWholeBlocks k.world blocks →
    AreFew (event m k blocks number e io).notes
