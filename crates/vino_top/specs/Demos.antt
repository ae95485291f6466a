-- Lines run one after another, and what `demo` makes of the script that it generates.
use Rattle.std.specs.Prelude.{◌≡◌, ℕ, ◌+◌, ◌*◌, ◌≤◌, Bool, List, [], ◌∷◌, ◌++◌, length}
use Rattle.call_pieces.specs.Calls.{Knows}
use Rattle.vino_base.specs.Disks.{DiskSeen}
use Rattle.kernel_data.specs.World.{Blocks}
use Rattle.script_model.specs.Session.{Session, Written, after_lines}
use Rattle.script_model.specs.Demo.{demo_keys, demo_lines, summary}
use Rattle.demo_text.specs.declared.tally.Tally.{Tally}
use Rattle.demo_text.specs.Tallies.{IsTally}
use Rattle.vino_top.specs.Built.{present_build}
use Rattle.vino_top.specs.Standing.{Seen, StandsFor}
use Rattle.vino_top.specs.Run.{Place, place, build_of, lines_run, UsesAll, MadeAll}
use Rattle.vino_top.specs.Run.{ForEachSession, IsFirst, WantsMemory, WantsAt, Left, LineMatches}

-- what all these lines make of a session, and what they write
abbrev pub all_run : Place → Session → List (List ℕ) → List (List Bool) → Written
all_run c a texts ios = after_lines (build_of c) c.keys c.size a texts ios

-- The session went on by these lines, which took the disk from the one to the other and left `out`
-- behind, in all.
pub record RanLines (c : Place) (texts : List (List ℕ)) (s t : Seen) (d e : DiskSeen)
    (out : Left) : Type 0 where
  pub ios : List (List Bool)
  pub one_each : length ios ≡ length texts
  pub calls : MadeAll d e ios
  pub used : ForEachSession c (StandsFor c.meaning s d.known) (λ c a. UsesAll c a texts ios)
  pub comes : ForEachSession c (StandsFor c.meaning s d.known)
      (λ c a. LineMatches c.meaning t e.known out (all_run c a texts ios) [])

-- both of these, in order
abbrev pub joined : Left → Left → Left
joined a b = record { bytes = a.bytes ++ b.bytes; notes = a.notes ++ b.notes }

-- nothing
abbrev pub nothing_left : Left
nothing_left = record { bytes = []; notes = [] }

-- a line leaves no more behind than this
pub record IsFew (out : Left) (lines : ℕ) : Type 0 where
  pub bytes : length out.bytes ≤ 3028992 * lines
  pub notes : length out.notes ≤ 530 * lines

-- ---- the generated script

-- where it runs: its first key is 32 zero bytes, and there is no second
abbrev pub demo_place : (size : ℕ) → Place
demo_place size = place demo_keys size

-- the line that tells of it, over these blocks
abbrev pub demo_told : (n size : ℕ) → Blocks → List (List Bool) → List ℕ
demo_told n size blocks ios = summary present_build n (record { size = size; block = blocks }) ios

-- The script of a number was run to its end. Over the blocks that the disk told: each line made the
-- calls of its list, the line that tells of it all was written so, and the disk tells the blocks
-- that are left.
pub record DemoRan (n size : ℕ) (d e : DiskSeen) (Writes : List ℕ → Type 0) : Type 0 where
  pub ios : List (List Bool)
  pub one_each : length ios ≡ length (demo_lines n)
  pub calls : MadeAll d e ios
  pub used : ForEachSession (demo_place size) (IsFirst size d.known)
      (λ c a. UsesAll c a (demo_lines n) ios)
  pub writes : ForEachSession (demo_place size) (IsFirst size d.known)
      (λ c a. Writes (demo_told n size a.blocks ios))
  pub blocks : ForEachSession (demo_place size) (IsFirst size d.known)
      (λ c a. Knows e.known (lines_run c a (demo_lines n) ios).blocks)

-- For the image of a line there was no memory. The disk is as the lines before it leave it.
pub record DemoLacked (n size : ℕ) (d e : DiskSeen) : Type 0 where
  pub done : List (List ℕ)
  pub next : List ℕ
  pub later : List (List ℕ)
  pub order : demo_lines n ≡ done ++ next ∷ later
  pub ios : List (List Bool)
  pub one_each : length ios ≡ length done
  pub calls : MadeAll d e ios
  pub wants : ForEachSession (demo_place size) (IsFirst size d.known)
      (λ c a. WantsMemory c.words (lines_run c a done ios) next)
  pub used : ForEachSession (demo_place size) (IsFirst size d.known) (λ c a. UsesAll c a done ios)
  pub blocks : ForEachSession (demo_place size) (IsFirst size d.known)
      (λ c a. Knows e.known (lines_run c a done ios).blocks)

-- ---- the steps of its run

-- The tally has room for what one more line leaves behind.
pub record HasRoom (tally : Tally) : Type 0 where
  pub so_far : Left
  pub few : IsFew so_far 5026
  pub is : IsTally tally so_far.bytes so_far.notes

-- How far the script is run, while these lines are to come: the tally is that of what was written.
pub record DemoReached (c : Place) (all texts : List (List ℕ)) (s t : Seen) (d e : DiskSeen)
    (tally : Tally) : Type 0 where
  pub done : List (List ℕ)
  pub order : all ≡ done ++ texts
  pub lines : t.lines ≤ s.lines + length done
  pub out : Left
  pub few : IsFew out (length done)
  pub ran : RanLines c done s t d e out
  pub tallied : IsTally tally out.bytes out.notes

-- One line went on, and the tally takes what it left behind.
pub record DemoTakes (c : Place) (text : List ℕ) (s t : Seen) (d e : DiskSeen)
    (old new : Tally) : Type 0 where
  pub lines : t.lines ≤ s.lines + 1
  pub out : Left
  pub few : IsFew out 1
  pub runs : RanLines c (text ∷ []) s t d e out
  pub tallied : (so_far : Left) → IsTally old so_far.bytes so_far.notes →
      IsTally new (joined so_far out).bytes (joined so_far out).notes

-- There was no memory for the image of the next line, whose own run left the disk alone.
pub record DemoStops (c : Place) (all : List (List ℕ)) (s : Seen) (d e : DiskSeen) : Type 0 where
  pub done : List (List ℕ)
  pub next : List ℕ
  pub later : List (List ℕ)
  pub order : all ≡ done ++ next ∷ later
  pub t : Seen
  pub wants : WantsAt c.words c.meaning t next
  pub out : Left
  pub ran : RanLines c done s t d e out
