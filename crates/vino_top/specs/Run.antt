-- What a call of `vino` does to its source, its sink and its disk.
use Rattle.std.specs.Prelude.{◌≡◌, ◌≢◌, ◌==◌, MatchResult, OnOk, ℕ, ◌+◌, ◌<◌, ◌≤◌, ◌⊎◌, ⊤, Bool}
use Rattle.std.specs.Prelude.{true, false, List, [], ◌∷◌, ◌++◌, length, take, flat_map, Option}
use Rattle.std.specs.Prelude.{Some, None, is_some, Result, Ok, Err, codes}
use Rattle.std.specs.List.{concat}
use Rattle.std.specs.Io.KnownBytes.{Appends, Consumes, IsAtEnd}
use Rattle.vino_base.specs.Streams.{SourceSeen, SinkSeen, IsUsed, AppendsPart}
use Rattle.commands.specs.Filtered.{HasEnded}
use Rattle.call_pieces.specs.Calls.{Knows, Made, failures}
use Rattle.vino_base.specs.Disks.{DiskSeen}
use Rattle.script_model.specs.declared.Keys.{Keys}
use Rattle.kernel_data.specs.declared.FileRow.{FileRow}
use Rattle.kernel_data.specs.declared.Note.{Note}
use Rattle.kernel_data.specs.World.{Blocks}
use Rattle.script_model.specs.Session.{Build, Session, Written, first_session, after_line}
use Rattle.script_model.specs.Session.{after_entry}
use Rattle.script_model.specs.Session.{session_after, pieces_of, first_io, later_io}
use Rattle.script_model.specs.Kernel.{Kernel}
use Rattle.script_model.specs.Meaning.{Meaning}
use Rattle.script_model.specs.Script.{Entry, OwnWord, Boot, Happens, Loads, parsed_line}
use Rattle.script_model.specs.Outcome.{SCRIPT_BYTES, Ending, End, Outcome, outcome, written, lines_after, rest_after}
use Rattle.script_model.specs.Text.{boot_text, line, note_lines}
use Rattle.kernel_steps.specs.Faults.{fault_notes}
use Rattle.kernel_core.specs.Standing.{boot_note_of}
use Rattle.kernel_core.specs.declared.kernel.BootNote.{BootNote}
use Rattle.kernel_core.specs.declared.kernel.BootNote.TheVariants.{Up}
use Rattle.kernel_core.specs.declared.kernel.BootNote.TheVariants as boot_is
use Rattle.vino_top.specs.Built.{build_with, build_over, present_build}
use Rattle.vino_top.specs.Standing.{Seen, seen_of, StandsFor}
use Rattle.vino_top.specs.Parsed.{Parsed, parsed_entry, EndsWith, GoesByText, text_parsed, text_status, text_refusal}
use Rattle.vino_top.specs.declared.session.Buffers.{Buffers}
use Rattle.vino_top.specs.declared.run.ScriptRun.{ScriptRun}
use Rattle.vino_top.specs.declared.run.Stop.{Stop}
use Rattle.vino_top.specs.declared.run.Stop.TheVariants.{SinkFailed, NoMemory}

-- ---- the abstract run

-- where a script runs: the words that are added to the fixed ones, the meaning of its system calls,
-- the keys of its images, and how many blocks its disk has
pub record Place : Type 0 where
  pub words : List OwnWord
  pub meaning : Meaning
  pub keys : Keys
  pub size : ℕ

-- with these words, over this table of calls, with these keys, over a disk of this size
abbrev pub place_with : List OwnWord → Meaning → Keys → (size : ℕ) → Place
place_with own m keys size = record { words = own; meaning = m; keys = keys; size = size }

-- the same with the fixed words alone
abbrev pub place_over : Meaning → Keys → (size : ℕ) → Place
place_over m keys size = place_with [] m keys size

-- in the program, with these keys, over a disk of this size
abbrev pub place : Keys → (size : ℕ) → Place
place keys size = place_over present_build.meaning keys size

-- what is built there
abbrev pub build_of : Place → Build
build_of c = build_with c.words c.meaning

-- what a line makes of a session, where the list says of each of its calls of the disk whether it
-- fails
abbrev pub line_run : Place → Session → List ℕ → List Bool → Written
line_run c a text io = after_line (build_of c) c.keys c.size a text io

-- the session after lines, with one such list for each line
abbrev pub lines_run : Place → Session → List (List ℕ) → List (List Bool) → Session
lines_run c a texts ios = session_after (build_of c) c.keys c.size a texts ios

-- what each of these lines writes
abbrev pub pieces_run : Place → Session → List (List ℕ) → List (List Bool) → List (List ℕ)
pieces_run c a texts ios = pieces_of (build_of c) c.keys c.size a texts ios

-- The line makes these calls of the disk, no fewer and no more: whatever the calls behind them
-- would do, it leaves those, writes the same bytes and comes to the same blocks.
pub record Uses (c : Place) (a : Session) (text : List ℕ) (io : List Bool) : Type 0 where
  pub left : (rest : List Bool) → (line_run c a text (io ++ rest)).io ≡ rest
  pub bytes : (rest : List Bool) →
      (line_run c a text (io ++ rest)).bytes ≡ (line_run c a text io).bytes
  pub blocks : (rest : List Bool) → (line_run c a text (io ++ rest)).session.blocks
      ≡ (line_run c a text io).session.blocks

-- each of these lines makes the calls of its list, no fewer and no more
abbrev pub UsesAll : Place → Session → List (List ℕ) → List (List Bool) → Type 0
UsesAll c a [] ios = ⊤
UsesAll c a (text ∷ texts) ios =
    Uses c a text (first_io ios)
    × UsesAll c (line_run c a text (first_io ios)).session texts (later_io ios)

-- the session before the first line, over a disk with these blocks
abbrev pub first_on : (size : ℕ) → Blocks → Session
first_on size blocks = first_session (record { size = size; block = blocks })

-- the outcome of a run that took these bytes and ended so
abbrev pub outcome_at : Place → Blocks → (taken : List ℕ) → Ending → List (List Bool) → Outcome
outcome_at c blocks taken e ios =
    outcome (build_of c) c.keys taken e (record { size = c.size; block = blocks }) ios

-- ---- what is seen outside

-- what is seen of the source, the sink and the disk
pub record Devices : Type 0 where
  pub source : SourceSeen
  pub sink : SinkSeen
  pub disk : DiskSeen

-- these three
abbrev pub devices : SourceSeen → SinkSeen → DiskSeen → Devices
devices s k d = record { source = s; sink = k; disk = d }

-- ---- the disk

-- from one moment to another the disk had the calls of these lists
abbrev pub MadeAll : DiskSeen → DiskSeen → List (List Bool) → Type 0
MadeAll d e ios = Made d e (flat_map (λ (io : List Bool). io) ios)

-- ---- a session of the code beside the abstract one

-- how far the code's session has come, by the text of its lines
abbrev pub parsed_of : Seen → Parsed
parsed_of s = record { booted = s.booted; lines = s.lines; refused = s.refused }

-- what a line leaves behind: the bytes that it writes, and the notes of its event
pub record Left : Type 0 where
  pub bytes : List ℕ
  pub notes : List Note

-- what stands in the buffers
abbrev pub left_in : Buffers → Left
left_in b = record { bytes = b.lines; notes = b.trace.notes }

-- these bytes are left behind, and no note
pub record LeavesText (out : Left) (bytes : List ℕ) : Type 0 where
  pub bytes_are : out.bytes ≡ bytes
  pub no_notes : out.notes ≡ []

-- what came of a line or an entry: the session and the disk stand for what is written of them, of
-- the calls that were told these are left, and the bytes and notes are those that are left behind
pub record LineMatches (m : Meaning) (t : Seen) (known : Option (List (List ℕ))) (out : Left)
    (w : Written) (rest : List Bool) : Type 0 where
  pub stands : StandsFor m t known w.session
  pub left : w.io ≡ rest
  pub bytes : out.bytes ≡ w.bytes
  pub notes : out.notes ≡ w.notes

-- what is written of a boot
abbrev pub boot_line : BootNote → List ℕ
boot_line (Up frames size files) = boot_text frames size files
boot_line boot_is.Fault = codes "0 E16"

-- A boot's line was written, on a disk of this size: it says that the disk failed exactly where the
-- boot's call did, and else these frames, the size, and how many usable files some directory has.
pub record TellsBoot (frames size : ℕ) (out : Left) (io : List Bool) : Type 0 where
  pub dir : List (Option FileRow)
  pub bytes_are : out.bytes ≡ line (boot_line (boot_note_of frames size dir io))

-- What an entry with these calls of the disk leaves behind says that the disk failed only where a
-- call did. An event writes the lines of its notes, of which each that says so has a failed call of
-- its own; a boot writes its line; other entries say nothing of the disk.
abbrev pub TellsFailures : (frames size : ℕ) → Entry → Left → List Bool → Type 0
TellsFailures frames size (Happens what) out io =
    (out.bytes ≡ note_lines out.notes) × (fault_notes out.notes ≤ failures io)
TellsFailures frames size Boot out io = TellsBoot frames size out io
TellsFailures frames size entry out io = out.notes ≡ []

-- The session went on by this line, which took the disk from the one to the other and left `out`
-- behind. Whatever calls behind its own would do, the line comes to this, and leaves those.
pub record RunsLine (c : Place) (text : List ℕ) (s t : Seen) (d e : DiskSeen)
    (out : Left) : Type 0 where
  -- which of its calls of the disk failed
  pub io : List Bool
  pub made : Made d e io
  pub comes : (a : Session) (rest : List Bool) → StandsFor c.meaning s d.known a →
      LineMatches c.meaning t e.known out (line_run c a text (io ++ rest)) rest
  -- over any disk, also one that tells nothing
  pub by_text : GoesByText c.words (parsed_of s) (parsed_of t) (text ∷ []) out.bytes
  pub told : (entry : Entry) → s.refused ≡ false → parsed_line c.words s.booted text ≡ Ok entry →
      TellsFailures s.setup.frames c.size entry out io

-- The session went on by this entry, which took the disk from the one to the other and left `out`
-- behind. Whatever calls behind its own would do, the entry comes to this, and leaves those.
pub record RunsEntry (c : Place) (entry : Entry) (s t : Seen) (d e : DiskSeen)
    (out : Left) : Type 0 where
  -- which of its calls of the disk failed
  pub io : List Bool
  pub made : Made d e io
  pub comes : (a : Session) (rest : List Bool) → StandsFor c.meaning s d.known a →
      LineMatches c.meaning t e.known out
      (after_entry (build_over c.meaning) c.keys c.size a entry (io ++ rest)) rest
  -- over any disk, also one that tells nothing
  pub parsed : parsed_of t ≡ parsed_entry (parsed_of s) entry
  pub told : TellsFailures s.setup.frames c.size entry out io

-- The entry loads an image into a slot that is in range and free. Only such an entry wants memory.
pub record LoadsFree (s : Seen) (e : Entry) : Type 0 where
  pub booted : s.booted ≡ true
  pub slot : ℕ
  pub bytes : List ℕ
  pub is : e ≡ Loads slot bytes
  pub in_range : slot < 32
  pub free : is_some (s.placed.images slot) ≡ false

-- The line is run, its words are right, and its image goes to a slot that is in range and free.
-- Only such a line wants memory.
pub record WantsMemory (own : List OwnWord) (a : Session) (text : List ℕ) : Type 0 where
  pub going : a.refused ≡ false
  pub kernel : Kernel
  pub runs : a.kernel ≡ Some kernel
  pub slot : ℕ
  pub bytes : List ℕ
  pub says : parsed_line own true text ≡ Ok (Loads slot bytes)
  pub in_range : slot < 32
  pub free : kernel.images slot ≡ None

-- so it is in whichever session over this table of calls this one stands for
abbrev pub WantsAt : List OwnWord → Meaning → Seen → List ℕ → Type 0
WantsAt own m s text = (known : Option (List (List ℕ))) (a : Session) → StandsFor m s known a →
    WantsMemory own a text

-- from whichever of these sessions
abbrev pub ForEachSession : Place → (Session → Type 0) → (Place → Session → Type 0) → Type 0
ForEachSession c from holds = (a : Session) → from a → holds c a

-- These bytes were fed to a session and to the line that was being read. The sink took what they
-- write.
pub record Feeds (c : Place) (s t : Seen) (line line_new bytes : List ℕ)
    (got got_new : Option (List ℕ)) (d e : DiskSeen) : Type 0 where
  pub ios : List (List Bool)
  pub one_each : length ios ≡ length (lines_after line bytes)
  pub calls : MadeAll d e ios
  pub line_is : line_new ≡ rest_after line bytes
  pub lines : t.lines ≤ s.lines + length bytes
  pub stands : ForEachSession c (StandsFor c.meaning s d.known)
      (λ c a. StandsFor c.meaning t e.known (lines_run c a (lines_after line bytes) ios))
  pub used : ForEachSession c (StandsFor c.meaning s d.known)
      (λ c a. UsesAll c a (lines_after line bytes) ios)
  pub appended : ForEachSession c (StandsFor c.meaning s d.known)
      (λ c a. Appends got got_new (concat (pieces_run c a (lines_after line bytes) ios)))
  -- over any disk, also one that tells nothing: the sink took these bytes
  pub out : List ℕ
  pub took : Appends got got_new out
  pub by_text : GoesByText c.words (parsed_of s) (parsed_of t) (lines_after line bytes) out

-- Of these lines some were run, and of what the next one writes the sink took a part, not whole.
-- The disk is as that line leaves it.
pub record CutsShort (c : Place) (from : Session → Type 0) (lines : List (List ℕ))
    (got got_new : Option (List ℕ)) (d e : DiskSeen) : Type 0 where
  pub done : List (List ℕ)
  pub next : List ℕ
  pub later : List (List ℕ)
  pub order : lines ≡ done ++ next ∷ later
  pub ios : List (List Bool)
  pub io : List Bool
  pub one_each : length ios ≡ length done
  pub calls : MadeAll d e (ios ++ io ∷ [])
  pub part : List ℕ
  pub more : List ℕ
  pub lacks : 0 < length more
  pub used : ForEachSession c from
      (λ c a. UsesAll c a done ios × Uses c (lines_run c a done ios) next io)
  pub bytes : ForEachSession c from
      (λ c a. (line_run c (lines_run c a done ios) next io).bytes ≡ part ++ more)
  pub appended : ForEachSession c from
      (λ c a. Appends got got_new (concat (pieces_run c a done ios) ++ part))
  pub blocks : ForEachSession c from
      (λ c a. Knows e.known (line_run c (lines_run c a done ios) next io).session.blocks)

-- Of these lines some were run. For the image of the next one there was no memory.
pub record Lacks (c : Place) (from : Session → Type 0) (lines : List (List ℕ))
    (got got_new : Option (List ℕ)) (d e : DiskSeen) : Type 0 where
  pub done : List (List ℕ)
  pub next : List ℕ
  pub later : List (List ℕ)
  pub order : lines ≡ done ++ next ∷ later
  pub ios : List (List Bool)
  pub one_each : length ios ≡ length done
  pub calls : MadeAll d e ios
  pub used : ForEachSession c from (λ c a. UsesAll c a done ios)
  pub wants : ForEachSession c from (λ c a. WantsMemory c.words (lines_run c a done ios) next)
  pub appended : ForEachSession c from
      (λ c a. Appends got got_new (concat (pieces_run c a done ios)))
  pub blocks : ForEachSession c from (λ c a. Knows e.known (lines_run c a done ios).blocks)

-- the status of a run that stopped
abbrev pub stop_status : Stop → ℕ
stop_status SinkFailed = 4
stop_status NoMemory = 5

-- a run stopped for its sink
abbrev pub is_sink_failed : {A : Type 0} → Result A Stop → Bool
is_sink_failed (Err SinkFailed) = true
is_sink_failed _ = false

-- why the run stopped among these lines
abbrev pub StopsAt : Place → (Session → Type 0) → List (List ℕ) → (got got_new : Option (List ℕ)) →
    (d e : DiskSeen) → Stop → Type 0
StopsAt c from lines got got_new d e SinkFailed = CutsShort c from lines got got_new d e
StopsAt c from lines got got_new d e NoMemory = Lacks c from lines got got_new d e

-- the session went on by this line, and the sink took what the line writes
pub record TakesLine (c : Place) (text : List ℕ) (s t : Seen) (got got_new : Option (List ℕ))
    (d e : DiskSeen) : Type 0 where
  pub lines : t.lines ≤ s.lines + 1
  pub out : Left
  pub appended : Appends got got_new out.bytes
  pub runs : RunsLine c text s t d e out

-- ---- a whole run

-- a session before the first line, whose blocks the disk tells
pub record IsFirst (size : ℕ) (known : Option (List (List ℕ))) (a : Session) : Type 0 where
  pub session : a ≡ first_on size a.blocks
  pub blocks : Knows known a.blocks

-- the lines of a script, of which these bytes were taken
abbrev pub script_lines : List ℕ → List (List ℕ)
script_lines taken = lines_after [] (take SCRIPT_BYTES taken)

-- The source gave some bytes, at most one more than a script may have, and reading ended somehow,
-- or stopped behind a refused line. Over any disk, also one that tells nothing, the text of the
-- lines says which line is refused and how the run ends. Over the blocks that the disk told: each
-- line makes the calls of its list, the status is that of the outcome, the sink took its bytes, and
-- the disk tells its blocks.
pub record Ran (c : Place) (x y : Devices) (status : ℕ) : Type 0 where
  pub taken : List ℕ
  pub ending : Ending
  pub within : length taken ≤ SCRIPT_BYTES + 1
  pub consumed : Consumes x.source.rest y.source.rest taken
  pub ios : List (List Bool)
  pub one_each : length ios ≡ length (script_lines taken)
  pub calls : MadeAll x.disk y.disk ios
  pub ended : ((text_parsed c.words taken).refused ≡ true) ⊎ HasEnded ending taken x.source y.source
  -- over any disk, also one that tells nothing: the status, and what the sink took, which ends with
  -- the refusal, if there is one
  pub status_by_text : status ≡ text_status c.words taken ending
  pub out : List ℕ
  pub took : Appends x.sink.got y.sink.got out
  pub refusal : EndsWith out (text_refusal c.words taken ending)
  pub used : ForEachSession c (IsFirst c.size x.disk.known)
      (λ c a. UsesAll c a (script_lines taken) ios)
  pub status_is : ForEachSession c (IsFirst c.size x.disk.known)
      (λ c a. status ≡ (outcome_at c a.blocks taken ending ios).status)
  pub appended : ForEachSession c (IsFirst c.size x.disk.known)
      (λ c a. Appends x.sink.got y.sink.got (written (outcome_at c a.blocks taken ending ios)))
  pub blocks : ForEachSession c (IsFirst c.size x.disk.known)
      (λ c a. Knows y.disk.known (outcome_at c a.blocks taken ending ios).blocks)

-- The input has ended. Of what the outcome writes behind the lines of the script the sink took a
-- part, not whole.
pub record CutsLast (c : Place) (taken : List ℕ) (x y : Devices) : Type 0 where
  pub ended : (length taken ≤ SCRIPT_BYTES) × IsAtEnd y.source.rest
  pub ios : List (List Bool)
  pub one_each : length ios ≡ length (script_lines taken)
  pub calls : MadeAll x.disk y.disk ios
  pub part : List ℕ
  pub more : List ℕ
  pub lacks : 0 < length more
  pub used : ForEachSession c (IsFirst c.size x.disk.known)
      (λ c a. UsesAll c a (script_lines taken) ios)
  pub bytes : ForEachSession c (IsFirst c.size x.disk.known)
      (λ c a. written (outcome_at c a.blocks taken End ios)
      ≡ (concat (pieces_run c a (script_lines taken) ios) ++ part) ++ more)
  pub appended : ForEachSession c (IsFirst c.size x.disk.known)
      (λ c a. Appends x.sink.got y.sink.got
      (concat (pieces_run c a (script_lines taken) ios) ++ part))
  pub blocks : ForEachSession c (IsFirst c.size x.disk.known)
      (λ c a. Knows y.disk.known (outcome_at c a.blocks taken End ios).blocks)

-- The source gave some bytes, and what a line of them writes was cut short, or the last lines were.
pub record Broke (c : Place) (x y : Devices) : Type 0 where
  pub taken : List ℕ
  pub within : length taken ≤ SCRIPT_BYTES + 1
  pub consumed : Consumes x.source.rest y.source.rest taken
  pub short : CutsShort c (IsFirst c.size x.disk.known) (script_lines taken) x.sink.got y.sink.got
      x.disk y.disk
      ⊎ CutsLast c taken x y

-- The source gave some bytes, and for one of their lines there was no memory.
pub record Lacked (c : Place) (x y : Devices) : Type 0 where
  pub taken : List ℕ
  pub within : length taken ≤ SCRIPT_BYTES + 1
  pub consumed : Consumes x.source.rest y.source.rest taken
  pub lacks : Lacks c (IsFirst c.size x.disk.known) (script_lines taken) x.sink.got y.sink.got
      x.disk y.disk

-- ---- the steps of a run

-- Where a run stands before a read, while so many bytes may still be taken.
pub record Reached (c : Place) (s t : Seen) (rest rest_new got got_new : Option (List ℕ))
    (d e : DiskSeen) (line : List ℕ) (left : ℕ) : Type 0 where
  pub taken : List ℕ
  pub count : length taken + left ≡ SCRIPT_BYTES + 1
  pub consumed : Consumes rest rest_new taken
  pub fed : Feeds c s t [] line (take SCRIPT_BYTES taken) got got_new d e

-- where a run stands: its session, the line that is being read, its sink and its disk
pub record RunMoment : Type 0 where
  pub session : Seen
  pub line : List ℕ
  pub sink : SinkSeen
  pub disk : DiskSeen

-- the moment of this run, with this sink and this disk
abbrev pub run_moment : {C B M : Type 0} {P : _} → ScriptRun C B M P → SinkSeen → DiskSeen →
    RunMoment
run_moment r k d = record { session = seen_of r.session; line = r.line; sink = k; disk = d }

-- These bytes were fed, or the run stopped among their lines. The sink is blamed where it failed.
pub record FeedsOrStops {T : Type 0} (c : Place) (bytes : List ℕ) (x y : RunMoment)
    (answer : Result T Stop) : Type 0 where
  pub contents : MatchResult answer
      (λ _. Feeds c x.session y.session x.line y.line bytes x.sink.got y.sink.got x.disk y.disk)
      (StopsAt c (StandsFor c.meaning x.session x.disk.known) (lines_after x.line bytes) x.sink.got
      y.sink.got x.disk y.disk)
  pub sink : IsUsed x.sink.device y.sink.device (is_sink_failed answer)

-- The line that ended was this one. It was run, the sink took what it writes, and the next line is
-- to come; or the run stopped at it. The sink is blamed where it failed.
pub record TakesOrStops {T : Type 0} (c : Place) (text : List ℕ) (x y : RunMoment)
    (answer : Result T Stop) : Type 0 where
  pub line : OnOk answer (y.line ≡ [])
  pub contents : MatchResult answer
      (λ _. TakesLine c text x.session y.session x.sink.got y.sink.got x.disk y.disk)
      (StopsAt c (StandsFor c.meaning x.session x.disk.known) (text ∷ []) x.sink.got y.sink.got
      x.disk y.disk)
  pub sink : IsUsed x.sink.device y.sink.device (is_sink_failed answer)

-- The sink took the last bytes of a run, which ends with this status, or a part of them, and it
-- ends with 4. The sink is blamed where it failed.
pub record WritesLast (bytes : List ℕ) (status : ℕ) (k m : SinkSeen) (answer : ℕ) : Type 0 where
  pub done : answer ≢ 4 → (answer ≡ status) × Appends k.got m.got bytes
  pub broken : answer ≡ 4 → AppendsPart k.got m.got bytes
  pub statuses : (answer ≡ 0) ⊎ (answer ≡ 2) ⊎ (answer ≡ 4)
  pub sink : IsUsed k.device m.device (answer == 4)
