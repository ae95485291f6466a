-- How a script runs, line by line: how each line changes the session, and what it writes.
use Rattle.std.specs.Prelude.{ℕ, suc, Bool, true, false, List, [], ◌∷◌, ◌++◌, drop, is_some}
use Rattle.std.specs.Prelude.{Option, None, Some, Result, Ok, Err, codes, decimal}
use Rattle.kernel_data.specs.declared.TheConstants.{LAST_CALLABLE}
use Rattle.kernel_data.specs.declared.FileRow.{FileRow}
use Rattle.kernel_data.specs.declared.Note.{Note}
use Rattle.kernel_data.specs.Objects.{at}
use Rattle.kernel_data.specs.World.{World, Image, Blocks}
use Rattle.kernel_data.specs.Directory.{Disk, directory_of, usable_count}
use Rattle.graft_code.specs.declared.Keys.{Keys}
use Rattle.graft_code.specs.Images.{LoadFault, load}
use Rattle.kernel_model.specs.Meaning.{Meaning, disk_fails}
use Rattle.kernel_model.specs.Kernel.{Kernel, Run}
use Rattle.kernel_model.specs.Events.{event}
use Rattle.kernel_model.specs.AllCalls.{all_calls}
use Rattle.kernel_model.specs.Opening.{opening_kernel}
use Rattle.kernel_model.specs.RawRows.{raw_rows}
use Rattle.kernel_data.specs.Bytes.{spaced}
use Rattle.script_model.specs.Text.{line, note_lines, row_lines, boot_text}
use Rattle.kernel_model.specs.ImageLines.{image_answer}
use Rattle.script_model.specs.Script.{Entry, Blank, Frames, Patience, Grant, Boot, Happens, Loads}
use Rattle.script_model.specs.Script.{Raw, ScriptFault, OwnWord, fault_number, parsed_line}

-- ---- what is run

-- what a kernel is built with: the meaning of its system calls, the highest id that grafts may
-- call, and the words that are added to the fixed ones of scripts
pub record Build : Type 0 where
  pub meaning : Meaning
  pub callable : ℕ
  pub words : List OwnWord

-- the whole product: all calls, the whole callable list, and no words but the fixed ones
abbrev pub whole : Build
whole = record { meaning = all_calls; callable = LAST_CALLABLE; words = [] }

-- what set-up lines set
pub record Setup : Type 0 where
  pub frames : ℕ
  pub patience : ℕ → ℕ
  pub grant : ℕ

-- the set-up if no line sets anything
abbrev pub first_setup : Setup
first_setup = record { frames = 8; patience = λ kind. 10; grant = 1000000 }

-- a set-up with this patience for a kind of object
abbrev pub with_patience : (kind ticks : ℕ) → Setup → Setup
with_patience kind ticks u = record u { patience = at kind ticks u.patience }

-- how far a script has come
pub record Session : Type 0 where
  pub setup : Setup
  -- nothing before `boot`
  pub kernel : Option Kernel
  -- the disk's blocks
  pub blocks : Blocks
  pub lines : ℕ
  pub events : ℕ
  -- a line was refused, and no other is run
  pub refused : Bool

-- what a line gives: the new session, the bytes that it writes, the notes among them, and what was
-- said of disk calls that it didn't make
pub record Written : Type 0 where
  pub session : Session
  pub bytes : List ℕ
  pub notes : List Note
  pub io : List Bool

-- a session over a disk before the first line
abbrev pub first_session : Disk → Session
first_session d = record {
  setup = first_setup;
  kernel = None;
  blocks = d.block;
  lines = 0;
  events = 0;
  refused = false;
}

-- bytes are written that belong to no note, and the disk isn't called
abbrev pub says : Session → List ℕ → List Bool → Written
says s bytes io = record { session = s; bytes = bytes; notes = []; io = io }

-- nothing is written
abbrev pub silent : Session → List Bool → Written
silent s io = says s [] io

-- ---- lines that aren't events

-- the last line of a run with a refused line
abbrev pub fault_text : ℕ → ScriptFault → List ℕ
fault_text n fault = codes "script" ++ spaced n ++ codes " S" ++ decimal (fault_number fault)

-- a line is refused
abbrev pub refuses_line : Session → ScriptFault → List Bool → Written
refuses_line s fault io = says (record s { refused = true }) (line (fault_text s.lines fault)) io

-- the world, which no event changes, after these set-up lines, over a disk of this size with this
-- directory
abbrev pub world_of : Setup → (size callable : ℕ) → List (Option FileRow) → World
world_of u size callable rows =
    record {
      frames = u.frames;
      patience = u.patience;
      grant = u.grant;
      disk_size = size;
      directory = rows;
      callable = callable;
    }

-- a session after `boot`
abbrev pub booted : Session → World → List ℕ → List Bool → Written
booted s v text io = says (record s { kernel = Some (opening_kernel v) }) (line text) io

-- `boot` reads block 0; if that fails, the directory is empty
abbrev pub boots : (size callable : ℕ) → Session → List Bool → Written
boots size callable s io =
    let rows = directory_of size (s.blocks 0) in
    elim (disk_fails io 0) [
      | true ↦ booted s (world_of s.setup size callable []) (codes "0 E16") (drop 1 io)
      | false ↦ booted s (world_of s.setup size callable rows)
          (boot_text s.setup.frames size (usable_count rows)) (drop 1 io)
    ]

-- a session after an image line of this number
abbrev pub after_image : Session → ℕ → Kernel × List ℕ → List Bool → Written
after_image s n r io =
    says (record s { kernel = Some r.0; events = n }) (line (decimal n ++ 32 ∷ r.1)) io

-- a session after an image line
abbrev pub image_line_run : Session → ℕ → Result Image LoadFault → Kernel → List Bool → Written
image_line_run s slot loaded k io = after_image s (suc s.events) (image_answer slot loaded k) io

-- ---- events

-- a session after the event of this number
abbrev pub after_event : Session → ℕ → Run → Written
after_event s n r =
    record {
      session = record s { kernel = Some r.kernel; blocks = r.blocks; events = n };
      bytes = note_lines r.notes;
      notes = r.notes;
      io = r.io;
    }

-- one `Written` after another: the later session, and both their bytes and notes
abbrev pub and_then : Written → Written → Written
and_then a b = record {
  session = b.session;
  bytes = a.bytes ++ b.bytes;
  notes = a.notes ++ b.notes;
  io = b.io;
}

-- the first list of several
abbrev pub first_io : List (List Bool) → List Bool
first_io [] = []
first_io (io ∷ rest) = io

-- the lists after the first one
abbrev pub later_io : List (List Bool) → List (List Bool)
later_io [] = []
later_io (io ∷ rest) = rest

module _ (b : Build) (keys : Keys) (size : ℕ) where
  -- a session with this kernel after an entry
  abbrev pub running : Session → Entry → Kernel → List Bool → Written
  running s (Happens e) k io =
      after_event s (suc s.events) (event b.meaning k s.blocks (suc s.events) e io)
  running s (Loads slot bytes) k io = image_line_run s slot (load keys bytes) k io
  running s Raw k io =
      says (record s { events = suc s.events }) (row_lines (suc s.events) (raw_rows b.meaning k)) io
  running s _ k io = silent s io

  -- a session after an entry that needs the kernel; without a kernel nothing happens
  abbrev pub running_in : Session → Entry → Option Kernel → List Bool → Written
  running_in s e None io = silent s io
  running_in s e (Some k) io = running s e k io

  -- a session after an entry
  abbrev pub after_entry : Session → Entry → List Bool → Written
  after_entry s Blank io = silent s io
  after_entry s (Frames n) io = silent (record s { setup = record (s.setup) { frames = n } }) io
  after_entry s (Patience kind ticks) io =
      silent (record s { setup = with_patience kind ticks s.setup }) io
  after_entry s (Grant n) io = silent (record s { setup = record (s.setup) { grant = n } }) io
  after_entry s Boot io = boots size b.callable s io
  after_entry s e io = running_in s e s.kernel io

  -- a session after a parsed line
  abbrev pub after_parse : Session → Result Entry ScriptFault → List Bool → Written
  after_parse s (Err fault) io = refuses_line s fault io
  after_parse s (Ok e) io = after_entry s e io

  -- a session after a line, if its disk calls do what `io` says; after a refused line no other runs
  abbrev pub after_line : Session → List ℕ → List Bool → Written
  after_line s text io =
      elim s.refused [
        | true ↦ silent s io
        | false ↦ after_parse (record s { lines = suc s.lines })
            (parsed_line b.words (is_some s.kernel) text) io
      ]

  -- a session after these lines in order, and all that they write; one list says what the disk
  -- calls of each line do
  abbrev pub after_lines : Session → List (List ℕ) → List (List Bool) → Written
  after_lines s [] ios = silent s []
  after_lines s (text ∷ texts) ios =
      let w = after_line s text (first_io ios) in
      and_then w (after_lines w.session texts (later_io ios))

  -- the session after these lines; one list says what the disk calls of each line do
  abbrev pub session_after : Session → List (List ℕ) → List (List Bool) → Session
  session_after s [] ios = s
  session_after s (text ∷ texts) ios =
      session_after (after_line s text (first_io ios)).session texts (later_io ios)

  -- what each of these lines writes
  abbrev pub pieces_of : Session → List (List ℕ) → List (List Bool) → List (List ℕ)
  pieces_of s [] ios = []
  pieces_of s (text ∷ texts) ios =
      let w = after_line s text (first_io ios) in w.bytes ∷ pieces_of w.session texts (later_io ios)
