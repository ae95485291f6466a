-- Sessions of the code as those of the definitions, over the sample disk.
use Rattle.std.specs.Prelude.{◌≡◌, ℕ, suc, true, false, List, [], ◌∷◌, ◌++◌, decimal, Option, None, Some}
use Rattle.script_model.specs.Directory.{sample_block}
use Rattle.script_model.specs.Kernel.{Kernel}
use Rattle.script_model.specs.Outcome.{left_lines}
use Rattle.script_model.specs.Script.{Unfinished}
use Rattle.script_model.specs.Session as model
use Rattle.script_model.specs.Session.{Written, fault_text}
use Rattle.script_model.specs.Text.{line}
use Rattle.script_model.specs.World.{Blocks}
use Rattle.script_text.specs.declared.parse.ScriptFault.{ScriptFault}
use Rattle.script_text.specs.declared.parse.ScriptFault.TheVariants.{BadWord, BadNumber, WrongPlace, UnknownCommand}
use Rattle.audit_table.specs.Tables.{column_of}
use Rattle.audit_state.specs.declared.World.{World}
use Rattle.audit_pieces.specs.Stores.{blocks_of}
use Rattle.audit_kernel.specs.declared.Run.{Run}
use Rattle.audit_kernel.specs.Runs.{kernel_of, AreKept}
use Rattle.audit_session.specs.declared.Session.{Session}

-- ---- sessions

-- what set-up lines set
abbrev pub setup_of : World → model.Setup
setup_of w = record { frames = w.frames; patience = column_of 10 w.patience.items; grant = w.grant }

-- the kernel, if `boot` was run
abbrev pub kernel_in : Option Run → Option Kernel
kernel_in None = None
kernel_in (Some r) = Some (kernel_of r)

-- the blocks of the disk
abbrev pub blocks_in : Option Run → Blocks
blocks_in None = sample_block
blocks_in (Some r) = blocks_of r.store

-- the session of the definitions
abbrev pub session_of : Session → model.Session
session_of s =
    record {
      setup = setup_of s.setup;
      kernel = kernel_in s.run;
      blocks = blocks_in s.run;
      lines = s.lines;
      events = s.events;
      refused = s.refused;
    }

-- of each call in flight the trace is kept that its history leads to, if `boot` was run
abbrev pub RunIsKept : Option Run → Type 0
RunIsKept None = Unit {0}
RunIsKept (Some r) = AreKept r

-- What the definitions make of a session is this session, and these bytes are written.
pub record Leaves (w : Written) (s : Session) (bytes : List ℕ) : Type 0 where
  pub session : session_of s ≡ w.session
  pub bytes_are : bytes ≡ w.bytes
  pub kept : RunIsKept s.run

-- ---- lines

-- What an image line of event n makes of a kernel, and its answer, are those of this run and of
-- these bytes.
pub record AnswersImage (n : ℕ) (made : Kernel × List ℕ) (old new : Run) (bytes : List ℕ) :
    Type 0 where
  pub kernel : kernel_of new ≡ made.0
  pub blocks : blocks_of new.store ≡ blocks_of old.store
  pub bytes_are : bytes ≡ line (decimal n ++ 32 ∷ made.1)
  pub kept : AreKept new

-- the S code of a refusal
abbrev pub code_seen : ScriptFault → ℕ
code_seen BadWord = 1
code_seen BadNumber = 2
code_seen WrongPlace = 4
code_seen UnknownCommand = 5

-- what is written behind the last line, where these bytes stand there
abbrev pub end_bytes : model.Session → List ℕ → List ℕ
end_bytes s [] = left_lines s.kernel
end_bytes s (byte ∷ bytes) = line (fault_text (suc s.lines) Unfinished)

-- the same; nothing where a line was refused
abbrev pub last_bytes : model.Session → List ℕ → List ℕ
last_bytes s rest = elim s.refused [ true ↦ [] | false ↦ end_bytes s rest ]
