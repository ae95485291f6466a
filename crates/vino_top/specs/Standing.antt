-- Which abstract sessions a session of the code stands for.
use Rattle.std.specs.Prelude.{◌≡◌, ℕ, suc, Bool, true, false, cond, List, [], ◌∷◌, Option, Some}
use Rattle.std.specs.Prelude.{None, slice_index_or, flat_map}
use Rattle.call_pieces.specs.Calls.{Knows}
use Rattle.kernel_data.specs.World.{processes}
use Rattle.script_model.specs.Kernel as abstract
use Rattle.script_model.specs.Meaning.{Meaning}
use Rattle.script_model.specs.Script.{Unfinished}
use Rattle.script_model.specs.Session as script
use Rattle.script_model.specs.Sound.{IsAtRest}
use Rattle.script_model.specs.Text.{line, left_text}
use Rattle.script_text.specs.declared.parse.ScriptFault.{ScriptFault}
use Rattle.script_text.specs.declared.parse.ScriptFault.TheVariants.{BadWord, BadNumber, WrongPlace, UnknownCommand}
use Rattle.call_pieces.specs.declared.Setup.{Setup}
use Rattle.placed_laws.specs.Placed.{Placed, PlacedCall}
use Rattle.placed_laws.specs.Stands as kernels
use Rattle.running_kernel.specs.Views.{placed_of}
use Rattle.vino_top.specs.declared.session.Session.{Session}

-- ---- what is seen

-- What is seen of a session: its set-up, its kernel in place and its counts.
pub record Seen : Type 0 where
  pub setup : Setup
  pub booted : Bool
  pub placed : Placed
  pub lines : ℕ
  pub events : ℕ
  pub refused : Bool

-- the same of a session of the code, by what is seen of a policy
abbrev pub seen_of : {C B M : Type 0} {P : _} → Session C B M P → Seen
seen_of s =
    record {
      setup = s.setup;
      booted = s.booted;
      placed = placed_of s.kernel.running;
      lines = s.lines;
      events = s.events;
      refused = s.refused;
    }

-- the set-up
abbrev pub setup_of : Setup → script.Setup
setup_of u = record {
  frames = u.frames;
  patience = λ kind. slice_index_or u.patience kind 10;
  grant = u.grant;
}

-- ---- what that stands for

-- An abstract kernel over this table of calls that rests, for which a kernel in place stands.
pub record HasKernel (m : Meaning) (x : Placed) (o : Option abstract.Kernel) : Type 0 where
  pub kernel : abstract.Kernel
  pub is : o ≡ Some kernel
  pub stands : kernels.StandsFor m x kernel
  pub rests : IsAtRest m kernel

-- What is seen of a session over this table of calls stands for an abstract one, whose blocks the
-- disk tells: that has no kernel before `boot`, and after it one that rests, for which the kernel
-- in place stands.
pub record StandsFor (m : Meaning) (s : Seen) (known : Option (List (List ℕ)))
    (a : script.Session) : Type 0 where
  pub setup : a.setup ≡ setup_of s.setup
  pub lines : a.lines ≡ s.lines
  pub events : a.events ≡ s.events
  pub refused : a.refused ≡ s.refused
  pub unbooted : s.booted ≡ false → a.kernel ≡ None
  pub booted : s.booted ≡ true → HasKernel m s.placed a.kernel
  pub blocks : Knows known a.blocks

-- What is seen of a session before its first line.
pub record IsBegun (s : Seen) : Type 0 where
  pub setup : setup_of s.setup ≡ script.first_setup
  pub booted : s.booted ≡ false
  pub lines : s.lines ≡ 0
  pub events : s.events ≡ 0
  pub refused : s.refused ≡ false

-- ---- what is written

-- the line of a call that is left in flight
abbrev pub placed_left_line : ℕ → Option PlacedCall → List ℕ
placed_left_line p None = []
placed_left_line p (Some c) = line (left_text p c.number)

-- the lines of the calls that are left in flight
abbrev pub placed_left_lines : Placed → List ℕ
placed_left_lines x = flat_map (λ p. placed_left_line p (x.call p)) processes

-- what is written at the end of the input, where these bytes stand behind the last line
abbrev pub last_bytes : Seen → List ℕ → List ℕ
last_bytes s [] = cond s.booted (placed_left_lines s.placed) []
last_bytes s (byte ∷ bytes) = line (script.fault_text (suc s.lines) Unfinished)

-- and how the run ends then
abbrev pub last_status : List ℕ → ℕ
last_status [] = 0
last_status (byte ∷ bytes) = 2

-- the S code of a refusal
abbrev pub code_seen : ScriptFault → ℕ
code_seen BadWord = 1
code_seen BadNumber = 2
code_seen WrongPlace = 4
code_seen UnknownCommand = 5
