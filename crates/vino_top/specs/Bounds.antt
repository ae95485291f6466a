-- How large the numbers of a session grow, and what always holds of its kernel.
use Rattle.std.specs.Prelude.{◌≡◌, ℕ, ◌+◌, ◌-◌, ◌^◌, ◌<◌, ◌≤◌, true, false, List, [], length}
use Rattle.script_model.specs.Meaning.{Meaning}
use Rattle.kernel_core.specs.EventRefines.{IsKernel}
use Rattle.kernel_core.specs.Standing.{IsBlank}
use Rattle.script_model.specs.Opening.{opening_policy}
use Rattle.script_model.specs.Script.{LINE_BYTES}
use Rattle.call_pieces.specs.Shelf.{IsShelf, pol_of, first_choice}
use Rattle.call_pieces.specs.Views.{PolicyView}
use Rattle.vino_top.specs.Built.{present_build}
use Rattle.vino_top.specs.declared.run.ScriptRun.{ScriptRun}
use Rattle.vino_top.specs.declared.session.Buffers.{Buffers}
use Rattle.vino_top.specs.Run.{LeavesText, left_in}
use Rattle.vino_top.specs.declared.session.Session.{Session}

-- the seven stock policies, with their parameters at boot
pub record IsStock (views : List PolicyView) : Type 0 where
  pub shelf : IsShelf views
  pub stock : pol_of views first_choice ≡ opening_policy

-- Over this table of calls, on a disk of this size: the set-up is within its limits, each event had
-- a line, and the kernel had at most a tick for each event. Before `boot` nothing came yet.
pub record IsSessionOver {C B M : Type 0} {P : _} (m : Meaning) (size : ℕ) (s : Session C B M P) :
    Type 0 where
  pub frames_least : 2 ≤ s.setup.frames
  pub frames_most : s.setup.frames ≤ 64
  pub events : s.events ≤ s.lines
  pub kernel : s.booted ≡ true → IsKernel m s.events s.kernel.running
  pub size_is : s.booted ≡ true → s.kernel.running.store.size ≡ size
  pub unbooted : s.booted ≡ false → IsBlank s.kernel.running

-- the same of a session of the program
abbrev pub IsSessionWithin : {C B M : Type 0} {P : _} → (size : ℕ) → Session C B M P → Type 0
IsSessionWithin size s = IsSessionOver present_build.meaning size s

-- Such a session whose line was counted, and whose event wasn't: there is room for its number.
pub record IsOnLine {C B M : Type 0} {P : _} (m : Meaning) (size : ℕ) (s : Session C B M P) :
    Type 0 where
  pub room : s.lines < 2 ^ 32 - 1
  pub fresh : s.events < s.lines
  pub within : IsSessionOver m size s

-- An entry of the line that was counted can be run: nothing was left behind yet.
pub record CanRunEntry {C B M : Type 0} {P : _} (m : Meaning) (size : ℕ) (s : Session C B M P)
    (out : Buffers) : Type 0 where
  pub counted : IsOnLine m size s
  pub empty : LeavesText (left_in out) []

-- A run over this table of calls, on a disk of this size, that can take so many bytes, and a line
-- for each: there is room for their numbers, and the line that is being read is no longer than a
-- line may be.
pub record CanTake {C B M : Type 0} {P : _} (m : Meaning) (size count : ℕ) (r : ScriptRun C B M P) :
    Type 0 where
  pub lines : r.session.lines + count < 2 ^ 32 - 1
  pub within : IsSessionOver m size r.session
  pub short : length r.line ≤ LINE_BYTES
