-- Runs of scripts for worked examples: an image line may be given by what its bytes load to, so
-- that no seal is computed.
use Rattle.std.specs.Prelude.{ℕ, suc, Bool, true, List, [], ◌∷◌, Option, None, Some, Result, Ok, flat_map}
use Rattle.kernel_data.specs.declared.TheConstants.{LAST_CALLABLE}
use Rattle.kernel_data.specs.declared.Instr.{Instr}
use Rattle.script_model.specs.declared.Keys.{Keys}
use Rattle.kernel_data.specs.World.{Image, plain_image}
use Rattle.kernel_data.specs.Directory.{sample_disk}
use Rattle.script_model.specs.Images.{LoadFault}
use Rattle.script_model.specs.Kernel.{Kernel}
use Rattle.script_model.specs.Session.{Build, whole, Session, Written, silent, first_session}
use Rattle.script_model.specs.Session.{image_line_run, after_line, and_then}
use Rattle.script_model.specs.Outcome.{End, lines_after, outcome_of, written}
use Rattle.script_model.specs.AllCalls.{all_calls}
use Rattle.script_model.specs.Boxed.{boxed_code}
use Rattle.script_model.specs.Text.{line}

-- lines as they stand, or an image line by what its bytes load to
pub data Given : Type 0 where
  Lines : List ℕ → Given
  ImageLine : (slot : ℕ) → Result Image LoadFault → Given

-- an image that loads, and keeps nothing
abbrev pub image : List Instr → List ℕ → Result Image LoadFault
image code body = Ok (plain_image code body)

-- one that keeps the segments of its grafts
abbrev pub keeping_image : List Instr → List ℕ → Result Image LoadFault
keeping_image code body = Ok (record { code = code; body = body; keep = true })

-- an image of the boxed form of this code, without data
abbrev pub boxed_image : List Instr → Result Image LoadFault
boxed_image code = image (boxed_code code) []

-- the bytes of lines
abbrev pub lines_of : List (List ℕ) → List ℕ
lines_of texts = flat_map line texts

-- an image line after `boot`
abbrev pub image_given : Session → ℕ → Result Image LoadFault → Option Kernel → List Bool → Written
image_given s slot loaded None io = silent s io
image_given s slot loaded (Some k) io =
    image_line_run (record s { lines = suc s.lines }) slot loaded k io

-- keys under which no image is loaded here, since image lines are given by what they load
abbrev pub no_keys : Keys
no_keys = record { first = []; second = None }

module _ (b : Build) (keys : Keys) where
  -- what lines make of a session, where one list says of all their calls of the disk whether they
  -- fail
  abbrev pub run_lines : Session → List (List ℕ) → List Bool → Written
  run_lines s [] io = silent s io
  run_lines s (text ∷ texts) io =
      let w = after_line b keys sample_disk.size s text io in
      and_then w (run_lines w.session texts w.io)

  -- what one of these makes of a session
  abbrev pub run_one : Session → Given → List Bool → Written
  run_one s (Lines text) io = run_lines s (lines_after [] text) io
  run_one s (ImageLine slot loaded) io = image_given s slot loaded s.kernel io

  -- what these make of a session, in order
  abbrev pub run_all : Session → List Given → List Bool → Written
  run_all s [] io = silent s io
  run_all s (g ∷ gs) io = let w = run_one s g io in and_then w (run_all w.session gs w.io)

  -- the status and the lines of a script over the sample disk, whose calls fail as told
  abbrev pub run_of : List Bool → List Given → ℕ × List ℕ
  run_of io gs =
      let w = run_all (first_session sample_disk) gs io in
      let o = outcome_of End w.session (w.bytes ∷ []) [] in (o.status, written o)

-- the same with all that the product has
abbrev pub given_run : List Bool → List Given → ℕ × List ℕ
given_run io gs = run_of whole no_keys io gs

-- what is built where all calls of the program are, and all of the callable list
abbrev pub all_built : Build
all_built = record { meaning = all_calls; callable = LAST_CALLABLE; words = [] }

-- the same with all calls of the program
abbrev pub all_calls_run : List Bool → List Given → ℕ × List ℕ
all_calls_run io gs = run_of all_built no_keys io gs
