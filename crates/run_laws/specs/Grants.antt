-- What all grafts of a run take together: a grant bounds them all.
use Rattle.std.specs.Prelude.{◌≡◌, ℕ, suc, ◌+◌, ◌≤◌, Bool, false, not, cond, List, [], ◌∷◌}
use Rattle.std.specs.Prelude.{Option, Some, None}
use Rattle.script_model.specs.declared.Keys.{Keys}
use Rattle.script_model.specs.declared.Kind.{Kind}
use Rattle.script_model.specs.declared.Note.{Note}
use Rattle.script_model.specs.Directory.{Disk}
use Rattle.script_model.specs.World.{World, ImageTable, Blocks}
use Rattle.script_model.specs.Objects.{Objects, Accounts}
use Rattle.script_model.specs.Meaning.{Meaning, Stage, Answer}
use Rattle.script_model.specs.Levels.{Level, Config}
use Rattle.script_model.specs.GraftStep.{is_spent}
use Rattle.script_model.specs.Kernel.{Kernel, has_level}
use Rattle.script_model.specs.Blocking.{config_of}
use Rattle.script_model.specs.InPlace.{in_place}
use Rattle.script_model.specs.Laws.{IsReady}
use Rattle.script_model.specs.Session.{Build, first_session, after_lines, whole}
use Rattle.script_model.specs.Sound.{sum_below}
use Rattle.graft_laws.specs.Notes.{is_drop, note_count}
use Rattle.session_laws.specs.Sessions.{run_of, IsRunnable}
use Rattle.session_laws.specs.Spending.{steps_of}
use Rattle.run_laws.specs.Moves.{Move, Steps, Acts, moves_of}

-- ---- what is spent

-- the steps that all processes have spent
abbrev pub steps_spent : Accounts → ℕ
steps_spent a = sum_below 16 (steps_of a)

-- the same of a kernel, with what calls in flight have spent
abbrev pub all_spent : Meaning → Kernel → ℕ
all_spent m k = steps_spent (in_place m k).accounts

-- In each kernel of a run all processes together have spent at most the grant, of each kind.
abbrev pub SpentWithinGrant : Type 0
SpentWithinGrant =
    (b : Build) (keys : Keys) (d : Disk) (texts : List (List ℕ)) (ios : List (List Bool))
    (k : Kernel) (kind : Kind) →
    IsRunnable b d → (run_of b keys d texts ios).kernel ≡ Some k →
    sum_below 16 (λ q. ((in_place b.meaning k).accounts.acct q).spent kind) ≤ k.world.grant

-- A table's pieces spend no step, and give none back.
abbrev pub SpendsNoSteps : Meaning → Type 0
SpendsNoSteps m =
    (v : World) (images : ImageTable) (s : Objects) (blocks : Blocks) (p : ℕ) (t : Stage)
    (answer : Option Answer) (io : List Bool) → IsReady m v images s p t answer →
    steps_spent (m.piece v images s blocks p t answer io).objects.accounts
    ≡ steps_spent s.accounts

-- ---- what is taken

-- how many moves pass a test
abbrev pub move_count : (Move → Bool) → List Move → ℕ
move_count test [] = 0
move_count test (x ∷ xs) = cond (test x) (suc (move_count test xs)) (move_count test xs)

-- a move is an instruction of a graft
abbrev pub is_instruction : Move → Bool
is_instruction (Steps p r) = has_level (r.kernel.call p)
is_instruction (Acts e r) = false

-- the innermost of these levels has a step left
abbrev pub has_step : Accounts → List Level → Bool
has_step a [] = false
has_step a (l ∷ ls) = not (is_spent a l)

-- the same of a graft call, if there is one
abbrev pub can_step : Option Config → Bool
can_step None = false
can_step (Some c) = has_step c.now.accounts c.levels

-- a move is an instruction that is charged: its level has a step left
abbrev pub is_charged : Meaning → Move → Bool
is_charged m (Steps p r) = can_step (config_of m r.kernel p)
is_charged m (Acts e r) = false

-- What a run took, by its moves and its notes, that led to a kernel.
pub record IsWithinGrant (m : Meaning) (moves : List Move) (notes : List Note) (k : Kernel) :
    Type 0 where
  -- as many steps are spent as instructions were charged
  pub charged : all_spent m k ≡ move_count (is_charged m) moves
  -- so no more of them than the grant
  pub most : move_count (is_charged m) moves ≤ k.world.grant
  -- and all grafts together took at most the grant's instructions, and one for each drop
  pub taken : move_count is_instruction moves ≤ k.world.grant + note_count is_drop notes

-- So it is in each run, with each table whose pieces spend no step.
abbrev pub GrantsBoundGrafts : Type 0
GrantsBoundGrafts =
    (b : Build) (keys : Keys) (d : Disk) (texts : List (List ℕ)) (ios : List (List Bool))
    (k : Kernel) →
    SpendsNoSteps b.meaning → IsRunnable b d → (run_of b keys d texts ios).kernel ≡ Some k →
    IsWithinGrant b.meaning (moves_of b keys d texts ios)
    (after_lines b keys d.size (first_session d) texts ios).notes k

-- and so in each run of the program
abbrev pub GrantsBoundAllGrafts : Type 0
GrantsBoundAllGrafts =
    (keys : Keys) (d : Disk) (texts : List (List ℕ)) (ios : List (List Bool)) (k : Kernel) →
    IsRunnable whole d → (run_of whole keys d texts ios).kernel ≡ Some k →
    IsWithinGrant whole.meaning (moves_of whole keys d texts ios)
    (after_lines whole keys d.size (first_session d) texts ios).notes k
