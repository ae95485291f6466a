-- Whole runs: sessions over a disk, from the first on.
use Rattle.std.specs.Prelude.{◌≡◌, ℕ, ◌<◌, ◌≤◌, Bool, List, length, Some}
use Rattle.script_model.specs.declared.Keys.{Keys}
use Rattle.script_model.specs.Directory.{Disk}
use Rattle.script_model.specs.Kernel.{Kernel}
use Rattle.script_model.specs.Laws.{Laws}
use Rattle.script_model.specs.Meaning.{Meaning}
use Rattle.script_model.specs.Session.{Build, Session, first_session, session_after}
use Rattle.script_model.specs.Sound.{IsSoundKernel, HasWholeBlocks}

-- the session over a disk after these lines, with one list for each line's calls of the disk
abbrev pub run_of : Build → Keys → Disk → List (List ℕ) → List (List Bool) → Session
run_of b keys d texts ios = session_after b keys d.size (first_session d) texts ios

-- calls that meet the laws, ids up to 15, and a disk of 1 to 4,096 blocks of 512 bytes
pub record IsRunnable (b : Build) (d : Disk) : Type 0 where
  pub laws : Laws b.meaning
  pub callable : b.callable ≤ 15
  pub some : 1 ≤ d.size
  pub most : d.size ≤ 4096
  pub blocks : (i : ℕ) → i < d.size → length (d.block i) ≡ 512

-- where a run has a kernel, that is sound, and the disk's blocks are whole
abbrev pub RunsAreSound : Type 0
RunsAreSound =
    (b : Build) (keys : Keys) (d : Disk) (texts : List (List ℕ)) (ios : List (List Bool))
    (k : Kernel) →
    IsRunnable b d →
    (run_of b keys d texts ios).kernel ≡ Some k →
    IsSoundKernel b.meaning k × HasWholeBlocks k.world (run_of b keys d texts ios).blocks

-- a session after boot, whose kernel is sound and whose blocks are whole
pub record IsSoundSession (m : Meaning) (s : Session) : Type 0 where
  pub kernel : Kernel
  pub is : s.kernel ≡ Some kernel
  pub sound : IsSoundKernel m kernel
  pub blocks : HasWholeBlocks kernel.world s.blocks

-- lines keep it so, whatever they say
abbrev pub LinesStaySound : Type 0
LinesStaySound =
    (b : Build) (keys : Keys) (size : ℕ) (s : Session) (texts : List (List ℕ))
    (ios : List (List Bool)) → Laws b.meaning →
    IsSoundSession b.meaning s → IsSoundSession b.meaning (session_after b keys size s texts ios)
