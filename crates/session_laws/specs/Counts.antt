-- How many instructions the levels of a graft call have taken.
use Rattle.std.specs.Prelude.{◌≡◌, ℕ, ◌≤◌, Bool, List, Some, Contains}
use Rattle.script_model.specs.declared.Keys.{Keys}
use Rattle.script_model.specs.World.{World, ImageTable}
use Rattle.script_model.specs.Objects.{Objects, GraftValue}
use Rattle.script_model.specs.Directory.{Disk}
use Rattle.script_model.specs.Meaning.{Meaning, Stage}
use Rattle.script_model.specs.Levels.{Level, Config, limit_in}
use Rattle.script_model.specs.GraftStep.{micro}
use Rattle.script_model.specs.History.{Mark, Trace, replay}
use Rattle.script_model.specs.Kernel.{Kernel}
use Rattle.script_model.specs.Blocking.{config_of}
use Rattle.script_model.specs.Session.{Build}
use Rattle.script_model.specs.Sound.{IsSoundKernel}
use Rattle.session_laws.specs.Sessions.{run_of, IsRunnable}

-- each level whose graft stands has taken at most as many instructions as that graft's limit
abbrev pub CountsFit : Config → Type 0
CountsFit c =
    (l : Level) (g : GraftValue) → Contains c.levels l →
    c.now.accounts.graft l.owner l.point ≡ Some g →
    l.count ≤ g.limit

-- an instruction leaves it so
abbrev pub InstructionsKeepCounts : Type 0
InstructionsKeepCounts =
    (v : World) (images : ImageTable) (p : ℕ) (c : Config) → CountsFit c →
    CountsFit (micro v images p c).config

-- so it is wherever a history leads, whatever its marks are and from any state
abbrev pub HistoriesKeepCounts : Meaning → Type 0
HistoriesKeepCounts m =
    (v : World) (images : ImageTable) (s : Objects) (p : ℕ) (t : Stage) (ks : List Mark)
    (now : Trace) →
    replay m v images s p t ks ≡ Some now → CountsFit now.config

-- so it is of each call of a kernel, sound or not
abbrev pub CallsKeepCounts : Meaning → Type 0
CallsKeepCounts m = (k : Kernel) (p : ℕ) (c : Config) → config_of m k p ≡ Some c → CountsFit c

-- in a sound kernel, where the graft of each level stands, each level's count is at most its
-- graft's limit
abbrev pub CallsFit : Meaning → Type 0
CallsFit m =
    (k : Kernel) (p : ℕ) (c : Config) (l : Level) → IsSoundKernel m k → config_of m k p ≡ Some c →
    Contains c.levels l →
    l.count ≤ limit_in (c.now.accounts.graft l.owner l.point)

-- so it is in each kernel of a run over a disk of whole blocks
abbrev pub RunsFit : Type 0
RunsFit =
    (b : Build) (keys : Keys) (d : Disk) (texts : List (List ℕ)) (ios : List (List Bool))
    (k : Kernel) (p : ℕ)
    (c : Config) (l : Level) →
    IsRunnable b d → (run_of b keys d texts ios).kernel ≡ Some k →
    config_of b.meaning k p ≡ Some c →
    Contains c.levels l →
    l.count ≤ limit_in (c.now.accounts.graft l.owner l.point)
