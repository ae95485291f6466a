-- What a run over streams in memory comes to.
use Rattle.std.specs.Prelude.{ℕ, List, [], ◌∷◌, codes}
use Rattle.vino_base.specs.Disks.{DiskSeen}
use Rattle.vino_base.specs.Memory.{SourceState, source_seen}
use Rattle.vino_base.specs.declared.health.Health.TheVariants.{Sound}
use Rattle.vino_top.specs.Does.{Does}
use Rattle.vino_top.specs.Run.{devices}
use Rattle.commands.specs.Words.{asked_by}
use Rattle.lab_lines.specs.Kept.{Kept, nothing_kept, kept_seen}

-- a source that holds exactly these bytes, of which no read was made
abbrev pub source_of : List ℕ → SourceState
source_of bytes =
    record { rest = bytes; plan = record { made = 0; failing = [] }; faults = 0; health = Sound }

-- A call of `vino` with the words `run KEYS`, whose source held exactly this script, wrote what is
-- kept, and ended with this status.
abbrev pub RunsScript : (keys script : List ℕ) → SourceState → Kept → (d e : DiskSeen) →
    (status : ℕ) → Type 0
RunsScript keys script source kept d e status =
    Does (asked_by (codes "run" ∷ keys ∷ []))
    (devices (source_seen (source_of script)) (kept_seen nothing_kept) d)
    (devices (source_seen source) (kept_seen kept) e) status
