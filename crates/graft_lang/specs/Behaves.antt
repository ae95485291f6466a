-- Programs whose code does what they say.
use Rattle.std.specs.Prelude.{ℕ, ◌<◌, ◌≤◌}
use Rattle.graft_texts.specs.LanguageMeaning.{Program}
use Rattle.graft_texts.specs.LanguageImages.{Behaves}
use Rattle.graft_lang.specs.Code.{program_code}
use Rattle.graft_lang.specs.Going.{FitsProgram}

-- the code of a program does what it says
abbrev pub ProgramsRun : Type 0
ProgramsRun = (v : ℕ) (p : Program) → 4 ≤ v → v < 1021 → FitsProgram v p →
    Behaves p (program_code v p)
