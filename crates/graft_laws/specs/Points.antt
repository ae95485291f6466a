-- Graft calls that hold what tells whether the answer of their point is valid.
use Rattle.std.specs.Prelude.{◌≡◌, ℕ, List, Some}
use Rattle.kernel_model.specs.World.{World, ImageTable}
use Rattle.kernel_model.specs.Objects.{Objects}
use Rattle.kernel_model.specs.Meaning.{Meaning, Stage}
use Rattle.kernel_model.specs.History.{Mark, Trace, replay}
use Rattle.kernel_model.specs.Laws.{Laws, IsStanding}
use Rattle.graft_laws.specs.Alike.{AnswerIsHeld}

-- level 0 holds what tells whether the answer of its point is valid, wherever a history leads
abbrev pub HistoriesHoldAnswers : Meaning → Type 0
HistoriesHoldAnswers m =
    (v : World) (images : ImageTable) (s : Objects) (p : ℕ) (t : Stage) (ks : List Mark)
    (now : Trace) → Laws m →
    IsStanding m v images s p t → replay m v images s p t ks ≡ Some now →
    AnswerIsHeld now.config.levels
