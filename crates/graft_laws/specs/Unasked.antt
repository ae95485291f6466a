-- What a call in a graft doesn't hold or need, it can't tell: so it can't give away what other
-- processes keep in their cells, files and accounts.
use Rattle.std.specs.Prelude.{◌≡◌, ℕ, true, List, Some}
use Rattle.kernel_model.specs.declared.Object.{Object}
use Rattle.kernel_model.specs.World.{World, ImageTable}
use Rattle.kernel_model.specs.Objects.{Objects, SameAt}
use Rattle.kernel_model.specs.Meaning.{Meaning, Stage}
use Rattle.kernel_model.specs.GraftStep.{micro, next_needs}
use Rattle.kernel_model.specs.History.{Mark, Trace, replay}
use Rattle.kernel_model.specs.Alike.{AgreeOn, is_held_in}
use Rattle.kernel_model.specs.Laws.{Laws, IsStanding}
use Rattle.graft_laws.specs.Alike.{OutcomesAlike}
use Rattle.graft_laws.specs.Histories.{GraftsStand, TracesAlike}

-- the history leads to the like from another state, and the next instruction comes to the same
pub record ComesToSame (m : Meaning) (v : World) (images : ImageTable) (u : Objects) (p : ℕ)
    (t : Stage) (ks : List Mark) (now : Trace) : Type 0 where
  pub other : Trace
  pub leads : replay m v images u p t ks ≡ Some other
  pub alike : TracesAlike now other
  pub next : OutcomesAlike now.config other.config (micro v images p now.config)
      (micro v images p other.config)

-- A call in a graft whose history led somewhere from a state comes to the same from each state that
-- agrees on what the call holds then, and on what its next instruction needs: the same history, and
-- the same instruction with the same answer, also where that completes the call. The states may
-- differ in anything else.
abbrev pub UnaskedIsUnseen : Meaning → Type 0
UnaskedIsUnseen m =
    (v : World) (images : ImageTable) (s u : Objects) (p : ℕ) (t : Stage) (ks : List Mark)
    (now : Trace) → Laws m →
    IsStanding m v images s p t → IsStanding m v images u p t →
    replay m v images s p t ks ≡ Some now → GraftsStand now.config →
    ((o : Object) → is_held_in now.config.levels o ≡ true → SameAt o s u) →
    AgreeOn (next_needs v images now.config.now.accounts now.config.levels) s u →
    ComesToSame m v images u p t ks now
