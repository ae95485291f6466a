use Rattle.std.proofs.Common.{◌≡◌, Bool, true, false, List, refl, ap, sym, ◌∙◌}
use Rattle.lock_table.specs.declared.Holds.{Holds}
use Rattle.lock_table.specs.Masks.{held}
use Rattle.lock_table.specs.Takers.{HasSome}
use Rattle.lock_table.proofs.Views.{nothing}
use Rattle.lock_table.proofs.HoldingLemmas.{none_some}
use Rattle.lock_table.proofs.table.LockTable.is_free.Goals as goal

by_case : (b : Bool) (H : Type 0) → (b ≡ false → H) → (H → ⊥) → b ≡ true
by_case true H some none = refl
by_case false H some none = absurd (none (some refl))

pub returns : goal.returns
returns c = (
  λ none. ap (λ (xs : List (List Holds)). held xs) (sym c.self.view_is)
      ∙ nothing c.self.inside.calls.items (λ p n e. c.self.invariant.1.none p n e (c.is_empty.ensures.none none p)),
  λ none. by_case c.is_empty.result (HasSome c.self.inside.holding) c.is_empty.ensures.some
      (λ some. none_some c.self.inside.holding c.self.inside.calls.items some c.self.invariant.1
      (ap (λ (xs : List (List Holds)). held xs) c.self.view_is ∙ none)),
)
