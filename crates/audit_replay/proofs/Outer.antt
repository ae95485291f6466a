-- Level 0 is the last of the levels.
use Rattle.std.proofs.Common.{◌≡◌, List, [], ◌∷◌, refl}
use Rattle.kernel_model.specs.Locks.{untouched}
use Rattle.kernel_model.specs.Levels.{Level, outermost_touched}
use Rattle.audit_replay.specs.Traces.{last_touched}

pub outermost_is : (ls : List Level) → last_touched untouched ls ≡ outermost_touched ls
outermost_is [] = refl
outermost_is (l ∷ []) = refl
outermost_is (l ∷ k ∷ ls) = outermost_is (k ∷ ls)
