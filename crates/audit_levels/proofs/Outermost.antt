-- Level 0, behind all others.
use Rattle.std.proofs.Common.{◌≡◌, List, [], ◌∷◌, ◌++◌, refl, ap}
use Rattle.kernel_model.specs.declared.Object.{Object}
use Rattle.kernel_model.specs.declared.Mode.TheVariants.{Exclusive}
use Rattle.kernel_model.specs.Locks.{touch}
use Rattle.kernel_model.specs.Levels.{Level, touch_outermost}

-- a level that touched an object exclusively
abbrev pub touching : Object → Level → Level
touching o l = record l { touched = touch o Exclusive l.touched }

-- level 0 touches an object
pub outermost_last : (o : Object) (ls : List Level) (l : Level) →
    touch_outermost o (ls ++ l ∷ []) ≡ ls ++ touching o l ∷ []
outermost_last o [] l = refl
outermost_last o (k ∷ []) l = refl
outermost_last o (k ∷ j ∷ ls) l = ap (λ (xs : List Level). k ∷ xs) (outermost_last o (j ∷ ls) l)
