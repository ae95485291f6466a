-- Effects, newest first in the definitions and oldest first in the code.
use Rattle.std.proofs.Common.{◌≡◌, List, ◌++◌, map, ap, ◌∙◌}
use Rattle.std.specs.Prelude.{reverse}
use Rattle.std.proofs.lemmas.List.{map-append, reverse-append}
use Rattle.audit_levels.specs.declared.Effect.{Effect}
use Rattle.audit_levels.specs.Levels.{effect_of}

-- more effects behind others stand before them where the newest is the first
pub longer : (xs ys : List Effect) →
    reverse (map effect_of (xs ++ ys)) ≡ reverse (map effect_of ys) ++ reverse (map effect_of xs)
longer xs ys =
    ap reverse (map-append effect_of xs ys) ∙ reverse-append (map effect_of xs) (map effect_of ys)
