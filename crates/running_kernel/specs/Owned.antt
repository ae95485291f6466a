-- Whose the levels of a chain are.
use Rattle.std.specs.Prelude.{◌≡◌, ℕ, List, [], ◌∷◌, map, ⊤}
use Rattle.graft_levels.specs.UndoLevels.{Logged, found_of, innermost}
use Rattle.graft_levels.specs.declared.GraftLevel.{GraftLevel}
use Rattle.graft_levels.specs.Chains.{outer}
use Rattle.placed_laws.specs.Owners.{AreOwn}

-- levels, innermost first, are all of this owner, and so are their records
abbrev pub AreOwned : ℕ → List GraftLevel → List (List Logged) → Type 0
AreOwned q [] log = ⊤
AreOwned q (g ∷ gs) log =
    (g.owner ≡ q) × AreOwn q (map found_of (innermost log)) × AreOwned q gs (outer log)
