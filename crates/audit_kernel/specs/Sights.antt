-- Objects as the calls see them that hold them exclusively.
use Rattle.std.specs.Prelude.{◌≡◌, ⊤, ℕ, true, false, List, [], ◌∷◌, Option, Some, None}
use Rattle.kernel_data.specs.declared.Object.{Object}
use Rattle.kernel_data.specs.declared.Object.TheVariants.{Graft, Acct}
use Rattle.kernel_data.specs.Objects.{Accounts, Objects}
use Rattle.kernel_model.specs.InPlace.{is_changed_in}
use Rattle.kernel_model.specs.Levels.{Config}

-- a graft call, where it holds an object exclusively
abbrev pub changing : Object → Option Config → Option Config
changing o None = None
changing o (Some c) = elim (is_changed_in c.levels o) [ true ↦ Some c | false ↦ None ]

-- the first of these graft calls, where there is one
abbrev pub either : Option Config → Option Config → Option Config
either None x = x
either (Some c) x = Some c

-- the first of the graft calls of these processes that holds an object exclusively
abbrev pub first_changing : Object → (ℕ → Option Config) → List ℕ → Option Config
first_changing o f [] = None
first_changing o f (p ∷ ps) = either (changing o (f p)) (first_changing o f ps)

-- what a graft call works on, or else this state
abbrev pub sight : Option Config → Objects → Objects
sight None s = s
sight (Some c) s = c.now

-- accounts and grafts that have the same value of an object
abbrev pub SameAmounts : Object → Accounts → Accounts → Type 0
SameAmounts (Graft q pt) a b = a.graft q pt ≡ b.graft q pt
SameAmounts (Acct q) a b = a.acct q ≡ b.acct q
SameAmounts _ a b = ⊤
