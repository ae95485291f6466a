-- The laws of the grammar: programs and their spellings say what the goals do.
use Rattle.std.specs.Prelude.{◌≡◌, ◌≢◌, true, List, ◌∷◌, ◌++◌, Result, Ok, Err}
use Rattle.graft_texts.specs.declared.language.LangKind.{LangKind}
use Rattle.graft_texts.specs.declared.language.Goal.{Goal}
use Rattle.graft_texts.specs.LanguageTokens.{Token}
use Rattle.graft_texts.specs.LanguageGrammar.{Program, spelled, follow, follow_all, first_goals, is_met}

-- what is read is met where a program may end
abbrev pub IsMet : Result (List Goal) LangKind → Type 0
IsMet (Ok goals) = is_met goals ≡ true
IsMet (Err kind) = ⊥

-- the spelling of a program is read
abbrev pub SpellingsAreRead : Type 0
SpellingsAreRead = (p : Program) → IsMet (follow_all first_goals (spelled p))

-- what is read is the spelling of a program
abbrev pub ReadTokensAreSpelled : Type 0
ReadTokensAreSpelled = (tokens : List Token) → IsMet (follow_all first_goals tokens)
    → (p : Program) × (spelled p ≡ tokens)

-- tokens that are read begin the spelling of a program
abbrev pub ReadTokensGoOn : Type 0
ReadTokensGoOn =
    (tokens : List Token) (goals : List Goal) → follow_all first_goals tokens ≡ Ok goals
    → (p : Program) × (more : List Token) × (spelled p ≡ tokens ++ more)

-- with a token that is refused no program goes on
abbrev pub RefusedTokensDontGoOn : Type 0
RefusedTokensDontGoOn =
    (tokens : List Token) (goals : List Goal) (token : Token) (kind : LangKind)
    → follow_all first_goals tokens ≡ Ok goals
    → follow goals token ≡ Err kind → (p : Program) (more : List Token) →
    spelled p ≢ tokens ++ (token ∷ more)
