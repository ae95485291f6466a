-- What the values of the reader's code stand for.
use Rattle.std.specs.Prelude.{ℕ, List, map}
use Rattle.std.specs.Borrow.{Bor}
use Rattle.graft_syntax.specs.declared.Token.{Token}
use Rattle.graft_syntax.specs.declared.Token.TheVariants as code
use Rattle.graft_texts.specs.LanguageTokens as spec

-- a token
abbrev pub token_view : Token → spec.Token
token_view (code.Number n) = spec.Number n
token_view (code.Variable name) = spec.Variable name.now
token_view (code.Callable id) = spec.Callable id
token_view (code.Infix op) = spec.Infix op
token_view (code.Mark s) = spec.Mark s

-- the names of a map, in the order of their first insertion
abbrev pub names_of : List (Bor (List ℕ) × Unit {0}) → List (List ℕ)
names_of entries = map (λ e. e.0.now) entries
