-- The tokens of the graft language, and the words that spell them.
use Rattle.std.specs.Prelude.{ℕ, ◌==◌, Bool, cond, List, [], ◌∷◌, codes, position, slice_get, slice_index, Option}
use Rattle.std.specs.Prelude.{None, Some}
use Rattle.kernel_data.specs.World.{same_bytes}
use Rattle.kernel_data.specs.Bytes.{number_of, is_label}
use Rattle.graft_code.specs.Callables.{callable_id}
use Rattle.graft_texts.specs.declared.language.Operator.{Operator}
use Rattle.graft_texts.specs.declared.language.Operator.TheVariants.{Plus, Minus, Times, Over, Rest, And, Or, Xor}
use Rattle.graft_texts.specs.declared.language.Operator.TheVariants.{ShiftLeft, ShiftRight, Less, Equal}
use Rattle.graft_texts.specs.declared.language.Symbol.{Symbol}
use Rattle.graft_texts.specs.declared.language.Symbol.TheVariants.{If, Else, While, Trap, Answer, Assign, Semicolon}
use Rattle.graft_texts.specs.declared.language.Symbol.TheVariants.{OpenBrace, CloseBrace, OpenParenthesis}
use Rattle.graft_texts.specs.declared.language.Symbol.TheVariants.{CloseParenthesis, Comma}

-- a token: a number, a variable, a callable by its id, an operator, or a word that stands for
-- itself
pub data Token : Type 0 where
  Number : (n : ℕ) → Token
  Variable : (name : List ℕ) → Token
  Callable : (id : ℕ) → Token
  Infix : Operator → Token
  Mark : Symbol → Token

-- every word that stands for itself
abbrev pub symbols : List Symbol
symbols =
    If ∷ Else ∷ While ∷ Trap ∷ Answer ∷ Assign ∷ Semicolon ∷ OpenBrace ∷ CloseBrace
    ∷ OpenParenthesis ∷ CloseParenthesis ∷ Comma
    ∷ []

-- what spells them, in the same order
abbrev pub symbol_names : List (List ℕ)
symbol_names =
    codes "if" ∷ codes "else" ∷ codes "while" ∷ codes "trap" ∷ codes "answer" ∷ codes "="
    ∷ codes ";" ∷ codes "{" ∷ codes "}"
    ∷ codes "(" ∷ codes ")" ∷ codes "," ∷ []

-- every operator
abbrev pub operators : List Operator
operators =
    Plus ∷ Minus ∷ Times ∷ Over ∷ Rest ∷ And ∷ Or ∷ Xor ∷ ShiftLeft ∷ ShiftRight ∷ Less ∷ Equal ∷ []

-- what spells them, in the same order
abbrev pub operator_names : List (List ℕ)
operator_names =
    codes "+" ∷ codes "-" ∷ codes "*" ∷ codes "/" ∷ codes "%" ∷ codes "&" ∷ codes "|" ∷ codes "^"
    ∷ codes "<<" ∷ codes ">>"
    ∷ codes "<" ∷ codes "==" ∷ []

-- the entry at a place that was found
abbrev pub at_place : {A : Type 0} → Option ℕ → List A → Option A
at_place None entries = None
at_place (Some i) entries = slice_get entries i

-- the symbol that a word spells
abbrev pub symbol_of : List ℕ → Option Symbol
symbol_of word = at_place (position (same_bytes word) symbol_names) symbols

-- the operator that a word spells
abbrev pub operator_of : List ℕ → Option Operator
operator_of word = at_place (position (same_bytes word) operator_names) operators

-- a name that is no keyword and no callable: a letter a to z, then letters, digits and `_`, up to
-- 16 bytes
abbrev pub variable_of : List ℕ → Option Token
variable_of word = cond (is_label word) (Some (Variable word)) None

-- a number below 2^32 in up to 10 digits, otherwise a variable
abbrev pub by_number : Option ℕ → List ℕ → Option Token
by_number (Some n) word = Some (Number n)
by_number None word = variable_of word

-- a callable, otherwise a number or a variable
abbrev pub by_callable : Option ℕ → List ℕ → Option Token
by_callable (Some id) word = Some (Callable id)
by_callable None word = by_number (number_of word) word

-- an operator, otherwise a callable, a number or a variable
abbrev pub by_operator : Option Operator → List ℕ → Option Token
by_operator (Some op) word = Some (Infix op)
by_operator None word = by_callable (callable_id word) word

-- a word that stands for itself, otherwise another token
abbrev pub by_symbol : Option Symbol → List ℕ → Option Token
by_symbol (Some s) word = Some (Mark s)
by_symbol None word = by_operator (operator_of word) word

-- the token that a word is: a symbol, otherwise an operator, a callable, a number, a variable, or
-- none
abbrev pub token_of : List ℕ → Option Token
token_of word = by_symbol (symbol_of word) word

-- how many arguments the callables have, in the order of their ids
abbrev pub arities : List ℕ
arities = 1 ∷ 2 ∷ 0 ∷ 1 ∷ 1 ∷ 2 ∷ 0 ∷ 1 ∷ 1 ∷ 2 ∷ 2 ∷ 3 ∷ 1 ∷ 1 ∷ 0 ∷ 0 ∷ []

-- how many arguments a callable has
abbrev pub arguments_of : ℕ → ℕ
arguments_of id = slice_index arities id

-- the number of a symbol; two symbols are compared by it
abbrev pub symbol_number : Symbol → ℕ
symbol_number If = 0
symbol_number Else = 1
symbol_number While = 2
symbol_number Trap = 3
symbol_number Answer = 4
symbol_number Assign = 5
symbol_number Semicolon = 6
symbol_number OpenBrace = 7
symbol_number CloseBrace = 8
symbol_number OpenParenthesis = 9
symbol_number CloseParenthesis = 10
symbol_number Comma = 11

-- two symbols are the same
abbrev pub same_symbol : Symbol → Symbol → Bool
same_symbol s t = symbol_number s == symbol_number t
