-- Reading a text of the graft language: the first refusal, or the tokens of the program.
use Rattle.std.specs.Prelude.{ℕ, ◌==◌, Bool, true, false, cond, nat_lt, nat_le, List, [], ◌∷◌, ◌++◌, length}
use Rattle.std.specs.Prelude.{codes, count_by, position, Option, None, Some, Result, Ok, Err}
use Rattle.std.specs.List.{list_any}
use Rattle.kernel_data.specs.World.{same_bytes}
use Rattle.graft_texts.specs.declared.language.LangKind.{LangKind}
use Rattle.graft_texts.specs.declared.language.LangKind.TheVariants.{NoToken, NoProgram, UnknownVariable}
use Rattle.graft_texts.specs.declared.language.LangKind.TheVariants.{WrongArguments}
use Rattle.graft_texts.specs.declared.language.LangKind.TheVariants.{TooDeep, TooManyTokens}
use Rattle.graft_texts.specs.declared.language.Symbol.TheVariants.{CloseParenthesis}
use Rattle.graft_texts.specs.declared.language.Goal.{Goal}
use Rattle.graft_texts.specs.declared.language.Goal.TheVariants.{Statements, Braces, Operand, RightSide}
use Rattle.graft_texts.specs.declared.language.Goal.TheVariants.{FirstArgument, NextArgument, AfterArgument}
use Rattle.graft_texts.specs.declared.language.Goal.TheVariants.{EndOfAssignment, Awaits}
use Rattle.graft_texts.specs.LanguageTokens.{Token, Number, Variable, Mark, token_of, same_symbol}
use Rattle.graft_texts.specs.LanguageWords.{Word, words, last_line}
use Rattle.graft_texts.specs.LanguageGrammar.{follow, first_goals, is_met}

-- how far the text has been read
pub record Reading : Type 0 where
  pub goals : List Goal
  -- the variables that are known, in the order of their first assignments, the arguments first
  pub names : List (List ℕ)
  -- the variable of the last assignment that was begun
  pub assigned : List ℕ
  -- the tokens so far; only the first 121 are kept
  pub tokens : List Token

-- the arguments of a program
abbrev pub arguments : List (List ℕ)
arguments = codes "a0" ∷ codes "a1" ∷ codes "a2" ∷ codes "a3" ∷ []

-- nothing has been read: a program must come, and the arguments are known
abbrev pub first_reading : Reading
first_reading = record { goals = first_goals; names = arguments; assigned = []; tokens = [] }

-- ---- what is refused although the grammar allows it

-- a variable is known
abbrev pub is_known : List ℕ → List (List ℕ) → Bool
is_known name names = list_any (same_bytes name) names

-- the goal is the end of a level: of parentheses round an operator, or of braces
abbrev pub is_level : Goal → Bool
is_level (Statements in_block after_if) = in_block
is_level (Awaits s) = same_symbol s CloseParenthesis
is_level _ = false

-- the level that a parenthesis or a brace opens is deeper than 64
abbrev pub depth_fault : List Goal → Option LangKind
depth_fault below = cond (nat_le 64 (count_by is_level below)) (Some TooDeep) None

-- there is room for a value, or it is one argument too many
abbrev pub room_fault : (room : Bool) → Option LangKind
room_fault room = cond room None (Some WrongArguments)

-- what is wrong with an operand that begins with this token
abbrev pub operand_fault : (room : Bool) → List Goal → (names : List (List ℕ)) → Token →
    Option LangKind
operand_fault room below names (Number n) = room_fault room
operand_fault room below names (Variable name) =
    cond (is_known name names) (room_fault room) (Some UnknownVariable)
operand_fault room below names (Mark s) = cond room (depth_fault below) (Some WrongArguments)
operand_fault room below names _ = None

-- what is wrong with the end of a call if this many arguments are left
abbrev pub end_fault : (left : ℕ) → Option LangKind
end_fault left = cond (left == 0) None (Some WrongArguments)

-- what is wrong with the first argument of a call, or its end, if this many arguments are left
abbrev pub first_fault : (left : ℕ) → List Goal → (names : List (List ℕ)) → Token → Option LangKind
first_fault left below names (Mark CloseParenthesis) = end_fault left
first_fault left below names token = operand_fault (nat_lt 0 left) below names token

-- what is wrong with the token after an argument
abbrev pub argument_fault : (left : ℕ) → Token → Option LangKind
argument_fault left (Mark CloseParenthesis) = end_fault left
argument_fault left _ = None

-- what is wrong with a token that the grammar allows: the variable, the number of arguments or the
-- depth, in this order
abbrev pub fault_at : Goal → List Goal → (names : List (List ℕ)) → Token → Option LangKind
fault_at Operand below names token = operand_fault true below names token
fault_at RightSide below names token = operand_fault true below names token
fault_at (FirstArgument left) below names token = first_fault left below names token
fault_at (NextArgument left) below names token = operand_fault (nat_lt 0 left) below names token
fault_at (AfterArgument left) below names token = argument_fault left token
fault_at Braces below names token = depth_fault below
fault_at _ below names token = None

-- what is wrong with a token that the grammar allows, by the goal that it meets
abbrev pub fault_of : List Goal → (names : List (List ℕ)) → Token → Option LangKind
fault_of [] names token = None
fault_of (goal ∷ below) names token = fault_at goal below names token

-- ---- one token

-- the variables with this one, which is appended unless it is known
abbrev pub with_name : List ℕ → List (List ℕ) → List (List ℕ)
with_name name [] = name ∷ []
with_name name (known ∷ names) =
    cond (same_bytes name known) (known ∷ names) (known ∷ with_name name names)

-- the known variables after a token: one is known from the end of its first assignment
abbrev pub names_after : List Goal → (assigned : List ℕ) → List (List ℕ) → List (List ℕ)
names_after (EndOfAssignment ∷ below) assigned names = with_name assigned names
names_after _ assigned names = names

-- the variable of the last assignment that was begun, at this token or before
abbrev pub assigned_after : List Goal → (assigned : List ℕ) → Token → List ℕ
assigned_after (Statements in_block after_if ∷ below) assigned (Variable name) = name
assigned_after _ assigned _ = assigned

-- the tokens with one more; only the first 121 are kept, one more than a program may have
abbrev pub with_token : List Token → Token → List Token
with_token tokens token = cond (nat_lt 120 (length tokens)) tokens (tokens ++ token ∷ [])

-- the reading after a token that leaves these goals
abbrev pub read_on : Reading → Token → List Goal → Reading
read_on r token goals =
    record {
      goals = goals;
      names = names_after r.goals r.assigned r.names;
      assigned = assigned_after r.goals r.assigned token;
      tokens = with_token r.tokens token;
    }

-- the reading after a token that the grammar allows, or what is wrong with it
abbrev pub checked : Reading → Token → Option LangKind → List Goal → Result Reading LangKind
checked r token (Some kind) goals = Err kind
checked r token None goals = Ok (read_on r token goals)

-- the reading after a token, by what the grammar says about it
abbrev pub followed : Reading → Token → Result (List Goal) LangKind → Result Reading LangKind
followed r token (Err kind) = Err kind
followed r token (Ok goals) = checked r token (fault_of r.goals r.names token) goals

-- the reading after one more token, or why it is refused; the grammar comes first
abbrev pub read_token : Reading → Token → Result Reading LangKind
read_token r token = followed r token (follow r.goals token)

-- ---- the whole text

-- a line that is refused, and why
pub record LineFault : Type 0 where
  pub line : ℕ
  pub kind : LangKind

-- the reading after one more token, if there is one
abbrev pub read_by : Reading → Option Token → Result Reading LangKind
read_by r None = Err NoToken
read_by r (Some token) = read_token r token

-- the reading after one more word, which must be a token
abbrev pub read_word : Reading → List ℕ → Result Reading LangKind
read_word r word = read_by r (token_of word)

-- the reading after words; the first one that is refused decides
abbrev pub read_words : Reading → List Word → Result Reading LineFault
read_words r [] = Ok r
read_words r (w ∷ ws) = elim (read_word r w.bytes)
    [ Err kind ↦ Err (record { line = w.line; kind = kind }) | Ok s ↦ read_words s ws ]

-- what reading a text gives: the tokens of its program, and the variables that are known at its end
pub record Syntax : Type 0 where
  pub tokens : List Token
  pub names : List (List ℕ)

-- the text is refused at this line
abbrev pub refused : ℕ → LangKind → Result Syntax LineFault
refused line kind = Err (record { line = line; kind = kind })

-- there are too many tokens, or they are those of a program
abbrev pub read_whole : (line : ℕ) → Reading → Result Syntax LineFault
read_whole line r = cond (nat_lt 120 (length r.tokens)) (refused line TooManyTokens)
    (Ok (record { tokens = r.tokens; names = r.names }))

-- at the end of the text the program must be whole, and have at most 120 tokens
abbrev pub read_end : (line : ℕ) → Reading → Result Syntax LineFault
read_end line r = cond (is_met r.goals) (read_whole line r) (refused line NoProgram)

-- what reading gives, or the first refusal
abbrev pub ended : (line : ℕ) → Result Reading LineFault → Result Syntax LineFault
ended line (Err fault) = Err fault
ended line (Ok r) = read_end line r

-- what reading a text gives, or the line that is refused and why
abbrev pub read : List ℕ → Result Syntax LineFault
read text = ended (last_line text) (read_words first_reading (words text))

-- ---- the numbers of variables

-- a place that was found; a text with a name that isn't found is refused
abbrev pub or_first : Option ℕ → ℕ
or_first None = 0
or_first (Some i) = i

-- the number of a variable: its place among those that are known at the end of the text
abbrev pub number_of : (names : List (List ℕ)) → List ℕ → ℕ
number_of names name = or_first (position (same_bytes name) names)
