-- The grammar of the graft language: programs, how they are spelled, and which tokens may come
-- next. docs/LANGUAGE.md gives the rules.
use Rattle.std.specs.Prelude.{ℕ, ◌-◌, Bool, true, false, cond, not, List, [], ◌∷◌, Result, Ok, Err}
use Rattle.graft_texts.specs.declared.language.LangKind.{LangKind}
use Rattle.graft_texts.specs.declared.language.LangKind.TheVariants.{NoProgram}
use Rattle.graft_texts.specs.declared.language.Operator.{Operator}
use Rattle.graft_texts.specs.declared.language.Symbol.{Symbol}
use Rattle.graft_texts.specs.declared.language.Symbol.TheVariants.{If, Else, While, Trap, Answer, Assign, Semicolon}
use Rattle.graft_texts.specs.declared.language.Symbol.TheVariants.{OpenBrace, CloseBrace, OpenParenthesis}
use Rattle.graft_texts.specs.declared.language.Symbol.TheVariants.{CloseParenthesis, Comma}
use Rattle.graft_texts.specs.declared.language.Goal.{Goal}
use Rattle.graft_texts.specs.declared.language.Goal.TheVariants.{Statements, Braces, Operand, InfixOperator}
use Rattle.graft_texts.specs.declared.language.Goal.TheVariants.{RightSide, FirstArgument, NextArgument}
use Rattle.graft_texts.specs.declared.language.Goal.TheVariants.{AfterArgument, EndOfAssignment, Constant, Awaits}
use Rattle.graft_texts.specs.LanguageTokens.{Token, Number, Variable, Callable, Infix, Mark, arguments_of, same_symbol}

-- ---- programs

-- an expression
pub data Expression : Type 0 where
  Literal : (n : ℕ) → Expression
  Named : (name : List ℕ) → Expression
  Binary : Expression → Operator → Expression → Expression

-- statements: nothing more, or a statement and those after it
pub data Program : Type 0 where
  Done : Program
  Assigns : (name : List ℕ) → Expression → Program → Program
  Calls : (name : List ℕ) → (id : ℕ) → (arguments : List Expression) → Program → Program
  -- a condition, the statements if it holds, and those after them
  When : Expression → Program → Program → Program
  -- a condition, the statements if it holds, the statements if it doesn't, and those after them
  Either : Expression → Program → Program → Program → Program
  -- a condition, the statements while it holds, and those after them
  Loops : Expression → Program → Program → Program
  Traps : (code : ℕ) → Program → Program
  Answers : Expression → Expression → Program → Program

-- ---- how they are spelled: their tokens, and then those that follow

-- the tokens of an expression
abbrev pub spelled_expression : Expression → List Token → List Token
spelled_expression (Literal n) behind = Number n ∷ behind
spelled_expression (Named name) behind = Variable name ∷ behind
spelled_expression (Binary a op b) behind =
    Mark OpenParenthesis ∷ spelled_expression a
    (Infix op ∷ spelled_expression b (Mark CloseParenthesis ∷ behind))

-- more arguments of a call, each after a comma, and its end
abbrev pub spelled_more : List Expression → List Token → List Token
spelled_more [] behind = Mark CloseParenthesis ∷ behind
spelled_more (e ∷ es) behind = Mark Comma ∷ spelled_expression e (spelled_more es behind)

-- the arguments of a call, with commas between them, and its end
abbrev pub spelled_arguments : List Expression → List Token → List Token
spelled_arguments [] behind = Mark CloseParenthesis ∷ behind
spelled_arguments (e ∷ es) behind = spelled_expression e (spelled_more es behind)

-- the tokens of statements, one after another
abbrev pub spelled_statements : Program → List Token → List Token
spelled_statements Done behind = behind
spelled_statements (Assigns name e p) behind =
    Variable name ∷ Mark Assign
    ∷ spelled_expression e (Mark Semicolon ∷ spelled_statements p behind)
spelled_statements (Calls name id arguments p) behind =
    Variable name ∷ Mark Assign ∷ Callable id ∷ Mark OpenParenthesis
    ∷ spelled_arguments arguments (Mark Semicolon ∷ spelled_statements p behind)
spelled_statements (When e body p) behind =
    Mark If ∷ spelled_expression e (Mark OpenBrace
    ∷ spelled_statements body (Mark CloseBrace ∷ spelled_statements p behind))
spelled_statements (Either e body other p) behind =
    Mark If
    ∷ spelled_expression e (Mark OpenBrace ∷ spelled_statements body (Mark CloseBrace
    ∷ Mark Else ∷ Mark OpenBrace
    ∷ spelled_statements other (Mark CloseBrace ∷ spelled_statements p behind)))
spelled_statements (Loops e body p) behind =
    Mark While ∷ spelled_expression e (Mark OpenBrace
    ∷ spelled_statements body (Mark CloseBrace ∷ spelled_statements p behind))
spelled_statements (Traps code p) behind = Mark Trap ∷ Number code ∷ Mark Semicolon
    ∷ spelled_statements p behind
spelled_statements (Answers e f p) behind =
    Mark Answer ∷ spelled_expression e (Mark Comma
    ∷ spelled_expression f (Mark Semicolon ∷ spelled_statements p behind))

-- the tokens of a program
abbrev pub spelled : Program → List Token
spelled p = spelled_statements p []

-- ---- which tokens may come next: goals, in the order in which they must be met

-- a statement that begins with a symbol, or the end of a block
abbrev pub follow_mark : (in_block after_if : Bool) → List Goal → Symbol →
    Result (List Goal) LangKind
follow_mark in_block after_if below If = Ok (Operand ∷ Braces ∷ Statements in_block true ∷ below)
follow_mark in_block after_if below Else =
    cond after_if (Ok (Braces ∷ Statements in_block false ∷ below)) (Err NoProgram)
follow_mark in_block after_if below While =
    Ok (Operand ∷ Braces ∷ Statements in_block false ∷ below)
follow_mark in_block after_if below Trap =
    Ok (Constant ∷ Awaits Semicolon ∷ Statements in_block false ∷ below)
follow_mark in_block after_if below Answer =
    Ok (Operand ∷ Awaits Comma ∷ Operand ∷ Awaits Semicolon ∷ Statements in_block false ∷ below)
follow_mark in_block after_if below CloseBrace = cond in_block (Ok below) (Err NoProgram)
follow_mark in_block after_if below _ = Err NoProgram

-- a statement, or the end of a block
abbrev pub follow_statement : (in_block after_if : Bool) → List Goal → Token →
    Result (List Goal) LangKind
follow_statement in_block after_if below (Variable name) =
    Ok (Awaits Assign ∷ RightSide ∷ EndOfAssignment ∷ Statements in_block false ∷ below)
follow_statement in_block after_if below (Mark s) = follow_mark in_block after_if below s
follow_statement in_block after_if below _ = Err NoProgram

-- an expression: a number, a variable, or an operation in parentheses
abbrev pub follow_operand : List Goal → Token → Result (List Goal) LangKind
follow_operand below (Number n) = Ok below
follow_operand below (Variable name) = Ok below
follow_operand below (Mark OpenParenthesis) =
    Ok (Operand ∷ InfixOperator ∷ Operand ∷ Awaits CloseParenthesis ∷ below)
follow_operand below _ = Err NoProgram

-- what an assignment takes its value from: a call, or an expression
abbrev pub follow_right_side : List Goal → Token → Result (List Goal) LangKind
follow_right_side below (Callable id) =
    Ok (Awaits OpenParenthesis ∷ FirstArgument (arguments_of id) ∷ below)
follow_right_side below token = follow_operand below token

-- the first argument of a call, or its end
abbrev pub follow_first : (left : ℕ) → List Goal → Token → Result (List Goal) LangKind
follow_first left below (Mark CloseParenthesis) = Ok below
follow_first left below token = follow_operand (AfterArgument (left - 1) ∷ below) token

-- another argument of a call, or its end
abbrev pub follow_argument : (left : ℕ) → List Goal → Token → Result (List Goal) LangKind
follow_argument left below (Mark Comma) = Ok (NextArgument left ∷ below)
follow_argument left below (Mark CloseParenthesis) = Ok below
follow_argument left below _ = Err NoProgram

-- an operator
abbrev pub follow_infix : List Goal → Token → Result (List Goal) LangKind
follow_infix below (Infix op) = Ok below
follow_infix below _ = Err NoProgram

-- the number of a trap
abbrev pub follow_constant : List Goal → Token → Result (List Goal) LangKind
follow_constant below (Number n) = Ok below
follow_constant below _ = Err NoProgram

-- only this symbol, and then these goals
abbrev pub follow_awaited : Symbol → List Goal → Token → Result (List Goal) LangKind
follow_awaited s next (Mark t) = cond (same_symbol s t) (Ok next) (Err NoProgram)
follow_awaited s next _ = Err NoProgram

-- the goals that are left when a token begins what meets the first goal
abbrev pub follow_goal : Goal → List Goal → Token → Result (List Goal) LangKind
follow_goal (Statements in_block after_if) below token =
    follow_statement in_block after_if below token
follow_goal Braces below token = follow_awaited OpenBrace (Statements true false ∷ below) token
follow_goal Operand below token = follow_operand below token
follow_goal InfixOperator below token = follow_infix below token
follow_goal RightSide below token = follow_right_side below token
follow_goal (FirstArgument left) below token = follow_first left below token
follow_goal (NextArgument left) below token =
    follow_operand (AfterArgument (left - 1) ∷ below) token
follow_goal (AfterArgument left) below token = follow_argument left below token
follow_goal EndOfAssignment below token = follow_awaited Semicolon below token
follow_goal Constant below token = follow_constant below token
follow_goal (Awaits s) below token = follow_awaited s below token

-- the goals after a token, unless no program goes on with it
abbrev pub follow : List Goal → Token → Result (List Goal) LangKind
follow [] token = Err NoProgram
follow (goal ∷ below) token = follow_goal goal below token

-- the goals after these tokens, unless no program goes on with one of them
abbrev pub follow_all : List Goal → List Token → Result (List Goal) LangKind
follow_all goals [] = Ok goals
follow_all goals (token ∷ tokens) = elim (follow goals token)
    [ Err kind ↦ Err kind | Ok next ↦ follow_all next tokens ]

-- the goals before the first token: a whole program
abbrev pub first_goals : List Goal
first_goals = Statements false false ∷ []

-- a program may end here: no statement has begun, and no block is open
abbrev pub is_met : List Goal → Bool
is_met [] = true
is_met (Statements in_block after_if ∷ below) = not in_block
is_met _ = false
