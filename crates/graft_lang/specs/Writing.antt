-- What the writer of code does with the tokens of a program: each part is taken, and its code
-- appended.
use Rattle.std.specs.Prelude.{◌≡◌, ℕ, suc, ◌+◌, ◌*◌, ◌≤◌, Bool, true, false, cond, nat_lt, List, [], ◌∷◌}
use Rattle.std.specs.Prelude.{◌++◌, length, map, drop, set, Option, None, Some, is_some}
use Rattle.graft_texts.specs.declared.Instr.{Instr}
use Rattle.graft_texts.specs.declared.Op.TheVariants.{Li, Mov, Jmp, Jz, Call, Trap, Ret}
use Rattle.graft_texts.specs.Boxed.{instr}
use Rattle.graft_texts.specs.declared.language.Operator.{Operator}
use Rattle.graft_texts.specs.declared.language.Operator.TheVariants.{Plus}
use Rattle.graft_texts.specs.declared.language.Symbol.{Symbol}
use Rattle.graft_texts.specs.declared.language.Symbol.TheVariants.{Else, Semicolon, OpenBrace, CloseBrace}
use Rattle.graft_texts.specs.declared.language.Symbol.TheVariants.{OpenParenthesis, CloseParenthesis, Comma}
use Rattle.graft_texts.specs.LanguageTokens.{Token, Number, Callable, Infix, Mark, same_symbol}
use Rattle.graft_texts.specs.LanguageGrammar.{Expression, Binary, Program, spelled_expression, spelled_arguments}
use Rattle.graft_texts.specs.LanguageGrammar.{spelled_statements, spelled}
use Rattle.graft_texts.specs.LanguageReading.{Syntax}
use Rattle.graft_texts.specs.LanguageMeaning as l
use Rattle.graft_texts.specs.LanguageMeaning.{numbered_expression, numbered}
use Rattle.graft_lang.specs.Code.{fetches, puts, left_register, left_code, right_code, expression_code, arguments_code}
use Rattle.graft_lang.specs.Code.{registers_code, statements_code}
use Rattle.graft_lang.specs.Code.{program_code}

-- the tokens that are left, and the code so far
pub record Writing : Type 0 where
  pub tokens : List Token
  pub code : List Instr

-- ---- steps

-- without the first token
abbrev pub skipped : Writing → Writing
skipped w = record { tokens = drop 1 w.tokens; code = w.code }

-- with more code
abbrev pub appended : List Instr → Writing → Writing
appended code w = record { tokens = w.tokens; code = w.code ++ code }

-- with another instruction at a place
abbrev pub patched : (at : ℕ) → Instr → Writing → Writing
patched at i w = record { tokens = w.tokens; code = set w.code at i }

-- with this token before the others
abbrev pub with_first : Token → Writing → Writing
with_first t w = record { tokens = t ∷ w.tokens; code = w.code }

-- ---- room

-- Tokens are taken, and no more than so many instructions appended for each of them and so many
-- beside.
pub record Uses (each beside : ℕ) (old new : Writing) : Type 0 where
  pub fewer : length new.tokens ≤ length old.tokens
  pub longer : length old.code ≤ length new.code
  pub room : length new.code + each * length new.tokens ≤ length old.code + each * length old.tokens
      + beside

-- There is room for the tokens that are left: a slot from `top` on for each, and 16 instructions
-- for each in code of at most 4,080 and so many more.
pub record HasRoom (beside top : ℕ) (w : Writing) : Type 0 where
  pub slots : top + length w.tokens ≤ 1020
  pub code : length w.code + 16 * length w.tokens ≤ 4080 + beside

-- ---- expressions

-- the operator that a token is
abbrev pub operator_of : List Token → Operator
operator_of (Infix op ∷ tokens) = op
operator_of _ = Plus

-- where an expression is next, it is taken and its code appended
abbrev pub WritesExpression : (names : List (List ℕ)) → (top : ℕ) → (old new : Writing) → Type 0
WritesExpression names top old new =
    (e : Expression) (behind : List Token) → old.tokens ≡ spelled_expression e behind
    → new ≡ record {
      tokens = behind;
      code = old.code ++ expression_code top (numbered_expression names e);
    }

-- where an expression is next, it is taken as a left operand and comes to this register
abbrev pub WritesLeft : (names : List (List ℕ)) → (top reg : ℕ) → (old new : Writing) → Type 0
WritesLeft names top reg old new =
    (e : Expression) (behind : List Token) → old.tokens ≡ spelled_expression e behind
    → (new ≡ record {
      tokens = behind;
      code = old.code ++ left_code (numbered_expression names e)
          (expression_code top (numbered_expression names e));
    }) × (reg ≡ left_register (numbered_expression names e))

-- where an expression is next, it is taken as the right operand of an operator, the left one of
-- which this register has
abbrev pub WritesRight : (names : List (List ℕ)) → (top : ℕ) → Operator → (left : ℕ)
    → (old new : Writing) → Type 0
WritesRight names top op left old new =
    (e : Expression) (behind : List Token) → old.tokens ≡ spelled_expression e behind
    → new ≡ record {
      tokens = behind;
      code = old.code ++ right_code top op left (numbered_expression names e)
          (expression_code (suc top) (numbered_expression names e));
    }

-- the same of a right operand that is an operation, behind its parenthesis
abbrev pub WritesRightOperation : (names : List (List ℕ)) → (top : ℕ) → Operator → (left : ℕ)
    → (old new : Writing) → Type 0
WritesRightOperation names top op left old new =
    (a : Expression) (inner : Operator) (b : Expression) (behind : List Token)
    → old.tokens ≡ spelled_expression a (Infix inner
    ∷ spelled_expression b (Mark CloseParenthesis ∷ behind))
    → new ≡ record {
      tokens = behind;
      code = old.code ++ right_code top op left (numbered_expression names (Binary a inner b))
          (expression_code (suc top) (numbered_expression names (Binary a inner b)));
    }

-- the same of two operands with an operator between them, behind their parenthesis
abbrev pub WritesOperation : (names : List (List ℕ)) → (top : ℕ) → (old new : Writing) → Type 0
WritesOperation names top old new =
    (a : Expression) (op : Operator) (b : Expression) (behind : List Token)
    → old.tokens ≡ spelled_expression a (Infix op
    ∷ spelled_expression b (Mark CloseParenthesis ∷ behind))
    → new ≡ record {
      tokens = behind;
      code = old.code ++ expression_code top (numbered_expression names (Binary a op b));
    }

-- ---- what comes next

-- the callable that comes next
abbrev pub callable_next : List Token → Option ℕ
callable_next (Callable id ∷ tokens) = Some id
callable_next _ = None

-- without this callable, if one comes next
abbrev pub behind_callable : Writing → Writing
behind_callable w = record {
  tokens = cond (is_some (callable_next w.tokens)) (drop 1 w.tokens) w.tokens;
  code = w.code;
}

-- a symbol comes next
abbrev pub symbol_next : Symbol → List Token → Bool
symbol_next s (Mark t ∷ tokens) = same_symbol s t
symbol_next s _ = false

-- without this symbol, if it comes next
abbrev pub behind_symbol : Symbol → Writing → Writing
behind_symbol s w = record {
  tokens = cond (symbol_next s w.tokens) (drop 1 w.tokens) w.tokens;
  code = w.code;
}

-- the number that a token is
abbrev pub number_next : List Token → ℕ
number_next (Number n ∷ tokens) = n
number_next _ = 0

-- a token ends a block
abbrev pub closes_block : Token → Bool
closes_block (Mark s) = same_symbol CloseBrace s
closes_block _ = false

-- a block or the text ends here
abbrev pub is_block_end : List Token → Bool
is_block_end [] = true
is_block_end (t ∷ tokens) = closes_block t

-- ---- the code of statements, without what is behind them

-- a call whose answer goes to a variable
abbrev pub call_code : (top i id : ℕ) → List l.Expression → List Instr
call_code top i id es =
    arguments_code top es ++ (registers_code 0 top 3 es ++ (instr Call 0 0 0 id ∷ puts 0 i))

-- an answer
abbrev pub answer_code : (top : ℕ) → (e f : l.Expression) → List Instr
answer_code top e f =
    expression_code top e ++ (puts 4 top ++ (expression_code (suc top) f
    ++ (instr Mov 1 4 0 0 ∷ (fetches 0 top ++ (instr Ret 0 0 0 0 ∷ [])))))

-- an `if` without `else`, which stands at this place
abbrev pub when_code : (top place : ℕ) → l.Expression → l.Program → List Instr
when_code top place e p =
    let test = expression_code top e in
    let inner = statements_code top (place + length test + 1) p in
    test ++ (instr Jz 4 0 0 (place + length test + 1 + length inner) ∷ inner)

-- from the jump before `else` on, which stands at this place
abbrev pub else_code : (top place : ℕ) → l.Program → List Instr
else_code top place p =
    let outer = statements_code top (place + 1) p in
    instr Jmp 0 0 0 (place + 1 + length outer) ∷ outer

-- an `if` with `else`, which stands at this place
abbrev pub either_code : (top place : ℕ) → l.Expression → (p q : l.Program) → List Instr
either_code top place e p q =
    let test = expression_code top e in
    let inner = statements_code top (place + length test + 1) p in
    let end = place + length test + 1 + length inner in
    test ++ (instr Jz 4 0 0 (end + 1) ∷ (inner ++ else_code top end q))

-- a `while`, which stands at this place
abbrev pub loop_code : (top place : ℕ) → l.Expression → l.Program → List Instr
loop_code top place e p =
    let test = expression_code top e in
    let inner = statements_code top (place + length test + 1) p in
    test ++ (instr Jz 4 0 0 (place + length test + 1 + length inner + 1)
    ∷ (inner ++ instr Jmp 0 0 0 place ∷ []))

-- ---- calls

-- the register of an argument gets what waits in its slot, or zero where there are fewer arguments
abbrev pub register_code : (reg top count : ℕ) → List Instr
register_code reg top count =
    cond (nat_lt reg count) (fetches reg (top + reg)) (instr Li reg 0 0 0 ∷ [])

-- where arguments of a call are next, they and its end are taken and their code appended
abbrev pub WritesArguments : (names : List (List ℕ)) → (top : ℕ) → (old new : Writing) → (count : ℕ)
    → Type 0
WritesArguments names top old new count =
    (es : List Expression) (behind : List Token) → old.tokens ≡ spelled_arguments es behind
    → (new ≡ record {
      tokens = behind;
      code = old.code ++ arguments_code top (map (numbered_expression names) es);
    })
    × (count ≡ length es)

-- the same of a call whose answer goes to a variable, and of the semicolon behind it
abbrev pub WritesCall : (names : List (List ℕ)) → (top i id : ℕ) → (old new : Writing) → Type 0
WritesCall names top i id old new =
    (es : List Expression) (behind : List Token)
    → old.tokens ≡ Mark OpenParenthesis ∷ spelled_arguments es (Mark Semicolon ∷ behind)
    → new ≡ record {
      tokens = behind;
      code = old.code ++ call_code top i id (map (numbered_expression names) es);
    }

-- ---- statements

-- the same of a value that goes to a variable
abbrev pub WritesValue : (names : List (List ℕ)) → (top i : ℕ) → (old new : Writing) → Type 0
WritesValue names top i old new =
    (e : Expression) (behind : List Token)
    → old.tokens ≡ spelled_expression e (Mark Semicolon ∷ behind)
    → new ≡ record {
      tokens = behind;
      code = old.code ++ (expression_code top (numbered_expression names e) ++ puts 4 i);
    }

-- what is behind `trap`
abbrev pub WritesTrap : (old new : Writing) → Type 0
WritesTrap old new =
    (n : ℕ) (behind : List Token) → old.tokens ≡ Number n ∷ Mark Semicolon ∷ behind
    → new ≡ record { tokens = behind; code = old.code ++ instr Trap 0 0 0 n ∷ [] }

-- what is behind `answer`
abbrev pub WritesAnswer : (names : List (List ℕ)) → (top : ℕ) → (old new : Writing) → Type 0
WritesAnswer names top old new =
    (e f : Expression) (behind : List Token)
    → old.tokens ≡ spelled_expression e (Mark Comma
    ∷ spelled_expression f (Mark Semicolon ∷ behind))
    → new ≡ record {
      tokens = behind;
      code = old.code ++ answer_code top (numbered_expression names e)
          (numbered_expression names f);
    }

-- statements as far as the end of their block
abbrev pub WritesStatements : (names : List (List ℕ)) → (top : ℕ) → (old new : Writing) → Type 0
WritesStatements names top old new =
    (p : Program) (behind : List Token) → is_block_end behind ≡ true
    → old.tokens ≡ spelled_statements p behind
    → new ≡ record {
      tokens = behind;
      code = old.code ++ statements_code top (length old.code) (numbered names p);
    }

-- statements in braces
abbrev pub WritesBlock : (names : List (List ℕ)) → (top : ℕ) → (old new : Writing) → Type 0
WritesBlock names top old new =
    (p : Program) (behind : List Token)
    → old.tokens ≡ Mark OpenBrace ∷ spelled_statements p (Mark CloseBrace ∷ behind)
    → new ≡ record {
      tokens = behind;
      code = old.code ++ statements_code top (length old.code) (numbered names p);
    }

-- what is behind `else`, where the jump of the test is at this place
abbrev pub WritesElse : (names : List (List ℕ)) → (top test : ℕ) → (old new : Writing) → Type 0
WritesElse names top test old new =
    (p : Program) (behind : List Token)
    → old.tokens ≡ Mark OpenBrace ∷ spelled_statements p (Mark CloseBrace ∷ behind)
    → new ≡ record {
      tokens = behind;
      code = set old.code test (instr Jz 4 0 0 (length old.code + 1))
          ++ else_code top (length old.code) (numbered names p);
    }

-- what is behind `if`
pub record WritesIf (names : List (List ℕ)) (top : ℕ) (old new : Writing) : Type 0 where
  pub when : (e : Expression) (p : Program) (behind : List Token) → symbol_next Else behind ≡ false
      → old.tokens ≡ spelled_expression e (Mark OpenBrace
      ∷ spelled_statements p (Mark CloseBrace ∷ behind))
      → new ≡ record {
        tokens = behind;
        code = old.code ++ when_code top (length old.code) (numbered_expression names e)
            (numbered names p);
      }
  pub either : (e : Expression) (p q : Program) (behind : List Token)
      → old.tokens ≡ spelled_expression e (Mark OpenBrace ∷ spelled_statements p (Mark CloseBrace
      ∷ Mark Else ∷ Mark OpenBrace ∷ spelled_statements q (Mark CloseBrace ∷ behind)))
      → new ≡ record {
        tokens = behind;
        code = old.code ++ either_code top (length old.code) (numbered_expression names e)
            (numbered names p) (numbered names q);
      }

-- what is behind `while`
abbrev pub WritesWhile : (names : List (List ℕ)) → (top : ℕ) → (old new : Writing) → Type 0
WritesWhile names top old new =
    (e : Expression) (p : Program) (behind : List Token)
    → old.tokens ≡ spelled_expression e (Mark OpenBrace
    ∷ spelled_statements p (Mark CloseBrace ∷ behind))
    → new ≡ record {
      tokens = behind;
      code = old.code ++ loop_code top (length old.code) (numbered_expression names e)
          (numbered names p);
    }

-- a statement is taken and its code appended: whatever writes those behind it writes it with them
abbrev pub LeadsOn : (names : List (List ℕ)) → (top : ℕ) → (old new : Writing) → Type 0
LeadsOn names top old new =
    (w : Writing) → WritesStatements names top new w → WritesStatements names top old w

-- ---- programs

-- the code of the program that these tokens spell
abbrev pub IsWritten : Syntax → (code : List Instr) → Type 0
IsWritten s code =
    (p : Program) → spelled p ≡ s.tokens → code ≡ program_code (length s.names) (numbered s.names p)
