-- How long the boxed code of a program is, by its tokens.
use Rattle.std.specs.Prelude.{◌≡◌, ℕ, ◌+◌, ◌*◌, ◌<◌, ◌≤◌, List, [], ◌∷◌, length, Ok, ⊤}
use Rattle.graft_texts.specs.Boxed.{boxed_place, boxed_code, rewrite}
use Rattle.graft_texts.specs.LanguageMeaning.{Expression, Number, Variable, Binary, Program, Done, Assigns, Calls}
use Rattle.graft_texts.specs.LanguageMeaning.{When}
use Rattle.graft_texts.specs.LanguageMeaning.{Either, Loops, Traps, Answers}
use Rattle.graft_lang.specs.Code.{program_code}

-- how many tokens an expression has
abbrev pub expression_tokens : Expression → ℕ
expression_tokens (Number n) = 1
expression_tokens (Variable i) = 1
expression_tokens (Binary a op b) = expression_tokens a + expression_tokens b + 3

-- how many tokens the arguments of a call have, without the commas between them
abbrev pub argument_tokens : List Expression → ℕ
argument_tokens [] = 0
argument_tokens (e ∷ es) = expression_tokens e + argument_tokens es

-- how many tokens a program has, without the commas between arguments
abbrev pub program_tokens : Program → ℕ
program_tokens Done = 0
program_tokens (Assigns i e p) = expression_tokens e + 3 + program_tokens p
program_tokens (Calls i id es p) = argument_tokens es + 6 + program_tokens p
program_tokens (When e body p) = expression_tokens e + 3 + program_tokens body + program_tokens p
program_tokens (Either e body other p) =
    expression_tokens e + 6 + program_tokens body + program_tokens other + program_tokens p
program_tokens (Loops e body p) = expression_tokens e + 3 + program_tokens body + program_tokens p
program_tokens (Traps code p) = 3 + program_tokens p
program_tokens (Answers e f p) = expression_tokens e + expression_tokens f + 3 + program_tokens p

-- how many statements of a program end with a semicolon
abbrev pub semicolons : Program → ℕ
semicolons Done = 0
semicolons (Assigns i e p) = 1 + semicolons p
semicolons (Calls i id es p) = 1 + semicolons p
semicolons (When e body p) = semicolons body + semicolons p
semicolons (Either e body other p) = semicolons body + semicolons other + semicolons p
semicolons (Loops e body p) = semicolons body + semicolons p
semicolons (Traps code p) = 1 + semicolons p
semicolons (Answers e f p) = 1 + semicolons p

-- boxed, a program needs at most 8 instructions a token and 32 more, where it has no more variables
-- than the arguments and one for each semicolon
abbrev pub ProgramsAreShort : Type 0
ProgramsAreShort =
    (v : ℕ) (p : Program) → 4 ≤ v → v ≤ 4 + semicolons p
    → boxed_place (program_code v p) (length (program_code v p)) ≤ 8 * program_tokens p + 32

-- calls are of callables
abbrev pub CallsFit : Program → Type 0
CallsFit Done = ⊤
CallsFit (Assigns i e p) = CallsFit p
CallsFit (Calls i id es p) = (id < 16) × CallsFit p
CallsFit (When e body p) = CallsFit body × CallsFit p
CallsFit (Either e body other p) = CallsFit body × CallsFit other × CallsFit p
CallsFit (Loops e body p) = CallsFit body × CallsFit p
CallsFit (Traps code p) = CallsFit p
CallsFit (Answers e f p) = CallsFit p

-- the rewriter refuses no program of at most 120 tokens
abbrev pub ProgramsAreBoxed : Type 0
ProgramsAreBoxed =
    (v : ℕ) (p : Program) → 4 ≤ v → v ≤ 4 + semicolons p → program_tokens p ≤ 120 → CallsFit p
    → rewrite (program_code v p) ≡ Ok (boxed_code (program_code v p))
