-- What a program of the graft language says: its values, its calls, and how it ends.
use Rattle.std.specs.Prelude.{ℕ, zero, suc, ◌+◌, ◌-◌, ◌*◌, ◌/◌, ◌%◌, ◌^◌, ◌==◌, cond, nat_lt, List, [], ◌∷◌, ◌++◌}
use Rattle.std.specs.Prelude.{map, bit_and, bit_or, bit_xor, Option, None, Some}
use Rattle.kernel_data.specs.Objects.{at}
use Rattle.graft_code.specs.Machine.{word}
use Rattle.graft_code.specs.Runs.{MadeCall}
use Rattle.graft_texts.specs.declared.language.Operator.{Operator}
use Rattle.graft_texts.specs.declared.language.Operator.TheVariants.{Plus, Minus, Times, Over, Rest, And, Or, Xor}
use Rattle.graft_texts.specs.declared.language.Operator.TheVariants.{ShiftLeft, ShiftRight, Less, Equal}
use Rattle.graft_texts.specs.LanguageGrammar as spelled
use Rattle.graft_texts.specs.LanguageReading.{number_of}

-- ---- programs whose variables are numbered, the arguments 0 to 3 first

-- an expression
pub data Expression : Type 0 where
  Number : (n : ℕ) → Expression
  Variable : (i : ℕ) → Expression
  Binary : Expression → Operator → Expression → Expression

-- statements, as in the grammar: nothing more, or a statement and those after it
pub data Program : Type 0 where
  Done : Program
  Assigns : (i : ℕ) → Expression → Program → Program
  Calls : (i : ℕ) → (id : ℕ) → (arguments : List Expression) → Program → Program
  When : Expression → Program → Program → Program
  Either : Expression → Program → Program → Program → Program
  Loops : Expression → Program → Program → Program
  Traps : (code : ℕ) → Program → Program
  Answers : Expression → Expression → Program → Program

-- an expression of the grammar with the numbers of its variables
abbrev pub numbered_expression : (names : List (List ℕ)) → spelled.Expression → Expression
numbered_expression names (spelled.Literal n) = Number n
numbered_expression names (spelled.Named name) = Variable (number_of names name)
numbered_expression names (spelled.Binary a op b) =
    Binary (numbered_expression names a) op (numbered_expression names b)

-- a program of the grammar with the numbers of its variables
abbrev pub numbered : (names : List (List ℕ)) → spelled.Program → Program
numbered names spelled.Done = Done
numbered names (spelled.Assigns name e p) =
    Assigns (number_of names name) (numbered_expression names e) (numbered names p)
numbered names (spelled.Calls name id es p) =
    Calls (number_of names name) id (map (numbered_expression names) es) (numbered names p)
numbered names (spelled.When e body p) =
    When (numbered_expression names e) (numbered names body) (numbered names p)
numbered names (spelled.Either e body other p) =
    Either (numbered_expression names e) (numbered names body) (numbered names other)
    (numbered names p)
numbered names (spelled.Loops e body p) =
    Loops (numbered_expression names e) (numbered names body) (numbered names p)
numbered names (spelled.Traps code p) = Traps code (numbered names p)
numbered names (spelled.Answers e f p) =
    Answers (numbered_expression names e) (numbered_expression names f) (numbered names p)

-- ---- values

-- what an operator makes of two values; nothing if it divides by zero
abbrev pub applied : Operator → ℕ → ℕ → Option ℕ
applied Plus a b = Some (word (a + b))
applied Minus a b = Some (word (a + 2 ^ 32 - b))
applied Times a b = Some (word (a * b))
applied Over a b = cond (b == 0) None (Some (a / b))
applied Rest a b = cond (b == 0) None (Some (a % b))
applied And a b = Some (bit_and a b)
applied Or a b = Some (bit_or a b)
applied Xor a b = Some (bit_xor a b)
applied ShiftLeft a b = Some (word (a * 2 ^ (b % 32)))
applied ShiftRight a b = Some (a / 2 ^ (b % 32))
applied Less a b = Some (cond (nat_lt a b) 1 0)
applied Equal a b = Some (cond (a == b) 1 0)

-- what an operator makes of two values, if there are both
abbrev pub both : Operator → Option ℕ → Option ℕ → Option ℕ
both op None b = None
both op (Some a) None = None
both op (Some a) (Some b) = applied op a b

-- the value of an expression if the variables have these values; the left side comes first
abbrev pub value : (cells : ℕ → ℕ) → Expression → Option ℕ
value cells (Number n) = Some n
value cells (Variable i) = Some (cells i)
value cells (Binary a op b) = both op (value cells a) (value cells b)

-- a value before others
abbrev pub value_before : Option ℕ → Option (List ℕ) → Option (List ℕ)
value_before None xs = None
value_before (Some x) None = None
value_before (Some x) (Some xs) = Some (x ∷ xs)

-- the values of arguments, in their order
abbrev pub values : (cells : ℕ → ℕ) → List Expression → Option (List ℕ)
values cells [] = Some []
values cells (e ∷ es) = value_before (value cells e) (values cells es)

-- ---- what a program does

-- how a program ends: with an answer, with a trap, with a division by zero, at a call for which no
-- answer is left, or not within the turns
pub data End : Type 0 where
  Answered : (r0 r1 : ℕ) → End
  Trapped : (code : ℕ) → End
  DividedByZero : End
  -- at a call for which no answer is left
  Asks : MadeCall → End
  -- it goes on: all turns of loops were taken
  Going : End

-- how far a program has come
pub record State : Type 0 where
  pub cells : ℕ → ℕ
  -- the calls so far, the first one first
  pub calls : List MadeCall
  -- the answers that are left, one pair for each call to come
  pub answers : List (ℕ × ℕ)
  -- how many turns of loops are left
  pub turns : ℕ
  -- what ended it, if it has ended
  pub ended : Option End

-- a state with this end
abbrev pub ends : State → End → State
ends s end = record s { ended = Some end }

-- a variable gets a value
abbrev pub assigns : ℕ → State → Option ℕ → State
assigns i s None = ends s DividedByZero
assigns i s (Some x) = record s { cells = at i x s.cells }

-- a call with these arguments, and zeros for those that the callable doesn't have
abbrev pub made_call : (id : ℕ) → List ℕ → MadeCall
made_call id [] = record { id = id; r0 = 0; r1 = 0; r2 = 0 }
made_call id (x ∷ []) = record { id = id; r0 = x; r1 = 0; r2 = 0 }
made_call id (x ∷ y ∷ []) = record { id = id; r0 = x; r1 = y; r2 = 0 }
made_call id (x ∷ y ∷ z ∷ xs) = record { id = id; r0 = x; r1 = y; r2 = z }

-- a call takes the next pair of answers; the first of the pair becomes the variable's value
abbrev pub answers_call : (i : ℕ) → MadeCall → State → List (ℕ × ℕ) → State
answers_call i call s [] = ends s (Asks call)
answers_call i call s (pair ∷ pairs) =
    record s { cells = at i pair.0 s.cells; calls = s.calls ++ call ∷ []; answers = pairs }

-- a call with these arguments, if they have values
abbrev pub calls : (i id : ℕ) → State → Option (List ℕ) → State
calls i id s None = ends s DividedByZero
calls i id s (Some xs) = answers_call i (made_call id xs) s s.answers

-- the end with this answer, if both sides have values
abbrev pub answers : State → Option ℕ → Option ℕ → State
answers s None y = ends s DividedByZero
answers s (Some x) None = ends s DividedByZero
answers s (Some x) (Some y) = ends s (Answered x y)

-- what is done if a condition has this value
abbrev pub chooses : (then_does else_does : State → State) → State → Option ℕ → State
chooses then_does else_does s None = ends s DividedByZero
chooses then_does else_does s (Some zero) = else_does s
chooses then_does else_does s (Some (suc n)) = then_does s

-- one turn of a loop, if one is left
abbrev pub takes_turn : (State → State) → State → ℕ → State
takes_turn turn s zero = ends s Going
takes_turn turn s (suc n) = turn (record s { turns = n })

-- a loop of at most this many turns; a state that has ended stays as it is
abbrev pub loops : (condition : (ℕ → ℕ) → Option ℕ) → (body : State → State) → (most : ℕ) → State →
    State
loops condition body zero s =
    elim s.ended [
      | Some end ↦ s
      | None ↦ chooses (λ t. ends t Going) (λ t. t) s (condition s.cells)
    ]
loops condition body (suc n) s =
    elim s.ended [
      | Some end ↦ s
      | None ↦ chooses (λ t. takes_turn (λ u. loops condition body n (body u)) t t.turns) (λ t. t) s
          (condition s.cells)
    ]

-- what a program does; a state that has ended stays as it is
abbrev pub does : Program → State → State
does Done s = s
does (Assigns i e p) s =
    elim s.ended [ Some end ↦ s | None ↦ does p (assigns i s (value s.cells e)) ]
does (Calls i id es p) s =
    elim s.ended [ Some end ↦ s | None ↦ does p (calls i id s (values s.cells es)) ]
does (When e body p) s =
    elim s.ended [ Some end ↦ s | None ↦ does p (chooses (does body) (λ t. t) s (value s.cells e)) ]
does (Either e body other p) s =
    elim s.ended [
      | Some end ↦ s
      | None ↦ does p (chooses (does body) (does other) s (value s.cells e))
    ]
does (Loops e body p) s =
    elim s.ended [
      | Some end ↦ s
      | None ↦ does p (loops (λ cells. value cells e) (does body) s.turns s)
    ]
does (Traps code p) s = elim s.ended [ Some end ↦ s | None ↦ ends s (Trapped code) ]
does (Answers e f p) s =
    elim s.ended [ Some end ↦ s | None ↦ answers s (value s.cells e) (value s.cells f) ]

-- the state at the end of the text: the first two arguments are the answer, unless the program has
-- already ended
abbrev pub at_end : State → State
at_end s = elim s.ended [ Some end ↦ s | None ↦ ends s (Answered (s.cells 0) (s.cells 1)) ]

-- the state before the first statement: variables are 0, except the arguments
abbrev pub first_state : (arguments : ℕ → ℕ) → List (ℕ × ℕ) → (turns : ℕ) → State
first_state arguments pairs turns =
    record {
      cells = λ i. cond (nat_lt i 4) (arguments i) 0;
      calls = [];
      answers = pairs;
      turns = turns;
      ended = None;
    }

-- what a program does with these arguments and answers, within this many turns of loops
abbrev pub says : Program → (arguments : ℕ → ℕ) → List (ℕ × ℕ) → (turns : ℕ) → State
says p arguments pairs turns = at_end (does p (first_state arguments pairs turns))
