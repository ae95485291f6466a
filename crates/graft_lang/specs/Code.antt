-- The code of a program. Variables are numbered slots, and operands take the slots behind them. The
-- first seven slots are r7 to r13, slot i of the others is word i of the segment. r4 has values, r5
-- addresses, r6 operands that are loaded; r14 and r15 are never named.
use Rattle.std.specs.Prelude.{ℕ, zero, suc, ◌+◌, ◌-◌, ◌*◌, cond, nat_lt, List, [], ◌∷◌, ◌++◌, length}
use Rattle.graft_texts.specs.declared.Instr.{Instr}
use Rattle.graft_texts.specs.declared.Op.TheVariants.{Li, Mov, Ldw, Stw, Add, Sub, Mul, And, Or, Xor, Shl, Shr}
use Rattle.graft_texts.specs.declared.Op.TheVariants.{Divu, Remu, Sltu, Jmp, Jz, Call, Trap, Ret}
use Rattle.graft_texts.specs.Boxed.{instr}
use Rattle.graft_texts.specs.declared.language.Operator.{Operator}
use Rattle.graft_texts.specs.declared.language.Operator.TheVariants as operator
use Rattle.graft_texts.specs.LanguageMeaning.{Expression, Number, Variable, Binary, Program, Done, Assigns, Calls}
use Rattle.graft_texts.specs.LanguageMeaning.{When}
use Rattle.graft_texts.specs.LanguageMeaning.{Either, Loops, Traps, Answers}

-- a slot to a register: r5 has the address of a word of the segment
abbrev pub fetches : (reg slot : ℕ) → List Instr
fetches reg slot =
    cond (nat_lt slot 7) (instr Mov reg (7 + slot) 0 0 ∷ [])
    (instr Li 5 0 0 (4 * slot) ∷ instr Ldw reg 5 0 0 ∷ [])

-- a register to a slot: r5 has the address of a word of the segment
abbrev pub puts : (reg slot : ℕ) → List Instr
puts reg slot =
    cond (nat_lt slot 7) (instr Mov (7 + slot) reg 0 0 ∷ [])
    (instr Li 5 0 0 (4 * slot) ∷ instr Stw reg 5 0 0 ∷ [])

-- a slot that no register holds to a register
abbrev pub loads : (reg slot : ℕ) → List Instr
loads reg slot = cond (nat_lt slot 7) [] (instr Li 5 0 0 (4 * slot) ∷ instr Ldw reg 5 0 0 ∷ [])

-- the register that has a slot then
abbrev pub source : (reg slot : ℕ) → ℕ
source reg slot = cond (nat_lt slot 7) (7 + slot) reg

-- r4 becomes the left register op the right one; two values are equal where their difference is
-- below 1
abbrev pub operator_code : Operator → (left right : ℕ) → List Instr
operator_code operator.Plus left right = instr Add 4 left right 0 ∷ []
operator_code operator.Minus left right = instr Sub 4 left right 0 ∷ []
operator_code operator.Times left right = instr Mul 4 left right 0 ∷ []
operator_code operator.Over left right = instr Divu 4 left right 0 ∷ []
operator_code operator.Rest left right = instr Remu 4 left right 0 ∷ []
operator_code operator.And left right = instr And 4 left right 0 ∷ []
operator_code operator.Or left right = instr Or 4 left right 0 ∷ []
operator_code operator.Xor left right = instr Xor 4 left right 0 ∷ []
operator_code operator.ShiftLeft left right = instr Shl 4 left right 0 ∷ []
operator_code operator.ShiftRight left right = instr Shr 4 left right 0 ∷ []
operator_code operator.Less left right = instr Sltu 4 left right 0 ∷ []
operator_code operator.Equal left right =
    instr Sub 4 left right 0 ∷ instr Li 5 0 0 1 ∷ instr Sltu 4 4 5 0 ∷ []

-- the register in which an expression is a left operand
abbrev pub left_register : Expression → ℕ
left_register (Number n) = 4
left_register (Variable i) = source 4 i
left_register (Binary a op b) = 4

-- the code of a left operand, whose value is brought to r4 by this code
abbrev pub left_code : Expression → (own : List Instr) → List Instr
left_code (Number n) own = own
left_code (Variable i) own = loads 4 i
left_code (Binary a op b) own = own

-- the code of an operation behind its left operand, which this register has; the value of a right
-- operand that is an operation is brought to r4 by this code, while the left one waits
abbrev pub right_code : (top : ℕ) → Operator → (left : ℕ) → Expression → (own : List Instr)
    → List Instr
right_code top op left (Number n) own = instr Li 6 0 0 n ∷ operator_code op left 6
right_code top op left (Variable i) own = loads 6 i ++ operator_code op left (source 6 i)
right_code top op left (Binary a op' b) own =
    puts left top ++ (own ++ (loads 6 top ++ operator_code op (source 6 top) 4))

-- the value comes to r4; slots from `top` on are free
abbrev pub expression_code : (top : ℕ) → Expression → List Instr
expression_code top (Number n) = instr Li 4 0 0 n ∷ []
expression_code top (Variable i) = fetches 4 i
expression_code top (Binary a op b) =
    left_code a (expression_code top a)
    ++ right_code top op (left_register a) b (expression_code (suc top) b)

-- the arguments of a call come to the slots from `top` on
abbrev pub arguments_code : (top : ℕ) → List Expression → List Instr
arguments_code top [] = []
arguments_code top (e ∷ es) = expression_code top e ++ (puts 4 top ++ arguments_code (suc top) es)

-- the arguments come from the slots from `top` on to the registers from `reg` on, and zeros to
-- those that are left
abbrev pub registers_code : (reg top : ℕ) → (left : ℕ) → List Expression → List Instr
registers_code reg top zero es = []
registers_code reg top (suc left) [] = instr Li reg 0 0 0 ∷ registers_code (suc reg) top left []
registers_code reg top (suc left) (e ∷ es) =
    fetches reg top ++ registers_code (suc reg) (suc top) left es

-- the code of statements that stands at this place
abbrev pub statements_code : (top place : ℕ) → Program → List Instr
statements_code top place Done = []
statements_code top place (Assigns i e p) =
    let first = expression_code top e ++ puts 4 i in
    first ++ statements_code top (place + length first) p
statements_code top place (Calls i id es p) =
    let first = arguments_code top es
    ++ (registers_code 0 top 3 es ++ (instr Call 0 0 0 id ∷ puts 0 i)) in
    first ++ statements_code top (place + length first) p
statements_code top place (When e body p) =
    let test = expression_code top e in
    let inner = statements_code top (place + length test + 1) body in
    let behind = place + length test + 1 + length inner in
    test ++ (instr Jz 4 0 0 behind ∷ (inner ++ statements_code top behind p))
statements_code top place (Either e body other p) =
    let test = expression_code top e in
    let inner = statements_code top (place + length test + 1) body in
    let middle = place + length test + 1 + length inner + 1 in
    let outer = statements_code top middle other in
    let behind = middle + length outer in
    test ++ (instr Jz 4 0 0 middle ∷ (inner ++
    (instr Jmp 0 0 0 behind ∷ (outer ++ statements_code top behind p))))
statements_code top place (Loops e body p) =
    let test = expression_code top e in
    let inner = statements_code top (place + length test + 1) body in
    let behind = place + length test + 1 + length inner + 1 in
    test ++ (instr Jz 4 0 0 behind
    ∷ (inner ++ (instr Jmp 0 0 0 place ∷ statements_code top behind p)))
statements_code top place (Traps code p) = instr Trap 0 0 0 code ∷ statements_code top (place + 1) p
statements_code top place (Answers e f p) =
    let first = expression_code top e ++ (puts 4 top ++ (expression_code (suc top) f
    ++ (instr Mov 1 4 0 0 ∷ (fetches 0 top ++ (instr Ret 0 0 0 0 ∷ []))))) in
    first ++ statements_code top (place + length first) p

-- zeros for this many variables from this one on, r4 being 0
abbrev pub zeros_code : (i count : ℕ) → List Instr
zeros_code i zero = []
zeros_code i (suc count) = puts 4 i ++ zeros_code (suc i) count

-- the arguments to their slots, zeros to the other variables
abbrev pub prologue : (variables : ℕ) → List Instr
prologue variables =
    puts 0 0 ++ (puts 1 1
    ++ (puts 2 2 ++ (puts 3 3 ++ (instr Li 4 0 0 0 ∷ zeros_code 4 (variables - 4)))))

-- the first two arguments are the answer
abbrev pub epilogue : List Instr
epilogue = fetches 0 0 ++ (fetches 1 1 ++ (instr Ret 0 0 0 0 ∷ []))

-- the code of a program with so many variables
abbrev pub program_code : (variables : ℕ) → Program → List Instr
program_code variables p =
    let begin = prologue variables in
    begin ++ (statements_code variables (length begin) p ++ epilogue)
