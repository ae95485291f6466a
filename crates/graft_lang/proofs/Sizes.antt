-- The lengths of boxed code.
use Rattle.std.specs.Prelude.{◌≡◌, ℕ, zero, suc, ◌+◌, ◌-◌, ◌*◌, ◌≤◌, Bool, true, false, cond, nat_lt, List, []}
use Rattle.std.specs.Prelude.{◌∷◌, ◌++◌, length}
use Rattle.std.proofs.Common.{arith, refl, ap}
use Rattle.graft_texts.specs.declared.Instr.{Instr}
use Rattle.graft_texts.specs.declared.Op.TheVariants.{Li, Mov, Ldw, Stw, Jmp, Jz, Call, Ret}
use Rattle.graft_texts.specs.Boxed.{instr, boxed_length, boxed_place}
use Rattle.graft_texts.specs.declared.language.Operator.{Operator}
use Rattle.graft_texts.specs.declared.language.Operator.TheVariants as o
use Rattle.graft_texts.specs.LanguageMeaning.{Expression, Number, Variable, Binary, Program, Done, Assigns, Calls}
use Rattle.graft_texts.specs.LanguageMeaning.{When, Either, Loops, Traps, Answers}
use Rattle.graft_lang.specs.Code.{fetches, puts, loads, source, operator_code, left_register, left_code, right_code}
use Rattle.graft_lang.specs.Code.{expression_code, arguments_code, registers_code}
use Rattle.graft_lang.specs.Code.{statements_code, zeros_code, prologue, epilogue, program_code}
use Rattle.graft_lang.specs.Sizes.{expression_tokens, argument_tokens, program_tokens, semicolons, ProgramsAreShort}

-- the boxed length of all instructions
abbrev pub total : List Instr → ℕ
total [] = 0
total (i ∷ is) = boxed_length i + total is

pub boxed_place-total : (is : List Instr) → boxed_place is (length is) ≡ total is
boxed_place-total [] = refl
boxed_place-total (i ∷ is) = ap (λ n. boxed_length i + n) (boxed_place-total is)

total-append : (is ks : List Instr) → total (is ++ ks) ≡ total is + total ks
total-append [] ks = omega arith
total-append (i ∷ is) ks = let e = total-append is ks in omega (arith, e)

operator_short : (op : Operator) (left right : ℕ) → total (operator_code op left right) ≤ 3
operator_short o.Plus left right = omega arith
operator_short o.Minus left right = omega arith
operator_short o.Times left right = omega arith
operator_short o.Over left right = omega arith
operator_short o.Rest left right = omega arith
operator_short o.And left right = omega arith
operator_short o.Or left right = omega arith
operator_short o.Xor left right = omega arith
operator_short o.ShiftLeft left right = omega arith
operator_short o.ShiftRight left right = omega arith
operator_short o.Less left right = omega arith
operator_short o.Equal left right = omega arith

-- what moves a slot is short
pub fetches_short : (reg slot : ℕ) → total (fetches reg slot) ≤ 4
fetches_short reg slot = by (nat_lt slot 7)
  where
    by : (b : Bool) → total (cond b (instr Mov reg (7 + slot) 0 0 ∷ [])
        (instr Li 5 0 0 (4 * slot) ∷ instr Ldw reg 5 0 0 ∷ [])) ≤ 4
    by true = omega arith
    by false = omega arith

pub puts_short : (reg slot : ℕ) → total (puts reg slot) ≤ 4
puts_short reg slot = by (nat_lt slot 7)
  where
    by : (b : Bool) → total (cond b (instr Mov (7 + slot) reg 0 0 ∷ [])
        (instr Li 5 0 0 (4 * slot) ∷ instr Stw reg 5 0 0 ∷ [])) ≤ 4
    by true = omega arith
    by false = omega arith

loads_short : (reg slot : ℕ) → total (loads reg slot) ≤ 4
loads_short reg slot = by (nat_lt slot 7)
  where
    by : (b : Bool) → total (cond b [] (instr Li 5 0 0 (4 * slot) ∷ instr Ldw reg 5 0 0 ∷ [])) ≤ 4
    by true = omega arith
    by false = omega arith

left_short : (a : Expression) (own : List Instr) → total own + 4 ≤ 8 * expression_tokens a →
    total (left_code a own) + 4 ≤ 8 * expression_tokens a
left_short (Number n) own h = h
left_short (Variable i) own h = let l = loads_short 4 i in omega (arith, l)
left_short (Binary a op b) own h = h

right_short : (top : ℕ) (op : Operator) (left : ℕ) (b : Expression) (own : List Instr) →
    total own + 4 ≤ 8 * expression_tokens b → total (right_code top op left b own) ≤ 8 * expression_tokens b + 7
right_short top op left (Number n) own h = let ho = operator_short op left 6 in omega (arith, ho)
right_short top op left (Variable i) own h =
    let ho = operator_short op left (source 6 i) in
    let hl = loads_short 6 i in
    let e = total-append (loads 6 i) (operator_code op left (source 6 i)) in
    omega (arith, ho, hl, e)
right_short top op left (Binary a op' b) own h =
    let end = loads 6 top ++ operator_code op (source 6 top) 4 in
    let hp = puts_short left top in
    let hl = loads_short 6 top in
    let ho = operator_short op (source 6 top) 4 in
    let e1 = total-append (puts left top) (own ++ end) in
    let e2 = total-append own end in
    let e3 = total-append (loads 6 top) (operator_code op (source 6 top) 4) in
    omega (arith, h, hp, hl, ho, e1, e2, e3)

expression_short : (top : ℕ) (e : Expression) → total (expression_code top e) + 4 ≤ 8 * expression_tokens e
expression_short top (Number n) = omega arith
expression_short top (Variable i) = let h = fetches_short 4 i in omega (arith, h)
expression_short top (Binary a op b) =
    let ha = left_short a (expression_code top a) (expression_short top a) in
    let hb = right_short top op (left_register a) b (expression_code (suc top) b) (expression_short (suc top) b) in
    let e = total-append (left_code a (expression_code top a))
    (right_code top op (left_register a) b (expression_code (suc top) b)) in
    omega (arith, ha, hb, e)

arguments_short : (top : ℕ) (es : List Expression) → total (arguments_code top es) ≤ 8 * argument_tokens es
arguments_short top [] = omega arith
arguments_short top (e ∷ es) =
    let he = expression_short top e in
    let hes = arguments_short (suc top) es in
    let e1 = total-append (expression_code top e) (puts 4 top ++ arguments_code (suc top) es) in
    let e2 = total-append (puts 4 top) (arguments_code (suc top) es) in
    let hp = puts_short 4 top in
    omega (arith, he, hes, e1, e2, hp)

registers_short : (reg top left : ℕ) (es : List Expression) → total (registers_code reg top left es) ≤ 4 * left
registers_short reg top zero es = omega arith
registers_short reg top (suc left) [] = let h = registers_short (suc reg) top left [] in omega (arith, h)
registers_short reg top (suc left) (e ∷ es) =
    let h = registers_short (suc reg) (suc top) left es in
    let e1 = total-append (fetches reg top) (registers_code (suc reg) (suc top) left es) in
    let hf = fetches_short reg top in
    omega (arith, h, e1, hf)

statements_short : (v c : ℕ) (p : Program) → total (statements_code v c p) + 4 * semicolons p ≤ 8 * program_tokens p
statements_short v c Done = omega arith
statements_short v c (Assigns i e p) =
    let first = expression_code v e ++ puts 4 i in
    let he = expression_short v e in
    let hp = statements_short v (c + length first) p in
    let e1 = total-append first (statements_code v (c + length first) p) in
    let e2 = total-append (expression_code v e) (puts 4 i) in
    let h4 = puts_short 4 i in
    omega (arith, he, hp, e1, e2, h4)
statements_short v c (Calls i id es p) =
    let last = instr Call 0 0 0 id ∷ puts 0 i in
    let first = arguments_code v es ++ (registers_code 0 v 3 es ++ last) in
    let ha = arguments_short v es in
    let hr = registers_short 0 v 3 es in
    let hp = statements_short v (c + length first) p in
    let e1 = total-append first (statements_code v (c + length first) p) in
    let e2 = total-append (arguments_code v es) (registers_code 0 v 3 es ++ last) in
    let e3 = total-append (registers_code 0 v 3 es) last in
    let h0 = puts_short 0 i in
    omega (arith, ha, hr, hp, e1, e2, e3, h0)
statements_short v c (When e body p) =
    let test = expression_code v e in
    let inner = statements_code v (c + length test + 1) body in
    let behind = c + length test + 1 + length inner in
    let he = expression_short v e in
    let hb = statements_short v (c + length test + 1) body in
    let hp = statements_short v behind p in
    let e1 = total-append test (instr Jz 4 0 0 behind ∷ (inner ++ statements_code v behind p)) in
    let e2 = total-append inner (statements_code v behind p) in
    omega (arith, he, hb, hp, e1, e2)
statements_short v c (Either e body other p) =
    let test = expression_code v e in
    let inner = statements_code v (c + length test + 1) body in
    let middle = c + length test + 1 + length inner + 1 in
    let outer = statements_code v middle other in
    let behind = middle + length outer in
    let last = instr Jmp 0 0 0 behind ∷ (outer ++ statements_code v behind p) in
    let he = expression_short v e in
    let hb = statements_short v (c + length test + 1) body in
    let ho = statements_short v middle other in
    let hp = statements_short v behind p in
    let e1 = total-append test (instr Jz 4 0 0 middle ∷ (inner ++ last)) in
    let e2 = total-append inner last in
    let e3 = total-append outer (statements_code v behind p) in
    omega (arith, he, hb, ho, hp, e1, e2, e3)
statements_short v c (Loops e body p) =
    let test = expression_code v e in
    let inner = statements_code v (c + length test + 1) body in
    let behind = c + length test + 1 + length inner + 1 in
    let last = instr Jmp 0 0 0 c ∷ statements_code v behind p in
    let he = expression_short v e in
    let hb = statements_short v (c + length test + 1) body in
    let hp = statements_short v behind p in
    let e1 = total-append test (instr Jz 4 0 0 behind ∷ (inner ++ last)) in
    let e2 = total-append inner last in
    omega (arith, he, hb, hp, e1, e2)
statements_short v c (Traps code p) = let hp = statements_short v (c + 1) p in omega (arith, hp)
statements_short v c (Answers e f p) =
    let a = expression_code v e in
    let b = expression_code (suc v) f in
    let end = instr Mov 1 4 0 0 ∷ (fetches 0 v ++ (instr Ret 0 0 0 0 ∷ [])) in
    let first = a ++ (puts 4 v ++ (b ++ end)) in
    let he = expression_short v e in
    let hf = expression_short (suc v) f in
    let hp = statements_short v (c + length first) p in
    let e1 = total-append first (statements_code v (c + length first) p) in
    let e2 = total-append a (puts 4 v ++ (b ++ end)) in
    let e3 = total-append (puts 4 v) (b ++ end) in
    let e4 = total-append b end in
    let e5 = total-append (fetches 0 v) (instr Ret 0 0 0 0 ∷ []) in
    let h4 = puts_short 4 v in
    let h0 = fetches_short 0 v in
    omega (arith, he, hf, hp, e1, e2, e3, e4, e5, h4, h0)

zeros_short : (i n : ℕ) → total (zeros_code i n) ≤ 4 * n
zeros_short i zero = omega arith
zeros_short i (suc n) =
    let h = zeros_short (suc i) n in
    let e = total-append (puts 4 i) (zeros_code (suc i) n) in
    let hp = puts_short 4 i in
    omega (arith, h, e, hp)

pub prologue_short : (v : ℕ) → total (prologue v) ≤ 17 + 4 * (v - 4)
prologue_short v =
    let z = zeros_short 4 (v - 4) in
    let last = instr Li 4 0 0 0 ∷ zeros_code 4 (v - 4) in
    let e1 = total-append (puts 0 0) (puts 1 1 ++ (puts 2 2 ++ (puts 3 3 ++ last))) in
    let e2 = total-append (puts 1 1) (puts 2 2 ++ (puts 3 3 ++ last)) in
    let e3 = total-append (puts 2 2) (puts 3 3 ++ last) in
    let e4 = total-append (puts 3 3) last in
    omega (arith, z, e1, e2, e3, e4)

pub programs_are_short : ProgramsAreShort
programs_are_short v p least most =
    let begin = prologue v in
    let stmts = statements_code v (length begin) p in
    let e1 = total-append begin (stmts ++ epilogue) in
    let e2 = total-append stmts epilogue in
    let hb = prologue_short v in
    let hs = statements_short v (length begin) p in
    let is = boxed_place-total (program_code v p) in
    omega (arith, e1, e2, hb, hs, is, least, most)
