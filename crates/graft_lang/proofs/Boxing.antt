-- The rewriter refuses no code of a program.
use Rattle.std.specs.Prelude.{◌≡◌, ℕ, zero, suc, ◌+◌, ◌-◌, ◌*◌, ◌<◌, ◌≤◌, Bool, true, false, not, cond, ◌&&◌, ◌||◌}
use Rattle.std.specs.Prelude.{nat_lt, nat_le, List, [], ◌∷◌, ◌++◌, length, Option, None, Some, Result, Ok, Err, ⊤}
use Rattle.std.proofs.Common.{arith, refl, ap, ◌∙◌}
use Rattle.std.proofs.lemmas.Bool.Decides.{nat_tests}
use Rattle.std.proofs.lemmas.List.{length-append}
use Rattle.graft_texts.specs.declared.Instr.{Instr}
use Rattle.graft_texts.specs.declared.Op.TheVariants.{Li, Mov, Add, Ldw, Stw, Jmp, Jz, Call, Ret}
use Rattle.graft_texts.specs.Instructions.{names_register}
use Rattle.graft_texts.specs.Boxed.{instr, is_jump, is_direct_call, ends_well, RewriteFault, NamesReserved, JumpsOut}
use Rattle.graft_texts.specs.Boxed.{CallsUnknown, NoEnd, TooLong, boxed_code, boxed_place, rewrite_fault_at}
use Rattle.graft_texts.specs.Boxed.{rewrite_fault_from}
use Rattle.graft_texts.specs.declared.language.Operator.{Operator}
use Rattle.graft_texts.specs.declared.language.Operator.TheVariants as o
use Rattle.graft_texts.specs.LanguageMeaning.{Expression, Number, Variable, Binary, Program, Done, Assigns, Calls}
use Rattle.graft_texts.specs.LanguageMeaning.{When, Either, Loops, Traps, Answers}
use Rattle.graft_lang.specs.Code.{fetches, puts, loads, source, operator_code, left_register, left_code, right_code}
use Rattle.graft_lang.specs.Code.{expression_code, arguments_code, registers_code}
use Rattle.graft_lang.specs.Code.{statements_code, zeros_code, prologue, epilogue, program_code}
use Rattle.graft_lang.specs.Sizes.{CallsFit, ProgramsAreBoxed}
use Rattle.graft_lang.proofs.Sizes.{programs_are_short}

-- an instruction of code of this length that the rewriter doesn't refuse
abbrev IsGood : ℕ → Instr → Type 0
IsGood n i =
    ((names_register 14 i || names_register 15 i) ≡ false) × ((is_jump i.op && nat_le n i.imm) ≡ false)
    × ((is_direct_call i.op && nat_lt 15 i.imm) ≡ false)

abbrev AllGood : ℕ → List Instr → Type 0
AllGood n [] = ⊤
AllGood n (i ∷ is) = IsGood n i × AllGood n is

good_append : (n : ℕ) (is ks : List Instr) → AllGood n is → AllGood n ks → AllGood n (is ++ ks)
good_append n [] ks h k = k
good_append n (i ∷ is) ks h k = (h.0, good_append n is ks h.1 k)

-- ---- code that is good

inside : (n t : ℕ) → t < n → nat_le n t ≡ false
inside n t h = grind (arith, nat_tests)

known : (id : ℕ) → id < 16 → nat_lt 15 id ≡ false
known id h = grind (arith, nat_tests)

loaded_good : (reg : ℕ) → reg < 14 →
    (names_register 14 (instr Ldw reg 5 0 0) || names_register 15 (instr Ldw reg 5 0 0)) ≡ false
loaded_good reg h = grind (arith, nat_tests)

fetches_good : (n reg slot : ℕ) → reg < 14 → AllGood n (fetches reg slot)
fetches_good n reg slot h = by (nat_lt slot 7) refl
  where
    copied : (reg slot : ℕ) → reg < 14 → nat_lt slot 7 ≡ true →
        (names_register 14 (instr Mov reg (7 + slot) 0 0) || names_register 15 (instr Mov reg (7 + slot) 0 0)) ≡ false
    copied reg slot h e = grind (arith, nat_tests)

    by : (b : Bool) → nat_lt slot 7 ≡ b → AllGood n (cond b (instr Mov reg (7 + slot) 0 0 ∷ [])
        (instr Li 5 0 0 (4 * slot) ∷ instr Ldw reg 5 0 0 ∷ []))
    by true e = ((copied reg slot h e, refl, refl), tt)
    by false e = ((refl, refl, refl), ((loaded_good reg h, refl, refl), tt))

puts_good : (n reg slot : ℕ) → reg < 14 → AllGood n (puts reg slot)
puts_good n reg slot h = by (nat_lt slot 7) refl
  where
    copied : (reg slot : ℕ) → reg < 14 → nat_lt slot 7 ≡ true →
        (names_register 14 (instr Mov (7 + slot) reg 0 0) || names_register 15 (instr Mov (7 + slot) reg 0 0)) ≡ false
    copied reg slot h e = grind (arith, nat_tests)

    named : (reg : ℕ) → reg < 14 →
        (names_register 14 (instr Stw reg 5 0 0) || names_register 15 (instr Stw reg 5 0 0)) ≡ false
    named reg h = grind (arith, nat_tests)

    by : (b : Bool) → nat_lt slot 7 ≡ b → AllGood n (cond b (instr Mov (7 + slot) reg 0 0 ∷ [])
        (instr Li 5 0 0 (4 * slot) ∷ instr Stw reg 5 0 0 ∷ []))
    by true e = ((copied reg slot h e, refl, refl), tt)
    by false e = ((refl, refl, refl), ((named reg h, refl, refl), tt))

loads_good : (n reg slot : ℕ) → reg < 14 → AllGood n (loads reg slot)
loads_good n reg slot h = by (nat_lt slot 7)
  where
    by : (b : Bool) → AllGood n (cond b [] (instr Li 5 0 0 (4 * slot) ∷ instr Ldw reg 5 0 0 ∷ []))
    by true = tt
    by false = ((refl, refl, refl), ((loaded_good reg h, refl, refl), tt))

source_good : (reg slot : ℕ) → reg < 14 → source reg slot < 14
source_good reg slot h = by (nat_lt slot 7) refl
  where
    inside : nat_lt slot 7 ≡ true → slot < 7
    inside e = grind (arith, nat_tests, e)

    by : (b : Bool) → nat_lt slot 7 ≡ b → cond b (7 + slot) reg < 14
    by true e = let low = inside e in omega (arith, low)
    by false e = h

left_register_good : (a : Expression) → left_register a < 14
left_register_good (Number n) = omega arith
left_register_good (Variable i) = source_good 4 i (omega arith)
left_register_good (Binary a op b) = omega arith

-- an operation of r4 and two registers
operands_good : (left right : ℕ) → left < 14 → right < 14 →
    (names_register 14 (instr Add 4 left right 0) || names_register 15 (instr Add 4 left right 0)) ≡ false
operands_good left right l r = grind (arith, nat_tests)

operator_good : (n : ℕ) (op : Operator) (left right : ℕ) → left < 14 → right < 14 →
    AllGood n (operator_code op left right)
operator_good n o.Plus left right l r = ((operands_good left right l r, refl, refl), tt)
operator_good n o.Minus left right l r = ((operands_good left right l r, refl, refl), tt)
operator_good n o.Times left right l r = ((operands_good left right l r, refl, refl), tt)
operator_good n o.Over left right l r = ((operands_good left right l r, refl, refl), tt)
operator_good n o.Rest left right l r = ((operands_good left right l r, refl, refl), tt)
operator_good n o.And left right l r = ((operands_good left right l r, refl, refl), tt)
operator_good n o.Or left right l r = ((operands_good left right l r, refl, refl), tt)
operator_good n o.Xor left right l r = ((operands_good left right l r, refl, refl), tt)
operator_good n o.ShiftLeft left right l r = ((operands_good left right l r, refl, refl), tt)
operator_good n o.ShiftRight left right l r = ((operands_good left right l r, refl, refl), tt)
operator_good n o.Less left right l r = ((operands_good left right l r, refl, refl), tt)
operator_good n o.Equal left right l r = ((operands_good left right l r, refl, refl), ((refl, refl, refl), ((refl, refl, refl), tt)))

left_good : (n : ℕ) (a : Expression) (own : List Instr) → AllGood n own → AllGood n (left_code a own)
left_good n (Number x) own h = h
left_good n (Variable i) own h = loads_good n 4 i (omega arith)
left_good n (Binary a op b) own h = h

right_good : (n top : ℕ) (op : Operator) (left : ℕ) (b : Expression) (own : List Instr) → left < 14 →
    AllGood n own → AllGood n (right_code top op left b own)
right_good n top op left (Number x) own l h = ((refl, refl, refl), operator_good n op left 6 l (omega arith))
right_good n top op left (Variable i) own l h =
    good_append n (loads 6 i) (operator_code op left (source 6 i)) (loads_good n 6 i (omega arith))
    (operator_good n op left (source 6 i) l (source_good 6 i (omega arith)))
right_good n top op left (Binary a op' b) own l h =
    let end = loads 6 top ++ operator_code op (source 6 top) 4 in
    good_append n (puts left top) (own ++ end) (puts_good n left top l)
    (good_append n own end h
    (good_append n (loads 6 top) (operator_code op (source 6 top) 4) (loads_good n 6 top (omega arith))
    (operator_good n op (source 6 top) 4 (source_good 6 top (omega arith)) (omega arith))))

expression_good : (n top : ℕ) (e : Expression) → AllGood n (expression_code top e)
expression_good n top (Number x) = ((refl, refl, refl), tt)
expression_good n top (Variable i) = fetches_good n 4 i (omega arith)
expression_good n top (Binary a op b) =
    good_append n (left_code a (expression_code top a))
    (right_code top op (left_register a) b (expression_code (suc top) b))
    (left_good n a (expression_code top a) (expression_good n top a))
    (right_good n top op (left_register a) b (expression_code (suc top) b) (left_register_good a)
    (expression_good n (suc top) b))

arguments_good : (n top : ℕ) (es : List Expression) → AllGood n (arguments_code top es)
arguments_good n top [] = tt
arguments_good n top (e ∷ es) =
    good_append n (expression_code top e) (puts 4 top ++ arguments_code (suc top) es) (expression_good n top e)
    (good_append n (puts 4 top) (arguments_code (suc top) es) (puts_good n 4 top (omega arith))
    (arguments_good n (suc top) es))

registers_good : (n reg top left : ℕ) (es : List Expression) → reg + left ≤ 14 →
    AllGood n (registers_code reg top left es)
registers_good n reg top zero es h = tt
registers_good n reg top (suc left) [] h = (
  (named reg (omega (arith, h)), refl, refl),
  registers_good n (suc reg) top
      left [] (omega (arith, h)),
)
  where
    named : (reg : ℕ) → reg < 14 →
        (names_register 14 (instr Li reg 0 0 0) || names_register 15 (instr Li reg 0 0 0)) ≡ false
    named reg h = grind (arith, nat_tests)
registers_good n reg top (suc left) (e ∷ es) h =
    good_append n (fetches reg top) (registers_code (suc reg) (suc top) left es)
    (fetches_good n reg top (omega (arith, h)))
    (registers_good n (suc reg) (suc top) left es (omega (arith, h)))

jz_good : (n t : ℕ) → t < n → IsGood n (instr Jz 4 0 0 t)
jz_good n t h = (refl, inside n t h, refl)

jmp_good : (n t : ℕ) → t < n → IsGood n (instr Jmp 0 0 0 t)
jmp_good n t h = (refl, inside n t h, refl)

statements_good : (n v c : ℕ) (p : Program) → CallsFit p → c + length (statements_code v c p) < n →
    AllGood n (statements_code v c p)
statements_good n v c Done fits h = tt
statements_good n v c (Assigns i e p) fits h =
    let first = expression_code v e ++ puts 4 i in
    let rest = statements_code v (c + length first) p in
    good_append n first rest (good_append n (expression_code v e) (puts 4 i) (expression_good n v e)
    (puts_good n 4 i (omega arith)))
    (statements_good n v (c + length first) p fits (omega (arith, h, length-append first rest)))
statements_good n v c (Calls i id es p) fits h =
    let last = instr Call 0 0 0 id ∷ puts 0 i in
    let first = arguments_code v es ++ (registers_code 0 v 3 es ++ last) in
    let rest = statements_code v (c + length first) p in
    good_append n first rest
    (good_append n (arguments_code v es) (registers_code 0 v 3 es ++ last) (arguments_good n v es)
    (good_append n (registers_code 0 v 3 es) last (registers_good n 0 v 3 es (omega arith))
    ((refl, refl, known id fits.0), puts_good n 0 i (omega arith))))
    (statements_good n v (c + length first) p fits.1 (omega (arith, h, length-append first rest)))
statements_good n v c (When e body p) fits h =
    let test = expression_code v e in
    let inner = statements_code v (c + length test + 1) body in
    let behind = c + length test + 1 + length inner in
    let rest = statements_code v behind p in
    let e1 = length-append test (instr Jz 4 0 0 behind ∷ (inner ++ rest)) in
    let e2 = length-append inner rest in
    good_append n test (instr Jz 4 0 0 behind ∷ (inner ++ rest)) (expression_good n v e) (
      jz_good n behind (omega (arith, h, e1, e2)),
      good_append n inner rest (statements_good n v (c + length test + 1) body fits.0 (omega (arith, h, e1, e2)))
          (statements_good n v behind p fits.1 (omega (arith, h, e1, e2))),
    )
statements_good n v c (Either e body other p) fits h =
    let test = expression_code v e in
    let inner = statements_code v (c + length test + 1) body in
    let middle = c + length test + 1 + length inner + 1 in
    let outer = statements_code v middle other in
    let behind = middle + length outer in
    let rest = statements_code v behind p in
    let last = instr Jmp 0 0 0 behind ∷ (outer ++ rest) in
    let e1 = length-append test (instr Jz 4 0 0 middle ∷ (inner ++ last)) in
    let e2 = length-append inner last in
    let e3 = length-append outer rest in
    good_append n test (instr Jz 4 0 0 middle ∷ (inner ++ last)) (expression_good n v e) (
      jz_good n middle (omega (arith, h, e1, e2, e3)),
      good_append n inner last (statements_good n v (c + length test + 1) body fits.0 (omega (arith, h, e1, e2, e3))) (
        jmp_good n behind (omega (arith, h, e1, e2, e3)),
        good_append n outer rest (statements_good n v middle other fits.1 (omega (arith, h, e1, e2, e3)))
            (statements_good n v behind p fits.2 (omega (arith, h, e1, e2, e3))),
      ),
    )
statements_good n v c (Loops e body p) fits h =
    let test = expression_code v e in
    let inner = statements_code v (c + length test + 1) body in
    let behind = c + length test + 1 + length inner + 1 in
    let rest = statements_code v behind p in
    let last = instr Jmp 0 0 0 c ∷ rest in
    let e1 = length-append test (instr Jz 4 0 0 behind ∷ (inner ++ last)) in
    let e2 = length-append inner last in
    good_append n test (instr Jz 4 0 0 behind ∷ (inner ++ last)) (expression_good n v e) (
      jz_good n behind (omega (arith, h, e1, e2)),
      good_append n inner last (statements_good n v (c + length test + 1) body fits.0 (omega (arith, h, e1, e2)))
          (jmp_good n c (omega (arith, h, e1, e2)), statements_good n v behind p fits.1 (omega (arith, h, e1, e2))),
    )
statements_good n v c (Traps code p) fits h =
    ((refl, refl, refl), statements_good n v (c + 1) p fits (omega (arith, h)))
statements_good n v c (Answers e f p) fits h =
    let a = expression_code v e in
    let b = expression_code (suc v) f in
    let end = instr Mov 1 4 0 0 ∷ (fetches 0 v ++ (instr Ret 0 0 0 0 ∷ [])) in
    let first = a ++ (puts 4 v ++ (b ++ end)) in
    let rest = statements_code v (c + length first) p in
    good_append n first rest
    (good_append n a (puts 4 v ++ (b ++ end)) (expression_good n v e)
    (good_append n (puts 4 v) (b ++ end) (puts_good n 4 v (omega arith))
    (good_append n b end (expression_good n (suc v) f) (
      (refl, refl, refl),
      good_append n (fetches 0 v)
          (instr Ret 0 0 0 0 ∷ []) (fetches_good n 0 v (omega arith)) ((refl, refl, refl), tt),
    ))))
    (statements_good n v (c + length first) p fits (omega (arith, h, length-append first rest)))

zeros_good : (n i k : ℕ) → AllGood n (zeros_code i k)
zeros_good n i zero = tt
zeros_good n i (suc k) =
    good_append n (puts 4 i) (zeros_code (suc i) k) (puts_good n 4 i (omega arith))
    (zeros_good n (suc i) k)

prologue_good : (n v : ℕ) → AllGood n (prologue v)
prologue_good n v =
    let last = instr Li 4 0 0 0 ∷ zeros_code 4 (v - 4) in
    good_append n (puts 0 0) (puts 1 1 ++ (puts 2 2 ++ (puts 3 3 ++ last))) (puts_good n 0 0 (omega arith))
    (good_append n (puts 1 1) (puts 2 2 ++ (puts 3 3 ++ last)) (puts_good n 1 1 (omega arith))
    (good_append n (puts 2 2) (puts 3 3 ++ last) (puts_good n 2 2 (omega arith))
    (good_append n (puts 3 3) last (puts_good n 3 3 (omega arith)) ((refl, refl, refl), zeros_good n 4 (v - 4)))))

epilogue_good : (n : ℕ) → AllGood n epilogue
epilogue_good n =
    good_append n (fetches 0 0) (fetches 1 1 ++ (instr Ret 0 0 0 0 ∷ [])) (fetches_good n 0 0 (omega arith))
    (good_append n (fetches 1 1) (instr Ret 0 0 0 0 ∷ []) (fetches_good n 1 1 (omega arith)) ((refl, refl, refl), tt))

-- ---- the rewriter

ends_well-append : (is : List Instr) (k : Instr) (ks : List Instr) → ends_well (is ++ (k ∷ ks)) ≡ ends_well (k ∷ ks)
ends_well-append [] k ks = refl
ends_well-append (i ∷ []) k ks = refl
ends_well-append (i ∷ j ∷ is) k ks = ends_well-append (j ∷ is) k ks

no_fault_at : (code : List Instr) (pc : ℕ) (i : Instr) → IsGood (length code) i → rewrite_fault_at code pc i ≡ None
no_fault_at code pc i h =
    ap (λ b. cond b (Some (NamesReserved pc)) (cond (is_jump i.op && nat_le (length code) i.imm) (Some (JumpsOut pc))
    (cond (is_direct_call i.op && nat_lt 15 i.imm) (Some (CallsUnknown pc)) None))) h.0
    ∙ ap (λ b. cond b (Some (JumpsOut pc))
    (cond (is_direct_call i.op && nat_lt 15 i.imm) (Some (CallsUnknown pc)) None)) h.1
    ∙ ap (λ b. cond b (Some (CallsUnknown pc)) None) h.2

no_fault : (code : List Instr) → ends_well code ≡ true → boxed_place code (length code) ≤ 1024 →
    (is : List Instr) (pc : ℕ) → AllGood (length code) is
    → rewrite_fault_from code pc is ≡ None
no_fault code ends short [] pc h =
    ap (λ b. cond (not b) (Some NoEnd) (cond (nat_lt 1024 (boxed_place code (length code))) (Some TooLong) None)) ends
    ∙ ap (λ b. cond b (Some TooLong) None) (within (boxed_place code (length code)) short)
  where
    within : (n : ℕ) → n ≤ 1024 → nat_lt 1024 n ≡ false
    within n h = grind (arith, nat_tests)
no_fault code ends short (i ∷ is) pc h =
    ap (λ (o : Option RewriteFault). elim o as (λ _. Option RewriteFault) [
      | Some fault ↦ Some fault
      | None ↦ rewrite_fault_from code (suc pc) is
    ])
    (no_fault_at code pc i h.0) ∙ no_fault code ends short is (suc pc) h.1

pub programs_are_boxed : ProgramsAreBoxed
programs_are_boxed v p least most few fits =
    let begin = prologue v in
    let stmts = statements_code v (length begin) p in
    let code = program_code v p in
    let e1 = length-append begin (stmts ++ epilogue) in
    let e2 = length-append stmts epilogue in
    let n = length code in
    let good : AllGood n code =
    good_append n begin (stmts ++ epilogue) (prologue_good n v)
    (good_append n stmts epilogue
    (statements_good n v (length begin) p fits (omega (arith, e1, e2))) (epilogue_good n)) in
    let ends : ends_well code ≡ true = ends_as begin stmts in
    let short = programs_are_short v p least most in
    let none = no_fault code ends (omega (arith, short, few)) code 0 good in
    ap (λ (o : Option RewriteFault). elim o as (λ _. Result (List Instr)
    RewriteFault) [ Some fault ↦ Err fault | None ↦ Ok (boxed_code code) ]) none
  where
    ends_as : (is ks : List Instr) → ends_well (is ++ (ks ++ epilogue)) ≡ true
    ends_as is [] = ends_well-append is (instr Mov 0 7 0 0) (instr Mov 1 8 0 0 ∷ instr Ret 0 0 0 0 ∷ [])
    ends_as is (k ∷ ks) =
        ends_well-append is k (ks ++ epilogue)
        ∙ ends_well-append (k ∷ ks) (instr Mov 0 7 0 0) (instr Mov 1 8 0 0 ∷ instr Ret 0 0 0 0 ∷ [])
