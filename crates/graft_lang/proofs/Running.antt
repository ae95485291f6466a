-- The code of expressions runs to their values.
use Rattle.std.specs.Prelude.{◌≡◌, ◌≢◌, ℕ, suc, ◌+◌, ◌-◌, ◌*◌, ◌/◌, ◌%◌, ◌^◌, ◌<◌, ◌≤◌, Bool, true, false, cond}
use Rattle.std.specs.Prelude.{◌==◌, nat_lt, List, ◌++◌, length, slice_get, Option, Some, None, bit_and, bit_or}
use Rattle.std.specs.Prelude.{bit_xor}
use Rattle.std.proofs.Common.{arith, refl, subst, sym, ap, ◌∙◌, ◌⊎◌, inl, inr}
use Rattle.std.proofs.lemmas.Bool.Decides.{nat_tests}
use Rattle.std.proofs.lemmas.Nat.{or_of_32, xor_of_32}
use Rattle.std.specs.Int.Bits.{and_lt}
use Rattle.std.proofs.Math.Nat.{div-le_self}
use Rattle.std.proofs.lemmas.List.{length-append}
use Rattle.graft_texts.specs.declared.Instr.{Instr}
use Rattle.graft_texts.specs.declared.Op.TheVariants as o
use Rattle.graft_texts.specs.declared.Op.TheVariants.{Li}
use Rattle.graft_texts.specs.Boxed.{instr}
use Rattle.graft_texts.specs.Objects.{at}
use Rattle.graft_texts.specs.Machine.{Machine, Done, sets, exec, word, masked_place}
use Rattle.graft_texts.specs.Runs.{CodeRun, MadeCall, run_by, after_done, counted_access, is_access}
use Rattle.graft_texts.specs.declared.language.Operator.{Operator}
use Rattle.graft_texts.specs.declared.language.Operator.TheVariants.{Plus, Minus, Times, Over, Rest, And, Or, Xor}
use Rattle.graft_texts.specs.declared.language.Operator.TheVariants.{ShiftLeft, ShiftRight, Less, Equal}
use Rattle.graft_texts.specs.LanguageMeaning.{Expression, Number, Variable, Binary, applied, both, value}
use Rattle.graft_lang.specs.Code.{puts, loads, source, operator_code, left_register, left_code, right_code}
use Rattle.graft_lang.specs.Code.{expression_code}
use Rattle.graft_lang.specs.Placing.{Fits, Stands, word_of, IsAt, ComesIn, ComesTo, ExpressionsRun}
use Rattle.graft_lang.proofs.Slots.{one_step, two_parts, unslotted, stands_first, stands_second, fetch_runs, load_runs}
use Rattle.graft_lang.proofs.Slots.{put_runs}

-- ---- operators

small_quotient : (x y : ℕ) → x < 2 ^ 32 → word (x / y) ≡ x / y
small_quotient x y small = let less : x / y ≤ x = div-le_self x y in omega (arith, less, small)

small_rest : (x y : ℕ) → x < 2 ^ 32 → (y == 0) ≡ false → word (x % y) ≡ x % y
small_rest x y small n =
    let more : 0 < y = grind (arith, nat_tests, n) in
    let less : x % y ≤ x = rest_below x y more in
    omega (arith, less, small)
  where
    rest_below : (x y : ℕ) → 0 < y → x % y ≤ x
    rest_below x y h = omega arith

small_word : (n : ℕ) → n < 2 ^ 32 → word n ≡ n
small_word n h = omega arith

word_small : (n : ℕ) → word n < 2 ^ 32
word_small n = omega arith

bit_small : (b : Bool) (x : ℕ) → Some (cond b 1 0) ≡ Some x → x < 2 ^ 32
bit_small true x h = let is : 1 ≡ x = cc in omega (arith, is)
bit_small false x h = let is : 0 ≡ x = cc in omega (arith, is)

one_word : (b : Bool) → word (cond b 1 0) ≡ cond b 1 0
one_word true = refl
one_word false = refl

-- an instruction that sets r4
sets_runs : (i : Instr) (v x : ℕ) (code : List Instr) (cells : ℕ → ℕ) (top c : ℕ)
    (calls : List MadeCall) (answers : List (ℕ × ℕ)) (r : CodeRun)
    → slice_get code c ≡ Some i → IsAt cells top c calls answers r →
    exec masked_place i.op i.a i.b i.c i.imm r.machine ≡ sets r.machine 4 v
    → word v ≡ x → ComesTo cells top c 1 calls answers code r (Some x)
sets_runs i v x code cells top c calls answers r h a does is =
    let here : slice_get code r.machine.pc ≡ Some i = subst (λ n. slice_get code n ≡ Some i) (sym a.place) h in
    let step : run_by masked_place code 1 r ≡ after_done (sets r.machine 4 v) (counted_access (is_access (Some i)) r) =
    one_step code r i 0 a.going here ∙ ap (λ d. after_done d (counted_access (is_access (Some i)) r)) does in
    subst (λ u. IsAt cells top (c + 1) calls answers u × (u.machine.regs 4 ≡ x)) (sym step) (
      record {
        place = ap (λ n. n + 1) a.place;
        going = a.going;
        slots = λ i below. ap (λ y. cond (nat_lt i 7) y (word_of r.machine.memory i))
            (unslotted 4 i (word v) r.machine.regs (omega arith)) ∙ a.slots i below;
        calls_are = a.calls_are;
        answers_are = a.answers_are;
      },
      is,
    )

-- an instruction that divides, where the divisor isn't 0
divides_runs : (i : Instr) (left right x y : ℕ) (quotient : ℕ → ℕ → ℕ) (code : List Instr) (cells : ℕ → ℕ)
    (top c : ℕ) (calls : List MadeCall) (answers : List (ℕ × ℕ)) (r : CodeRun)
    → slice_get code c ≡ Some i → IsAt cells top c calls answers r → r.machine.regs left ≡ x → r.machine.regs right ≡ y
    → exec masked_place i.op i.a i.b i.c i.imm r.machine
    ≡ (elim (r.machine.regs right == 0) as (λ _. Done) [
      | true ↦ Done.DividedByZero
      | false ↦ sets r.machine 4 (quotient (r.machine.regs left) (r.machine.regs right))
    ])
    → ((y == 0) ≡ false → word (quotient x y) ≡ quotient x y)
    → ComesTo cells top c 1 calls answers code r (cond (y == 0) None (Some (quotient x y)))
divides_runs i left right x y quotient code cells top c calls answers r h a ex ey does small = by (y == 0) refl
  where
    here : slice_get code r.machine.pc ≡ Some i
    here = subst (λ n. slice_get code n ≡ Some i) (sym a.place) h

    at_test : (b : Bool) → (y == 0) ≡ b → exec masked_place i.op i.a i.b i.c i.imm r.machine
        ≡ (elim b as (λ _. Done) [
          | true ↦ Done.DividedByZero
          | false ↦ sets r.machine 4 (quotient (r.machine.regs left) (r.machine.regs right))
        ])
    at_test b z =
        does ∙ ap (λ (t : Bool). elim t as (λ _. Done) [
          | true ↦ Done.DividedByZero
          | false ↦ sets r.machine 4 (quotient (r.machine.regs left) (r.machine.regs right))
        ])
        (ap (λ n. n == 0) ey ∙ z)

    by : (b : Bool) → (y == 0) ≡ b →
        ComesTo cells top c 1 calls answers code r (cond (y == 0) None (Some (quotient x y)))
    by true z =
        let step : run_by masked_place code 1 r ≡ after_done Done.DividedByZero
        (counted_access (is_access (Some i)) r) =
        one_step code r i 0 a.going here
        ∙ ap (λ d. after_done d (counted_access (is_access (Some i)) r)) (at_test true z) in
        subst (λ b. ComesTo cells top c 1 calls answers code r (cond b None (Some (quotient x y)))) (sym z)
        (1, omega arith, ap (λ (u : CodeRun). u.ended) step, ap (λ (u : CodeRun). u.calls) step ∙ a.calls_are)
    by false z =
        subst (λ b. ComesTo cells top c 1 calls answers code r (cond b None (Some (quotient x y)))) (sym z)
        (sets_runs i (quotient (r.machine.regs left) (r.machine.regs right)) (quotient x y) code cells top
        c calls answers r h a (at_test false z)
        (ap (λ n. word (quotient n (r.machine.regs right))) ex ∙ ap (λ n. word (quotient x n)) ey ∙ small z))

-- 1 or 0
abbrev bit : Bool → ℕ
bit b = cond b 1 0

-- two values are equal where their difference is below 1
difference : (x y : ℕ) → x < 2 ^ 32 → y < 2 ^ 32 → bit (nat_lt (word (x + 2 ^ 32 - y)) 1) ≡ bit (x == y)
difference x y small low = by (x == y) refl
  where
    positive : (x y : ℕ) → x < 2 ^ 32 → y < 2 ^ 32 → (x < y) ⊎ (y < x) → 0 < word (x + 2 ^ 32 - y)
    positive x y hx hy (inl less) = omega arith
    positive x y hx hy (inr more) = omega arith

    apart : (x y : ℕ) → (x == y) ≡ false → (x < y) ⊎ (y < x)
    apart x y h = grind (arith, nat_tests, h)

    above : (d : ℕ) → 0 < d → bit (nat_lt d 1) ≡ bit false
    above d h = grind (arith, nat_tests)

    by : (b : Bool) → (x == y) ≡ b → bit (nat_lt (word (x + 2 ^ 32 - y)) 1) ≡ bit (x == y)
    by true same =
        let e : x ≡ y = grind (arith, nat_tests, same) in
        let none : word (x + 2 ^ 32 - y) ≡ 0 = omega (arith, e, small) in
        ap (λ n. bit (nat_lt n 1)) none ∙ sym (ap bit same)
    by false other =
        above (word (x + 2 ^ 32 - y)) (positive x y small low (apart x y other)) ∙ sym (ap bit other)

-- the operands are in two registers
operator_runs : (op : Operator) (left right : ℕ) (code : List Instr) (cells : ℕ → ℕ) (top c : ℕ) (calls : List
    MadeCall) (answers : List (ℕ × ℕ)) (x y : ℕ) (r : CodeRun) → x < 2 ^ 32 → y < 2 ^ 32 →
    Stands code c (operator_code op left right) → IsAt cells top c calls answers r → r.machine.regs left ≡ x →
    r.machine.regs right ≡ y →
    ComesTo cells top c (length (operator_code op left right)) calls answers code r (applied op x y)
operator_runs Plus left right code cells top c calls answers x y r small low h a ex ey =
    sets_runs (instr o.Add 4 left right 0) (r.machine.regs left + r.machine.regs right) (word (x + y)) code cells
    top c calls answers r h.0 a refl
    (ap (λ n. word (n + r.machine.regs right)) ex ∙ ap (λ n. word (x + n)) ey)
operator_runs Minus left right code cells top c calls answers x y r small low h a ex ey =
    sets_runs (instr o.Sub 4 left right 0) (r.machine.regs left + 2 ^ 32 - r.machine.regs right)
    (word (x + 2 ^ 32 - y)) code cells top c calls answers r h.0 a refl
    (ap (λ n. word (n + 2 ^ 32 - r.machine.regs right)) ex ∙ ap (λ n. word (x + 2 ^ 32 - n)) ey)
operator_runs Times left right code cells top c calls answers x y r small low h a ex ey =
    sets_runs (instr o.Mul 4 left right 0) (r.machine.regs left * r.machine.regs right) (word (x * y)) code cells
    top c calls answers r h.0 a refl
    (ap (λ n. word (n * r.machine.regs right)) ex ∙ ap (λ n. word (x * n)) ey)
operator_runs Over left right code cells top c calls answers x y r small low h a ex ey =
    divides_runs (instr o.Divu 4 left right 0) left right x y (λ n m. n / m) code cells top c calls answers r h.0 a
    ex ey refl (λ z. small_quotient x y small)
operator_runs Rest left right code cells top c calls answers x y r small low h a ex ey =
    divides_runs (instr o.Remu 4 left right 0) left right x y (λ n m. n % m) code cells top c calls answers r h.0 a
    ex ey refl (λ z. small_rest x y small z)
operator_runs And left right code cells top c calls answers x y r small low h a ex ey =
    let below : bit_and x y < 2 ^ 32 = and_lt 32 x y small low in
    sets_runs (instr o.And 4 left right 0) (bit_and (r.machine.regs left) (r.machine.regs right)) (bit_and x y)
    code cells top c calls answers r h.0 a refl
    (ap (λ n. word (bit_and n (r.machine.regs right))) ex ∙ ap (λ n. word (bit_and x n)) ey
    ∙ small_word (bit_and x y) below)
operator_runs Or left right code cells top c calls answers x y r small low h a ex ey =
    let below : bit_or x y < 2 ^ 32 = or_of_32 x y small low in
    sets_runs (instr o.Or 4 left right 0) (bit_or (r.machine.regs left) (r.machine.regs right)) (bit_or x y) code
    cells top c calls answers r h.0 a refl
    (ap (λ n. word (bit_or n (r.machine.regs right))) ex ∙ ap (λ n. word (bit_or x n)) ey
    ∙ small_word (bit_or x y) below)
operator_runs Xor left right code cells top c calls answers x y r small low h a ex ey =
    let below : bit_xor x y < 2 ^ 32 = xor_of_32 x y small low in
    sets_runs (instr o.Xor 4 left right 0) (bit_xor (r.machine.regs left) (r.machine.regs right)) (bit_xor x y)
    code cells top c calls answers r h.0 a refl
    (ap (λ n. word (bit_xor n (r.machine.regs right))) ex ∙ ap (λ n. word (bit_xor x n)) ey
    ∙ small_word (bit_xor x y) below)
operator_runs ShiftLeft left right code cells top c calls answers x y r small low h a ex ey =
    sets_runs (instr o.Shl 4 left right 0) (r.machine.regs left * 2 ^ (r.machine.regs right % 32))
    (word (x * 2 ^ (y % 32))) code cells top c calls answers r h.0 a refl
    (ap (λ n. word (n * 2 ^ (r.machine.regs right % 32))) ex ∙ ap (λ n. word (x * 2 ^ (n % 32))) ey)
operator_runs ShiftRight left right code cells top c calls answers x y r small low h a ex ey =
    sets_runs (instr o.Shr 4 left right 0) (r.machine.regs left / 2 ^ (r.machine.regs right % 32))
    (x / 2 ^ (y % 32)) code cells top c calls answers r h.0 a refl
    (ap (λ n. word (n / 2 ^ (r.machine.regs right % 32))) ex ∙ ap (λ n. word (x / 2 ^ (n % 32))) ey
    ∙ small_quotient x (2 ^ (y % 32)) small)
operator_runs Less left right code cells top c calls answers x y r small low h a ex ey =
    sets_runs (instr o.Sltu 4 left right 0) (cond (nat_lt (r.machine.regs left) (r.machine.regs right)) 1 0)
    (cond (nat_lt x y) 1 0) code cells top c calls answers r h.0 a refl
    (ap (λ n. word (cond (nat_lt n (r.machine.regs right)) 1 0)) ex
    ∙ ap (λ n. word (cond (nat_lt x n) 1 0)) ey ∙ one_word (nat_lt x y))
operator_runs Equal left right code cells top c calls answers x y r small low h a ex ey =
    let d = word (r.machine.regs left + 2 ^ 32 - r.machine.regs right) in
    let m1 : Machine = record { regs = at 4 d r.machine.regs; pc = r.machine.pc + 1; memory = r.machine.memory } in
    let u1 : CodeRun = record r { machine = m1; accesses = r.accesses + 0 } in
    let m2 : Machine = record { regs = at 5 1 m1.regs; pc = m1.pc + 1; memory = m1.memory } in
    let u2 : CodeRun = record u1 { machine = m2; accesses = u1.accesses + 0 } in
    let at0 : slice_get code r.machine.pc ≡ Some (instr o.Sub 4 left right 0) =
    subst (λ n. slice_get code n ≡ Some (instr o.Sub 4 left right 0)) (sym a.place) h.0 in
    let at1 : slice_get code (r.machine.pc + 1) ≡ Some (instr Li 5 0 0 1) =
    subst (λ n. slice_get code n ≡ Some (instr Li 5 0 0 1)) (omega (arith, a.place)) h.1.0 in
    let at2 : slice_get code (r.machine.pc + 1 + 1) ≡ Some (instr o.Sltu 4 4 5 0) =
    subst (λ n. slice_get code n ≡ Some (instr o.Sltu 4 4 5 0)) (omega (arith, a.place)) h.1.1.0 in
    let run : run_by masked_place code 3 r ≡ after_done (sets m2 4 (cond (nat_lt d 1) 1 0))
    (record u2 { accesses = u2.accesses + 0 }) =
    one_step code r (instr o.Sub 4 left right 0) 2 a.going at0 ∙ one_step code u1 (instr Li 5 0 0 1) 1 a.going at1
    ∙ one_step code u2 (instr o.Sltu 4 4 5 0) 0 a.going at2 in
    let is : d ≡ word (x + 2 ^ 32 - y) = ap (λ n. word (n + 2 ^ 32 - r.machine.regs right)) ex
    ∙ ap (λ n. word (x + 2 ^ 32 - n)) ey in
    subst (λ u. IsAt cells top (c + 3) calls answers u × (u.machine.regs 4 ≡ cond (x == y) 1 0)) (sym run) (
      record {
        place = omega (arith, a.place);
        going = a.going;
        slots = λ i below. ap (λ y. cond (nat_lt i 7) y (word_of r.machine.memory i))
            (unslotted 4 i (word (cond (nat_lt d 1) 1 0)) m2.regs (omega arith)
            ∙ unslotted 5 i 1 m1.regs (omega arith) ∙ unslotted 4 i d r.machine.regs (omega arith))
            ∙ a.slots i below;
        calls_are = a.calls_are;
        answers_are = a.answers_are;
      },
      one_word (nat_lt d 1) ∙ ap (λ n. cond (nat_lt n 1) 1 0) is ∙ difference x y small low,
    )

-- ---- parts in order

-- a part that comes after some instructions
comes_in_after : (code : List Instr) (reg : ℕ) (cells : ℕ → ℕ) (top c n len : ℕ) (calls : List MadeCall)
    (answers : List (ℕ × ℕ)) (r : CodeRun) (x : Option ℕ) →
    ComesIn reg cells top (c + n) len calls answers code (run_by masked_place code n r) x →
    ComesIn reg cells top c (n + len) calls answers code r x
comes_in_after code reg cells top c n len calls answers r (Some x) h =
    let there : c + n + len ≡ c + (n + len) = omega arith in
    subst (λ k. let u = run_by masked_place code (n + len) r in
    IsAt cells top k calls answers u × (u.machine.regs reg ≡ x)) there
    (subst (λ u. IsAt cells top (c + n + len) calls answers u × (u.machine.regs reg ≡ x))
    (sym (two_parts code n len r)) h)
comes_in_after code reg cells top c n len calls answers r None h = (
  n + h.0,
  omega (arith, h.1),
  ap (λ (u : CodeRun). u.ended) (two_parts code n h.0 r)
      ∙ h.2,
  ap (λ (u : CodeRun). u.calls) (two_parts code n h.0 r) ∙ h.3,
)

comes_after : (code : List Instr) (cells : ℕ → ℕ) (top c n len : ℕ) (calls : List MadeCall)
    (answers : List (ℕ × ℕ)) (r : CodeRun) (x : Option ℕ) →
    ComesTo cells top (c + n) len calls answers code (run_by masked_place code n r) x →
    ComesTo cells top c (n + len) calls answers code r x
comes_after code cells top c n len calls answers r x h = comes_in_after code 4 cells top c n len calls answers r x h

-- a part of which more may come
longer : (code : List Instr) (cells : ℕ → ℕ) (top c m n : ℕ) (calls : List MadeCall)
    (answers : List (ℕ × ℕ)) (r : CodeRun) → m ≤ n →
    ComesTo cells top c m calls answers code r None → ComesTo cells top c n calls answers code r None
longer code cells top c m n calls answers r h k = (k.0, omega (arith, h, k.1), k.2, k.3)

-- the slot of an operand is free again
pub comes_less : (code : List Instr) (cells : ℕ → ℕ) (top c len x : ℕ) (calls : List MadeCall)
    (answers : List (ℕ × ℕ)) (r : CodeRun) (y : Option ℕ) →
    ComesTo (at top x cells) (suc top) c len calls answers code r y → ComesTo cells top c len calls answers code r y
comes_less code cells top c len x calls answers r None h = h
comes_less code cells top c len x calls answers r (Some y) h = (
  record {
    place = h.0.place;
    going = h.0.going;
    slots = λ i below. let less : i < suc top = omega (arith, below) in h.0.slots i less ∙ other i below;
    calls_are = h.0.calls_are;
    answers_are = h.0.answers_are;
  },
  h.1,
)
  where
    other : (i : ℕ) → i < top → at top x cells i ≡ cells i
    other i below = grind (arith, nat_tests, below)

-- values are words
applied_small : (op : Operator) (x y z : ℕ) → y < 2 ^ 32 → z < 2 ^ 32 → applied op y z ≡ Some x → x < 2 ^ 32
applied_small Plus x y z low high h = let is : word (y + z) ≡ x = cc in subst (λ k. k < 2 ^ 32) is (omega arith)
applied_small Minus x y z low high h =
    let is : word (y + 2 ^ 32 - z) ≡ x = cc in
    subst (λ k. k < 2 ^ 32) is (omega arith)
applied_small Times x y z low high h = let is : word (y * z) ≡ x = cc in subst (λ k. k < 2 ^ 32) is (word_small (y * z))
applied_small Over x y z low high h = by_zero (z == 0) h
  where
    by_zero : (b : Bool) → cond b None (Some (y / z)) ≡ Some x → x < 2 ^ 32
    by_zero true h = absurd cc
    by_zero false h = let is : y / z ≡ x = cc in let less : y / z ≤ y = div-le_self y z in omega (arith, is, less, low)
applied_small Rest x y z low high h = by_zero (z == 0) refl h
  where
    by_zero : (b : Bool) → (z == 0) ≡ b → cond b None (Some (y % z)) ≡ Some x → x < 2 ^ 32
    by_zero true e h = absurd cc
    by_zero false e h =
        let is : y % z ≡ x = cc in let same : word (y % z) ≡ y % z = small_rest y z low e in
        subst (λ k. k < 2 ^ 32) (same ∙ is) (word_small (y % z))
applied_small And x y z low high h =
    let is : bit_and y z ≡ x = cc in
    subst (λ k. k < 2 ^ 32) is (and_lt 32 y z low high)
applied_small Or x y z low high h = let is : bit_or y z ≡ x = cc in subst (λ k. k < 2 ^ 32) is (or_of_32 y z low high)
applied_small Xor x y z low high h =
    let is : bit_xor y z ≡ x = cc in
    subst (λ k. k < 2 ^ 32) is (xor_of_32 y z low high)
applied_small ShiftLeft x y z low high h =
    let is : word (y * 2 ^ (z % 32)) ≡ x = cc in subst (λ k. k < 2 ^ 32) is (word_small (y * 2 ^ (z % 32)))
applied_small ShiftRight x y z low high h =
    let is : y / 2 ^ (z % 32) ≡ x = cc in
    let less : y / 2 ^ (z % 32) ≤ y = div-le_self y (2 ^ (z % 32)) in
    omega (arith, is, less, low)
applied_small Less x y z low high h = bit_small (nat_lt y z) x h
applied_small Equal x y z low high h = bit_small (y == z) x h

pub value_small : (cells : ℕ → ℕ) (vars top : ℕ) (e : Expression) (x : ℕ) →
    ((i : ℕ) → cells i < 2 ^ 32) → Fits vars top e → value cells e ≡ Some x → x < 2 ^ 32
value_small cells vars top (Number n) x small fits h = let is : n ≡ x = cc in subst (λ k. k < 2 ^ 32) is fits
value_small cells vars top (Variable i) x small fits h =
    let is : cells i ≡ x = cc in
    subst (λ k. k < 2 ^ 32) is (small i)
value_small cells vars top (Binary a op b) x small fits h =
    by_left (value cells a) (λ y. value_small cells vars top a y small fits.2) (value cells b)
    (λ y. value_small cells vars (suc top) b y small fits.3) h
  where
    by_left : (y : Option ℕ) → ((z : ℕ) → y ≡ Some z → z < 2 ^ 32) → (w : Option ℕ) →
        ((z : ℕ) → w ≡ Some z → z < 2 ^ 32)
        → both op y w ≡ Some x → x < 2 ^ 32
    by_left None low w high h = absurd cc
    by_left (Some y) low None high h = absurd cc
    by_left (Some y) low (Some z) high h = applied_small op x y z (low y refl) (high z refl) h

-- one more word
pub all_small : (cells : ℕ → ℕ) (slot x : ℕ) → ((i : ℕ) → cells i < 2 ^ 32) → x < 2 ^ 32 → (i : ℕ) →
    at slot x cells i < 2 ^ 32
all_small cells slot x small low i = by_place (i == slot)
  where
    by_place : (t : Bool) → cond t x (cells i) < 2 ^ 32
    by_place true = low
    by_place false = small i

-- a value looks at variables alone
pub value_same : (cells : ℕ → ℕ) (vars top place x : ℕ) (e : Expression) → vars ≤ place →
    Fits vars top e → value (at place x cells) e ≡ value cells e
value_same cells vars top place x (Number n) low fits = refl
value_same cells vars top place x (Variable i) low fits = ap Some (other (omega (arith, fits.0, low)))
  where
    other : i < place → at place x cells i ≡ cells i
    other less = grind (arith, nat_tests, less)
value_same cells vars top place x (Binary a op b) low fits =
    ap (λ y. both op y (value (at place x cells) b))
    (value_same cells vars top place x a low fits.2)
    ∙ ap (both op (value cells a)) (value_same cells vars (suc top) place x b low fits.3)

-- ---- the law

-- the register of a left operand is none of r5 and r6
left_apart : (a : Expression) (k : ℕ) → k < 7 → k ≢ 4 → left_register a ≢ k
left_apart (Number n) k low other = λ e. other (sym e)
left_apart (Variable i) k low other = by (nat_lt i 7)
  where
    by : (b : Bool) → cond b (7 + i) 4 ≢ k
    by true e = absurd (omega (arith, e, low))
    by false e = other (sym e)
left_apart (Binary a op b) k low other = λ e. other (sym e)

-- a left operand comes to its register
left_runs : (a : Expression) (code : List Instr) (cells : ℕ → ℕ) (vars top c : ℕ) (calls : List MadeCall)
    (answers : List (ℕ × ℕ)) (r : CodeRun) → ((i : ℕ) → cells i < 2 ^ 32) → Fits vars top a →
    Stands code c (left_code a (expression_code top a)) → IsAt cells top c calls answers r →
    (Stands code c (expression_code top a) →
    ComesTo cells top c (length (expression_code top a)) calls answers code r (value cells a)) →
    ComesIn (left_register a) cells top c (length (left_code a (expression_code top a))) calls answers code r
    (value cells a)
left_runs (Number n) code cells vars top c calls answers r small fits h a own = own h
left_runs (Variable i) code cells vars top c calls answers r small fits h a own =
    let f = load_runs code cells top c calls answers 4 i r (omega arith) (omega (arith, fits.0, fits.1)) fits.2
    (small i) h a in
    (f.stands, f.here)
left_runs (Binary a op b) code cells vars top c calls answers r small fits h at_c own = own h

-- how many instructions stand for an operator
abbrev many : Operator → (left right : ℕ) → ℕ
many op left right = length (operator_code op left right)

-- the left operand, x, waited in a slot, and the right one, y, has come
applies : (op : Operator) (code : List Instr) (cells : ℕ → ℕ) (top c : ℕ) (calls : List MadeCall)
    (answers : List (ℕ × ℕ)) (x y : ℕ) (r : CodeRun) → top < 1024 → x < 2 ^ 32 → y < 2 ^ 32 →
    Stands code c (loads 6 top ++ operator_code op (source 6 top) 4) →
    IsAt (at top x cells) (suc top) c calls answers r → r.machine.regs 4 ≡ y →
    ComesTo (at top x cells) (suc top) c (length (loads 6 top) + many op (source 6 top) 4) calls answers code r
    (applied op x y)
applies op code cells top c calls answers x y r low small fine h a e =
    let n = length (loads 6 top) in
    let own : at top x cells top ≡ x = here in
    let f = load_runs code (at top x cells) (suc top) c calls answers 6 top r (omega arith) (omega arith) low
    (subst (λ k. k < 2 ^ 32) (sym own) small)
    (stands_first code c (loads 6 top) (operator_code op (source 6 top) 4) h) a in
    comes_after code (at top x cells) (suc top) c n (many op (source 6 top) 4) calls answers r (applied op x y)
    (operator_runs op (source 6 top) 4 code (at top x cells) (suc top) (c + n) calls answers x y
    (run_by masked_place code n r) small fine
    (stands_second code c (loads 6 top) (operator_code op (source 6 top) 4) h) f.stands
    (f.here ∙ own) (f.others 4 (λ z. absurd cc) (λ z. absurd cc) ∙ e))
  where
    here : at top x cells top ≡ x
    here = grind (arith, nat_tests)

-- a left operand, x, is put, the right one comes, both are applied
waits_runs : (op : Operator) (left : ℕ) (own : List Instr) (code : List Instr) (cells : ℕ → ℕ) (top c : ℕ)
    (calls : List MadeCall) (answers : List (ℕ × ℕ)) (x : ℕ) (v : Option ℕ) (r : CodeRun) →
    left ≢ 5 → top < 1024 → x < 2 ^ 32 → ((y : ℕ) → v ≡ Some y → y < 2 ^ 32) →
    Stands code c (puts left top ++ (own ++ (loads 6 top ++ operator_code op (source 6 top) 4))) →
    IsAt cells top c calls answers r → r.machine.regs left ≡ x →
    ((u : CodeRun) → IsAt (at top x cells) (suc top) (c + length (puts left top)) calls answers u →
    ComesTo (at top x cells) (suc top) (c + length (puts left top)) (length own) calls answers code u v) →
    ComesTo cells top c
    (length (puts left top) + (length own + (length (loads 6 top) + many op (source 6 top) 4))) calls answers
    code r (both op (Some x) v)
waits_runs op left own code cells top c calls answers x v r other low small fine h a e second =
    let n = length (puts left top) in
    let len = length own in
    let more = length (loads 6 top) + many op (source 6 top) 4 in
    let end = loads 6 top ++ operator_code op (source 6 top) 4 in
    let p = put_runs code cells top c calls answers left x r other low small
    (stands_first code c (puts left top) (own ++ end) h) a e in
    let behind = stands_second code c (puts left top) (own ++ end) h in
    let last = stands_second code (c + n) own end behind in
    comes_less code cells top c (n + (len + more)) x calls answers r (both op (Some x) v)
    (comes_after code (at top x cells) (suc top) c n (len + more) calls answers r (both op (Some x) v)
    (by_value v fine (second (run_by masked_place code n r) p) last))
  where
    by_value : (v : Option ℕ) → ((y : ℕ) → v ≡ Some y → y < 2 ^ 32) →
        ComesTo (at top x cells) (suc top) (c + length (puts left top))
        (length own) calls answers code (run_by masked_place code (length (puts left top)) r) v →
        Stands code (c + length (puts left top) + length own) (loads 6 top ++ operator_code op (source 6 top) 4) →
        ComesTo (at top x cells) (suc top)
        (c + length (puts left top)) (length own + (length (loads 6 top) + many op (source 6 top) 4)) calls answers code
        (run_by masked_place code (length (puts left top)) r) (both op (Some x) v)
    by_value None fine k last =
        longer code (at top x cells) (suc top) (c + length (puts left top)) (length own)
        (length own + (length (loads 6 top) + many op (source 6 top) 4)) calls answers
        (run_by masked_place code (length (puts left top)) r) (omega arith) k
    by_value (Some y) fine k last =
        comes_after code (at top x cells) (suc top) (c + length (puts left top)) (length own)
        (length (loads 6 top) + many op (source 6 top) 4) calls answers
        (run_by masked_place code (length (puts left top)) r) (applied op x y)
        (applies op code cells top (c + length (puts left top) + length own) calls
        answers x y (run_by masked_place code (length own)
        (run_by masked_place code (length (puts left top)) r)) low small (fine y refl) last k.0 k.1)

-- what comes behind the left operand, x
right_runs : (b : Expression) (op : Operator) (left : ℕ) (code : List Instr) (cells : ℕ → ℕ) (vars top c : ℕ)
    (calls : List MadeCall) (answers : List (ℕ × ℕ)) (x : ℕ) (r : CodeRun) →
    left ≢ 5 → left ≢ 6 → top < 1024 → vars ≤ top → ((i : ℕ) → cells i < 2 ^ 32) → x < 2 ^ 32 →
    Fits vars (suc top) b →
    Stands code c (right_code top op left b (expression_code (suc top) b)) →
    IsAt cells top c calls answers r → r.machine.regs left ≡ x →
    ((u : CodeRun) → IsAt (at top x cells) (suc top) (c + length (puts left top)) calls answers u →
    Stands code (c + length (puts left top)) (expression_code (suc top) b) →
    ComesTo (at top x cells) (suc top) (c + length (puts left top)) (length (expression_code (suc top) b)) calls
    answers code u (value cells b)) →
    ComesTo cells top c (length (right_code top op left b (expression_code (suc top) b))) calls answers code r
    (both op (Some x) (value cells b))
right_runs (Number n) op left code cells vars top c calls answers x r five six low few small small_x fits h a e
    second =
    let here : slice_get code r.machine.pc ≡ Some (instr Li 6 0 0 n) =
    subst (λ k. slice_get code k ≡ Some (instr Li 6 0 0 n)) (sym a.place) h.0 in
    let m : Machine = record {
      regs = at 6 (word n) r.machine.regs;
      pc = r.machine.pc + 1;
      memory = r.machine.memory;
    } in
    let u : CodeRun = record r { machine = m; accesses = r.accesses + 0 } in
    let step : run_by masked_place code 1 r ≡ u = one_step code r (instr Li 6 0 0 n) 0 a.going here in
    let there : suc c ≡ c + 1 = omega arith in
    let stands : IsAt cells top (c + 1) calls answers u = record {
      place = ap (λ k. k + 1) a.place;
      going = a.going;
      slots = λ i below. ap (λ y. cond (nat_lt i 7) y (word_of r.machine.memory i))
          (unslotted 6 i (word n) r.machine.regs (omega arith)) ∙ a.slots i below;
      calls_are = a.calls_are;
      answers_are = a.answers_are;
    } in
    let long : 1 + many op left 6 ≡ suc (many op left 6) = omega arith in
    subst (λ k. ComesTo cells top c k calls answers code r (applied op x n)) long
    (comes_after code cells top c 1 (many op left 6) calls answers r (applied op x n)
    (subst (λ w. ComesTo cells top (c + 1) (many op left 6) calls answers code w (applied op x n)) (sym step)
    (operator_runs op left 6 code cells top (c + 1) calls answers x n u small_x fits
    (subst (λ k. Stands code k (operator_code op left 6)) there h.1) stands (kept (word n) r.machine.regs e)
    (omega (arith, fits)))))
  where
    kept : (v : ℕ) (regs : ℕ → ℕ) → regs left ≡ x → at 6 v regs left ≡ x
    kept v regs k = grind (arith, nat_tests, k, six)
right_runs (Variable i) op left code cells vars top c calls answers x r five six low few small small_x fits h a e
    second =
    let n = length (loads 6 i) in
    let f = load_runs code cells top c calls answers 6 i r (omega arith) (omega (arith, fits.0, few)) fits.2 (small i)
    (stands_first code c (loads 6 i) (operator_code op left (source 6 i)) h) a in
    let long : length (loads 6 i ++ operator_code op left (source 6 i)) ≡ n + many op left (source 6 i) =
    length-append (loads 6 i) (operator_code op left (source 6 i)) in
    subst (λ k. ComesTo cells top c k calls answers code r (applied op x (cells i))) (sym long)
    (comes_after code cells top c n (many op left (source 6 i)) calls answers r (applied op x (cells i))
    (operator_runs op left (source 6 i) code cells top (c + n) calls answers x (cells i)
    (run_by masked_place code n r) small_x (small i)
    (stands_second code c (loads 6 i) (operator_code op left (source 6 i)) h) f.stands
    (f.others left five six ∙ e) f.here))
right_runs (Binary a op' b) op left code cells vars top c calls answers x r five six low few small small_x fits h
    at_c e second =
    let own = expression_code (suc top) (Binary a op' b) in
    let end = loads 6 top ++ operator_code op (source 6 top) 4 in
    let e1 = length-append (puts left top) (own ++ end) in
    let e2 = length-append own end in
    let e3 = length-append (loads 6 top) (operator_code op (source 6 top) 4) in
    let long : length (puts left top) + (length own + (length (loads 6 top) + many op (source 6 top) 4))
    ≡ length (puts left top ++ (own ++ end)) = omega (arith, e1, e2, e3) in
    subst (λ k. ComesTo cells top c k calls answers code r (both op (Some x) (value cells (Binary a op' b)))) long
    (waits_runs op left own code cells top c calls answers x (value cells (Binary a op' b)) r five low small_x
    (λ y. value_small cells vars (suc top) (Binary a op' b) y small fits) h at_c e
    (λ u there. second u there (stands_first code (c + length (puts left top)) own end
    (stands_second code c (puts left top) (own ++ end) h))))

-- the code of an expression runs to its value
pub expressions_run : ExpressionsRun
expressions_run (Number n) code cells vars top c calls answers r small fits h a =
    let here : slice_get code r.machine.pc ≡ Some (instr Li 4 0 0 n) =
    subst (λ k. slice_get code k ≡ Some (instr Li 4 0 0 n)) (sym a.place) h.0 in
    subst (λ u. IsAt cells top (c + 1) calls answers u × (u.machine.regs 4 ≡ n))
    (sym (one_step code r (instr Li 4 0 0 n) 0 a.going here)) (
      record {
        place = ap (λ k. k + 1) a.place;
        going = a.going;
        slots = λ i below. ap (λ y. cond (nat_lt i 7) y (word_of r.machine.memory i))
            (unslotted 4 i (word n) r.machine.regs (omega arith)) ∙ a.slots i below;
        calls_are = a.calls_are;
        answers_are = a.answers_are;
      },
      omega (arith, fits),
    )
expressions_run (Variable i) code cells vars top c calls answers r small fits h a =
    let f = fetch_runs code cells top c calls answers 4 i r (omega arith) (omega (arith, fits.0, fits.1)) fits.2
    (small i) h a in
    (f.stands, f.here)
expressions_run (Binary a op b) code cells vars top c calls answers r small fits h at_c =
    let left = left_register a in
    let begin = left_code a (expression_code top a) in
    let rest = right_code top op left b (expression_code (suc top) b) in
    let len = length begin in
    let first = left_runs a code cells vars top c calls answers r small fits.2 (stands_first code c begin rest h) at_c
    (λ own. expressions_run a code cells vars top c calls answers r small fits.2 own at_c) in
    let behind = stands_second code c begin rest h in
    let second : (x : ℕ) → x < 2 ^ 32 → (u : CodeRun) →
    IsAt (at top x cells) (suc top) (c + len + length (puts left top)) calls answers u →
    Stands code (c + len + length (puts left top)) (expression_code (suc top) b) →
    ComesTo (at top x cells) (suc top) (c + len + length (puts left top)) (length (expression_code (suc top) b)) calls
    answers code u (value (at top x cells) b)
    = λ x low u there stand. expressions_run b code (at top x cells) vars (suc top)
    (c + len + length (puts left top)) calls answers u (all_small cells top x small low) fits.3 stand there in
    subst (λ n. ComesTo cells top c n calls answers code r (both op (value cells a) (value cells b)))
    (sym (length-append begin rest)) (by_first (value cells a) refl first second behind)
  where
    by_first : (v : Option ℕ) → value cells a ≡ v →
        ComesIn (left_register a) cells top c (length (left_code a (expression_code top a))) calls answers code r v →
        ((x : ℕ) → x < 2 ^ 32 → (u : CodeRun) → IsAt (at top x cells) (suc top)
        (c + length (left_code a (expression_code top a)) + length (puts (left_register a) top)) calls answers u →
        Stands code (c + length (left_code a (expression_code top a)) + length (puts (left_register a) top))
        (expression_code (suc top) b) →
        ComesTo (at top x cells) (suc top)
        (c + length (left_code a (expression_code top a)) + length (puts (left_register a) top))
        (length (expression_code (suc top) b)) calls answers code u (value (at top x cells) b)) →
        Stands code (c + length (left_code a (expression_code top a)))
        (right_code top op (left_register a) b (expression_code (suc top) b)) →
        ComesTo cells top c (length (left_code a (expression_code top a))
        + length (right_code top op (left_register a) b (expression_code (suc top) b))) calls answers code r
        (both op v (value cells b))
    by_first None e k second behind =
        longer code cells top c (length (left_code a (expression_code top a)))
        (length (left_code a (expression_code top a))
        + length (right_code top op (left_register a) b (expression_code (suc top) b))) calls answers r
        (omega arith) k
    by_first (Some x) e k second behind =
        let len = length (left_code a (expression_code top a)) in
        let low = value_small cells vars top a x small fits.2 e in
        comes_after code cells top c len
        (length (right_code top op (left_register a) b (expression_code (suc top) b))) calls answers r
        (both op (Some x) (value cells b))
        (right_runs b op (left_register a) code cells vars top (c + len) calls answers x
        (run_by masked_place code len r) (left_apart a 5 (omega arith) (λ z. absurd cc))
        (left_apart a 6 (omega arith) (λ z. absurd cc)) fits.0 fits.1 small low fits.3 behind k.0 k.1
        (λ u there stand. subst (λ v. ComesTo (at top x cells) (suc top)
        (c + len + length (puts (left_register a) top)) (length (expression_code (suc top) b)) calls answers code u v)
        (value_same cells vars (suc top) top x b fits.1 fits.3) (second x low u there stand)))
