-- The code of statements does what the statements do.
use Rattle.std.specs.Prelude.{◌≡◌, ℕ, zero, suc, ◌+◌, ◌*◌, ◌^◌, ◌<◌, ◌≤◌, Bool, true, false, cond, nat_lt, ◌==◌}
use Rattle.std.specs.Prelude.{List, [], ◌∷◌, ◌++◌, length, slice_get, Option, Some, None}
use Rattle.std.proofs.Common.{arith, refl, subst, sym, ap, ◌∙◌}
use Rattle.std.proofs.lemmas.Bool.Decides.{nat_tests}
use Rattle.std.proofs.lemmas.List.{length-append}
use Rattle.graft_texts.specs.declared.Instr.{Instr}
use Rattle.graft_texts.specs.declared.Op.TheVariants.{Mov, Jmp, Jz, Call, Trap, Ret}
use Rattle.graft_texts.specs.Boxed.{instr}
use Rattle.graft_texts.specs.Objects.{at}
use Rattle.graft_texts.specs.Machine.{Done, jumps, word}
use Rattle.graft_texts.specs.Runs.{CodeRun, MadeCall, after_done, counted_access}
use Rattle.graft_texts.specs.LanguageMeaning as m
use Rattle.graft_texts.specs.LanguageMeaning.{Expression, Program, End, Answered, Trapped, DividedByZero, Asks, Going}
use Rattle.graft_texts.specs.LanguageMeaning.{State, value, does}
use Rattle.graft_lang.specs.Code.{fetches, puts, expression_code, arguments_code, registers_code, statements_code}
use Rattle.graft_lang.specs.Placing.{Fits, Stands, word_of, IsAt, ComesTo}
use Rattle.graft_lang.specs.Going.{run, going, IsSmall, HasEnd, GoesOn, EndsSo, GoesBy, Goes, FitsProgram}
use Rattle.graft_lang.specs.Going.{StatementsRun}
use Rattle.graft_lang.proofs.CallCode.{call_goes}
use Rattle.graft_lang.proofs.Slots.{one_step, two_parts, stands_first, stands_second, put_slot, put_runs, fetch_runs}
use Rattle.graft_lang.proofs.Slots.{unslotted}
use Rattle.graft_lang.proofs.Running.{expressions_run, value_small, value_same, all_small}

-- ---- parts in order

-- turns of two parts
pub two_turns : (a b n : ℕ) → (a + b) * n ≡ a * n + b * n
two_turns a b n = grind arith

-- an end that comes after a part that went on
ended_after : (end : End) (code : List Instr) (most top c len more : ℕ) (r : CodeRun)
    (s t u : State) → (g : GoesOn code most top c len r s t)
    → EndsSo code most more (run code g.steps r) t u end → EndsSo code most (len + more) r s u end
ended_after end code most top c len more r s t u g h =
    let e = two_turns g.used h.used most in
    record {
      steps = g.steps + h.steps;
      used = g.used + h.used;
      turns_are = omega (arith, g.turns_are, h.turns_are);
      bound = omega (arith, g.bound, h.bound, e);
      has = subst (λ x. HasEnd end x) (sym (two_parts code g.steps h.steps r)) h.has;
      calls_are = ap (λ (x : CodeRun). x.calls) (two_parts code g.steps h.steps r) ∙ h.calls_are;
    }

-- a part that comes after another one that went on
after_on : (o : Option End) (code : List Instr) (most top c len more : ℕ) (r : CodeRun)
    (s t u : State) → (g : GoesOn code most top c len r s t)
    → GoesBy o code most top (c + len) more (run code g.steps r) t u → GoesBy o code most top c (len + more) r s u
after_on None code most top c len more r s t u g h =
    let e = two_turns g.used h.used most in
    let there : c + len + more ≡ c + (len + more) = omega arith in
    record {
      steps = g.steps + h.steps;
      used = g.used + h.used;
      turns_are = omega (arith, g.turns_are, h.turns_are);
      least = omega (arith, g.least, h.least);
      bound = omega (arith, g.bound, h.bound, e);
      stands = subst (λ n. IsAt u.cells top n u.calls u.answers (run code (g.steps + h.steps) r)) there
          (subst (λ x. IsAt u.cells top (c + len + more) u.calls u.answers x)
          (sym (two_parts code g.steps h.steps r)) h.stands);
      small = h.small;
    }
after_on (Some Going) code most top c len more r s t u g h =
    record {
      steps = g.steps + h.steps;
      more = omega (arith, g.turns_are, g.least, h.more);
      lasts = ap (λ (x : CodeRun). x.ended) (two_parts code g.steps h.steps r) ∙ h.lasts;
    }
after_on (Some (Answered x y)) code most top c len more r s t u g h =
    ended_after (Answered x y) code most top c len more r s t u g h
after_on (Some (Trapped n)) code most top c len more r s t u g h =
    ended_after (Trapped n) code most top c len more r s t u g h
after_on (Some DividedByZero) code most top c len more r s t u g h =
    ended_after DividedByZero code most top c len more r s t u g h
after_on (Some (Asks call)) code most top c len more r s t u g h =
    ended_after (Asks call) code most top c len more r s t u g h

-- what has ended stays so where more code follows
wider : (end : End) (code : List Instr) (most len more : ℕ) (r : CodeRun) (s t : State) → EndsSo code most len r s t end
    → EndsSo code most (len + more) r s t end
wider end code most len more r s t h =
    record {
      steps = h.steps;
      used = h.used;
      turns_are = h.turns_are;
      bound = omega (arith, h.bound);
      has = h.has;
      calls_are = h.calls_are;
    }

after_ended : (end : End) (code : List Instr) (most top c len more : ℕ) (r : CodeRun)
    (s t : State) → GoesBy (Some end) code most top c len r s t
    → GoesBy (Some end) code most top c (len + more) r s t
after_ended Going code most top c len more r s t h = h
after_ended (Answered x y) code most top c len more r s t h = wider (Answered x y) code most len more r s t h
after_ended (Trapped n) code most top c len more r s t h = wider (Trapped n) code most len more r s t h
after_ended DividedByZero code most top c len more r s t h = wider DividedByZero code most len more r s t h
after_ended (Asks call) code most top c len more r s t h = wider (Asks call) code most len more r s t h

-- two parts in order; a state that has ended stays as it is
then_goes : (code : List Instr) (most top c len more : ℕ) (r : CodeRun) (s t : State)
    (next : State → State) → Goes code most top c len r s t
    → ((end : End) → t.ended ≡ Some end → next t ≡ t)
    → ((v : CodeRun) → t.ended ≡ None → IsSmall t → IsAt t.cells top (c + len) t.calls t.answers v
    → Goes code most top (c + len) more v t (next t))
    → Goes code most top c (len + more) r s (next t)
then_goes code most top c len more r s t next first over second = by t.ended refl first
  where
    by : (o : Option End) → t.ended ≡ o → GoesBy o code most top c len r s t →
        Goes code most top c (len + more) r s (next t)
    by None e g =
        after_on (next t).ended code most top c len more r s t (next t) g
        (second (run code g.steps r) e g.small g.stands)
    by (Some end) e g =
        subst (λ u. Goes code most top c (len + more) r s u) (sym (over end e))
        (subst (λ o. GoesBy o code most top c (len + more) r s t) (sym e)
        (after_ended end code most top c len more r s t g))

-- ---- what has ended

does_over : (p : Program) (s : State) (end : End) → s.ended ≡ Some end → does p s ≡ s
does_over m.Done s end e = refl
does_over (m.Assigns i x p) s end e =
    ap (λ (o : Option End). elim o as (λ _. State) [
      | Some h ↦ s
      | None ↦ does p (m.assigns i s (value s.cells x))
    ]) e
does_over (m.Calls i id xs p) s end e =
    ap (λ (o : Option End). elim o as (λ _. State) [
      | Some h ↦ s
      | None ↦ does p (m.calls i id s (m.values s.cells xs))
    ]) e
does_over (m.When x body p) s end e =
    ap (λ (o : Option End). elim o as (λ _. State) [
      | Some h ↦ s
      | None ↦ does p (m.chooses (does body) (λ t. t) s (value s.cells x))
    ]) e
does_over (m.Either x body other p) s end e =
    ap (λ (o : Option End). elim o as (λ _. State) [
      | Some h ↦ s
      | None ↦ does p (m.chooses (does body) (does other) s (value s.cells x))
    ]) e
does_over (m.Loops x body p) s end e =
    ap (λ (o : Option End). elim o as (λ _. State) [
      | Some h ↦ s
      | None ↦ does p (m.loops (λ cells. value cells x) (does body) s.turns s)
    ]) e
does_over (m.Traps n p) s end e =
    ap (λ (o : Option End). elim o as (λ _. State) [ Some h ↦ s | None ↦ m.ends s (Trapped n) ]) e
does_over (m.Answers x y p) s end e =
    ap (λ (o : Option End). elim o as (λ _. State) [
      | Some h ↦ s
      | None ↦ m.answers s (value s.cells x) (value s.cells y)
    ]) e

-- ---- statements

-- the code of so many instructions that stands here does this to each state
abbrev Carries : (State → State) → (code : List Instr) (most top c len : ℕ) → Type 0
Carries f code most top c len =
    (cells : ℕ → ℕ) (calls : List MadeCall) (answers : List (ℕ × ℕ)) (turns : ℕ) (r : CodeRun) →
    IsSmall (going cells calls answers turns)
    → IsAt cells top c calls answers r → Goes code most top c len r
    (going cells calls answers turns) (f (going cells calls answers turns))

-- the same of a state that is known not to have ended
carries : (f : State → State) (code : List Instr) (most top c len : ℕ) →
    Carries f code most top c len → (t : State) (r : CodeRun)
    → t.ended ≡ None → IsSmall t → IsAt t.cells top c t.calls t.answers r → Goes code most top c len r t (f t)
carries f code most top c len h t r e small a =
    let is : going t.cells t.calls t.answers t.turns ≡ t =
    ap (λ (o : Option End). let s : State = record t { ended = o } in s) (sym e) in
    subst (λ s. Goes code most top c len r s (f s)) is
    (h t.cells t.calls t.answers t.turns r (record { cells_are = small.cells_are; answers_are = small.answers_are }) a)

-- an expression that has no value
divided : (code : List Instr) (most top c len more : ℕ) (cells : ℕ → ℕ) (calls : List MadeCall)
    (answers : List (ℕ × ℕ)) (turns : ℕ) (r : CodeRun)
    → ComesTo cells top c len calls answers code r None
    → Goes code most top c (len + more) r (going cells calls answers turns)
    (m.ends (going cells calls answers turns) DividedByZero)
divided code most top c len more cells calls answers turns r h =
    record { steps = h.0; used = 0; turns_are = omega arith; bound = omega (arith, h.1); has = h.2; calls_are = h.3 }

assign_goes : (i : ℕ) (e : Expression) (code : List Instr) (most v c : ℕ) → i < v → v < 1024 → Fits v v e
    → Stands code c (expression_code v e ++ puts 4 i)
    → Carries (λ s. m.assigns i s (value s.cells e)) code most v c (length (expression_code v e ++ puts 4 i))
assign_goes i e code most v c below low fits h cells calls answers turns r small a =
    let len = length (expression_code v e) in
    subst (λ n. Goes code most v c n r (going cells calls answers turns)
    (m.assigns i (going cells calls answers turns) (value cells e)))
    (sym (length-append (expression_code v e) (puts 4 i)))
    (by (value cells e) refl (expressions_run e code cells v v c calls answers r small.cells_are
    fits (stands_first code c (expression_code v e) (puts 4 i) h) a))
  where
    by : (x : Option ℕ) → value cells e ≡ x → ComesTo cells v c (length (expression_code v e)) calls answers code r x
        → Goes code most v c (length (expression_code v e) + length (puts 4 i)) r (going cells calls answers turns)
        (m.assigns i (going cells calls answers turns) x)
    by None is k =
        divided code most v c (length (expression_code v e)) (length (puts 4 i)) cells calls answers turns r k
    by (Some x) is k =
        let len = length (expression_code v e) in
        let n = length (puts 4 i) in
        let there : c + len + n ≡ c + (len + n) = omega arith in
        let low_x = value_small cells v v e x small.cells_are fits is in
        record {
          steps = len + n;
          used = 0;
          turns_are = omega arith;
          least = omega arith;
          bound = omega arith;
          stands = subst (λ k. IsAt (at i x cells) v k calls answers (run code (len + n) r)) there
              (subst (λ u. IsAt (at i x cells) v (c + len + n) calls answers u) (sym (two_parts code len n r))
              (put_slot code cells v v (c + len) calls answers 4 i x (run code len r) (λ z. absurd cc)
              (omega (arith, below, low)) low_x (λ j less k. less)
              (stands_second code c (expression_code v e) (puts 4 i) h) k.0 k.1));
          small = record {
            cells_are = all_small cells i x small.cells_are low_x;
            answers_are = small.answers_are;
          };
        }

-- nothing is left to do
done_goes : (code : List Instr) (most v c : ℕ) → Carries (λ s. s) code most v c 0
done_goes code most v c cells calls answers turns r small a =
    record {
      steps = 0;
      used = 0;
      turns_are = omega arith;
      least = omega arith;
      bound = omega arith;
      stands = let same : c ≡ c + 0 = omega arith in subst (λ n. IsAt cells v n calls answers r) same a;
      small = small;
    }

trap_goes : (n : ℕ) (code : List Instr) (most v c more : ℕ) → slice_get code c ≡ Some (instr Trap 0 0 0 n)
    → Carries (λ s. m.ends s (Trapped n)) code most v c (suc more)
trap_goes n code most v c more h cells calls answers turns r small a =
    let here : slice_get code r.machine.pc ≡ Some (instr Trap 0 0 0 n) =
    subst (λ k. slice_get code k ≡ Some (instr Trap 0 0 0 n)) (sym a.place) h in
    let step = one_step code r (instr Trap 0 0 0 n) 0 a.going here in
    record {
      steps = 1;
      used = 0;
      turns_are = omega arith;
      bound = omega arith;
      has = ap (λ (u : CodeRun). u.ended) step;
      calls_are = ap (λ (u : CodeRun). u.calls) step ∙ a.calls_are;
    }

-- ---- jumps

jump_taken : (code : List Instr) (cells : ℕ → ℕ) (top c target : ℕ) (calls : List MadeCall)
    (answers : List (ℕ × ℕ)) (r : CodeRun)
    → slice_get code c ≡ Some (instr Jmp 0 0 0 target) → IsAt cells top c calls answers r →
    IsAt cells top target calls answers (run code 1 r)
jump_taken code cells top c target calls answers r h a =
    let here : slice_get code r.machine.pc ≡ Some (instr Jmp 0 0 0 target) =
    subst (λ k. slice_get code k ≡ Some (instr Jmp 0 0 0 target)) (sym a.place) h in
    subst (λ u. IsAt cells top target calls answers u) (sym (one_step code r (instr Jmp 0 0 0 target) 0 a.going here))
    (record { place = refl; going = a.going; slots = a.slots; calls_are = a.calls_are; answers_are = a.answers_are })

-- a conditional jump, by whether r4 is 0
branch : (code : List Instr) (cells : ℕ → ℕ) (top c target : ℕ) (calls : List MadeCall)
    (answers : List (ℕ × ℕ)) (r : CodeRun) (b : Bool)
    → slice_get code c ≡ Some (instr Jz 4 0 0 target) → IsAt cells top c calls answers r → (r.machine.regs 4 == 0) ≡ b
    → IsAt cells top (cond b target (c + 1)) calls answers (run code 1 r)
branch code cells top c target calls answers r b h a is = by b is
  where
    here : slice_get code r.machine.pc ≡ Some (instr Jz 4 0 0 target)
    here = subst (λ k. slice_get code k ≡ Some (instr Jz 4 0 0 target)) (sym a.place) h

    step : (b : Bool) → (r.machine.regs 4 == 0) ≡ b → run code 1 r
        ≡ after_done (elim b as (λ _. Done) [
          | true ↦ jumps r.machine target
          | false ↦ jumps r.machine (r.machine.pc + 1)
        ]) (counted_access false r)
    step b z =
        one_step code r (instr Jz 4 0 0 target) 0 a.going here
        ∙ ap (λ (t : Bool). after_done (elim t as (λ _. Done) [
          | true ↦ jumps r.machine target
          | false ↦ jumps r.machine (r.machine.pc + 1)
        ]) (counted_access false r)) z

    by : (b : Bool) → (r.machine.regs 4 == 0) ≡ b → IsAt cells top (cond b target (c + 1)) calls answers (run code 1 r)
    by true z =
        subst (λ u. IsAt cells top target calls answers u) (sym (step true z))
        (record {
          place = refl;
          going = a.going;
          slots = a.slots;
          calls_are = a.calls_are;
          answers_are = a.answers_are;
        })
    by false z =
        subst (λ u. IsAt cells top (c + 1) calls answers u) (sym (step false z))
        (record {
          place = ap (λ n. n + 1) a.place;
          going = a.going;
          slots = a.slots;
          calls_are = a.calls_are;
          answers_are = a.answers_are;
        })

-- a condition and its jump, by the value of the condition
abbrev Tested : (code : List Instr) (cells : ℕ → ℕ) (top c len target : ℕ) → List MadeCall →
    List (ℕ × ℕ) → CodeRun → Option ℕ → Type 0
Tested code cells top c len target calls answers r None = ComesTo cells top c len calls answers code r None
Tested code cells top c len target calls answers r (Some zero) =
    IsAt cells top target calls answers (run code (len + 1) r)
Tested code cells top c len target calls answers r (Some (suc n)) =
    IsAt cells top (c + (len + 1)) calls answers (run code (len + 1) r)

tested : (e : Expression) (code : List Instr) (v c target : ℕ) (cells : ℕ → ℕ)
    (calls : List MadeCall) (answers : List (ℕ × ℕ)) (r : CodeRun)
    → ((i : ℕ) → cells i < 2 ^ 32) → Fits v v e → Stands code c (expression_code v e)
    → slice_get code (c + length (expression_code v e)) ≡ Some (instr Jz 4 0 0 target) → IsAt cells v c calls answers r
    → Tested code cells v c (length (expression_code v e)) target calls answers r (value cells e)
tested e code v c target cells calls answers r small fits h j a =
    by (value cells e) (expressions_run e code cells v v c calls answers r small fits h a)
  where
    positive : (n : ℕ) → (suc n == 0) ≡ false
    positive n = grind (arith, nat_tests)

    by : (x : Option ℕ) → ComesTo cells v c (length (expression_code v e)) calls answers code r x
        → Tested code cells v c (length (expression_code v e)) target calls answers r x
    by None k = k
    by (Some zero) k =
        subst (λ u. IsAt cells v target calls answers u) (sym (two_parts code (length (expression_code v e)) 1 r))
        (branch code cells v (c + length (expression_code v e)) target calls answers
        (run code (length (expression_code v e)) r) true j k.0 (ap (λ n. n == 0) k.1))
    by (Some (suc n)) k =
        let there : c + length (expression_code v e) + 1 ≡ c + (length (expression_code v e) + 1) = omega arith in
        subst (λ u. IsAt cells v (c + (length (expression_code v e) + 1)) calls answers u)
        (sym (two_parts code (length (expression_code v e)) 1 r))
        (subst (λ q. IsAt cells v q calls answers (run code 1 (run code (length (expression_code v e)) r))) there
        (branch code cells v (c + length (expression_code v e)) target calls answers
        (run code (length (expression_code v e)) r) false j k.0
        (ap (λ n. n == 0) k.1 ∙ positive n)))

-- some instructions that change nothing but the place
moves : (code : List Instr) (most top c len steps : ℕ) (cells : ℕ → ℕ) (calls : List MadeCall)
    (answers : List (ℕ × ℕ)) (turns : ℕ) (r : CodeRun)
    → steps ≤ len → IsSmall (going cells calls answers turns) →
    IsAt cells top (c + len) calls answers (run code steps r)
    → GoesOn code most top c len r (going cells calls answers turns) (going cells calls answers turns)
moves code most top c len steps cells calls answers turns r few small a =
    record {
      steps = steps;
      used = 0;
      turns_are = omega arith;
      least = omega arith;
      bound = omega (arith, few);
      stands = a;
      small = small;
    }

-- one of two things is done: what follows the jump, or what stands at its target
choose_goes : (f g : State → State) (e : Expression) (code : List Instr) (most v c skip rest : ℕ) → Fits v v e
    → Stands code c (expression_code v e)
    → slice_get code (c + length (expression_code v e))
    ≡ Some (instr Jz 4 0 0 (c + (length (expression_code v e) + 1 + skip)))
    → Carries f code most v (c + (length (expression_code v e) + 1)) (skip + rest)
    → Carries g code most v (c + (length (expression_code v e) + 1 + skip)) rest
    → Carries (λ s. m.chooses f g s (value s.cells e)) code most v c (length (expression_code v e) + 1 + (skip + rest))
unfolding moves
choose_goes f g e code most v c skip rest fits h j hf hg cells calls answers turns r small a =
    by (value cells e)
    (tested e code v c (c + (length (expression_code v e) + 1 + skip)) cells calls answers r small.cells_are fits h j a)
  where
    len : ℕ
    len = length (expression_code v e)

    by : (x : Option ℕ) → Tested code cells v c (length (expression_code v e))
        (c + (length (expression_code v e) + 1 + skip)) calls answers r x
        → Goes code most v c (length (expression_code v e) + 1 + (skip + rest)) r
        (going cells calls answers turns) (m.chooses f g (going cells calls answers turns) x)
    by None k =
        let long : length (expression_code v e) + (1 + (skip + rest))
        ≡ length (expression_code v e) + 1 + (skip + rest) = omega arith in
        subst (λ n. Goes code most v c n r (going cells calls answers turns)
        (m.ends (going cells calls answers turns) DividedByZero)) long
        (divided code most v c (length (expression_code v e)) (1 + (skip + rest)) cells calls answers turns r k)
    by (Some zero) k =
        let long : length (expression_code v e) + 1 + skip + rest
        ≡ length (expression_code v e) + 1 + (skip + rest) = omega arith in
        let s = going cells calls answers turns in
        subst (λ n. Goes code most v c n r s (g s)) long
        (after_on (g s).ended code most v c (length (expression_code v e) + 1 + skip) rest r s s (g s)
        (moves code most v c (length (expression_code v e) + 1 + skip)
        (length (expression_code v e) + 1) cells calls answers turns r (omega arith) small k)
        (hg cells calls answers turns (run code (length (expression_code v e) + 1) r) small k))
    by (Some (suc n)) k =
        let s = going cells calls answers turns in
        after_on (f s).ended code most v c (length (expression_code v e) + 1) (skip + rest) r s s (f s)
        (moves code most v c (length (expression_code v e) + 1) (length (expression_code v e) + 1)
        cells calls answers turns r (omega arith) small k)
        (hf cells calls answers turns (run code (length (expression_code v e) + 1) r) small k)

-- something is done, and then what stands behind is jumped over
then_jump : (f : State → State) (code : List Instr) (most v c len skip : ℕ) → Carries f code most v c len
    → slice_get code (c + len) ≡ Some (instr Jmp 0 0 0 (c + len + (1 + skip))) →
    Carries f code most v c (len + (1 + skip))
then_jump f code most v c len skip h j cells calls answers turns r small a =
    let s = going cells calls answers turns in
    then_goes code most v c len (1 + skip) r s (f s) (λ t. t) (h cells calls answers turns r small a) (λ end e. refl)
    (λ w e fine there. carries (λ t. t) code most v (c + len) (1 + skip)
    (λ cells calls answers turns w small a. moves code most v (c + len) (1 + skip) 1 cells calls
    answers turns w (omega arith) small
    (jump_taken code cells v (c + len) (c + len + (1 + skip)) calls answers w j a)) (f s) w e fine there)

-- ---- loops

loops_over : (condition : (ℕ → ℕ) → Option ℕ) (f : State → State) (n : ℕ) (s : State) (end : End) →
    s.ended ≡ Some end → m.loops condition f n s ≡ s
loops_over condition f zero s end e =
    ap (λ (o : Option End). elim o as (λ _. State) [
      | Some h ↦ s
      | None ↦ m.chooses (λ t. m.ends t Going) (λ t. t) s (condition s.cells)
    ]) e
loops_over condition f (suc n) s end e =
    ap (λ (o : Option End). elim o as (λ _. State) [
      | Some h ↦ s
      | None ↦
          m.chooses (λ t. m.takes_turn (λ u. m.loops condition f n (f u)) t t.turns) (λ t. t) s (condition s.cells)
    ]) e

-- an end within a turn
turn_ends : (end : End) (code : List Instr) (most len inner total : ℕ) (cells : ℕ → ℕ)
    (calls : List MadeCall) (answers : List (ℕ × ℕ)) (turns : ℕ) (r : CodeRun) (u : State)
    → len + 1 + inner ≤ total → EndsSo code most inner (run code (len + 1) r) (going cells calls answers turns) u end
    → EndsSo code most total r (going cells calls answers (suc turns)) u end
turn_ends end code most len inner total cells calls answers turns r u few h =
    record {
      steps = len + 1 + h.steps;
      used = h.used;
      turns_are = omega (arith, h.turns_are);
      bound = omega (arith, h.bound, few);
      has = subst (λ x. HasEnd end x) (sym (two_parts code (len + 1) h.steps r)) h.has;
      calls_are = ap (λ (x : CodeRun). x.calls) (two_parts code (len + 1) h.steps r) ∙ h.calls_are;
    }

-- a turn that comes back to the condition
turn_comes_back : (code : List Instr) (most top c len inner : ℕ) (cells : ℕ → ℕ)
    (calls : List MadeCall) (answers : List (ℕ × ℕ)) (turns : ℕ) (r : CodeRun) (u : State)
    → len + 1 + inner + 1 ≤ most → slice_get code (c + (len + 1) + inner) ≡ Some (instr Jmp 0 0 0 c)
    → GoesOn code most top (c + (len + 1)) inner (run code (len + 1) r) (going cells calls answers turns) u
    → GoesOn code most top c 0 r (going cells calls answers (suc turns)) u
turn_comes_back code most top c len inner cells calls answers turns r u few j g =
    let e = two_turns 1 g.used most in
    let here : c ≡ c + 0 = omega arith in
    record {
      steps = len + 1 + (g.steps + 1);
      used = 1 + g.used;
      turns_are = omega (arith, g.turns_are);
      least = omega (arith, g.least);
      bound = omega (arith, g.bound, few, e);
      stands = subst (λ n. IsAt u.cells top n u.calls u.answers (run code (len + 1 + (g.steps + 1)) r)) here
          (subst (λ x. IsAt u.cells top c u.calls u.answers x) (sym (two_parts code
          (len + 1) (g.steps + 1) r ∙ two_parts code g.steps 1 (run code (len + 1) r)))
          (jump_taken code u.cells top (c + (len + 1) + inner) c u.calls u.answers
          (run code g.steps (run code (len + 1) r)) j g.stands));
      small = g.small;
    }

loop_goes : (f : State → State) (e : Expression) (code : List Instr) (most v c inner : ℕ) →
    Fits v v e → length (expression_code v e) + 1 + inner + 1 ≤ most
    → Stands code c (expression_code v e)
    → slice_get code (c + length (expression_code v e))
    ≡ Some (instr Jz 4 0 0 (c + (length (expression_code v e) + 1 + inner + 1)))
    → Carries f code most v (c + (length (expression_code v e) + 1)) inner
    → slice_get code (c + (length (expression_code v e) + 1) + inner) ≡ Some (instr Jmp 0 0 0 c)
    → (n : ℕ) (cells : ℕ → ℕ) (calls : List MadeCall) (answers : List (ℕ × ℕ)) (turns : ℕ) (r : CodeRun) → turns ≤ n
    → IsSmall (going cells calls answers turns) → IsAt cells v c calls answers r
    → Goes code most v c (length (expression_code v e) + 1 + inner + 1) r (going cells calls answers turns)
    (m.loops (λ x. value x e) f n (going cells calls answers turns))
loop_goes f e code most v c inner fits room h j hf back zero cells calls answers turns r few small a =
    by (value cells e)
    (tested e code v c (c + (length (expression_code v e) + 1 + inner + 1)) cells calls answers r
    small.cells_are fits h j a)
  where
    by : (x : Option ℕ) → Tested code cells v c (length (expression_code v e))
        (c + (length (expression_code v e) + 1 + inner + 1)) calls answers r x
        → Goes code most v c (length (expression_code v e) + 1 + inner + 1) r (going cells calls answers turns)
        (m.chooses (λ t. m.ends t Going) (λ t. t) (going cells calls answers turns) x)
    by None k =
        record {
          steps = k.0;
          used = 0;
          turns_are = omega arith;
          bound = omega (arith, k.1);
          has = k.2;
          calls_are = k.3;
        }
    by (Some zero) k =
        moves code most v c (length (expression_code v e) + 1 + inner + 1)
        (length (expression_code v e) + 1) cells calls answers turns r (omega arith) small k
    by (Some (suc n)) k =
        record {
          steps = length (expression_code v e) + 1;
          more = omega (arith, few);
          lasts = k.going;
        }
loop_goes f e code most v c inner fits room h j hf back (suc n) cells calls answers turns r few small a =
    by (value cells e)
    (tested e code v c (c + (length (expression_code v e) + 1 + inner + 1)) cells calls answers r
    small.cells_are fits h j a) turns few small
    (λ cells calls answers turns w few small a. loop_goes f e code most v c inner fits room h j hf
    back n cells calls answers turns w few small a)
  where
    -- the turns behind one
    rest : (t : ℕ) (w : CodeRun) (u : State) → t ≤ n → u.ended ≡ None
        → ((cells : ℕ → ℕ) (calls : List MadeCall) (answers : List (ℕ × ℕ)) (turns : ℕ) (w : CodeRun) → turns ≤ n
        → IsSmall (going cells calls answers turns) → IsAt cells v c calls answers w
        → Goes code most v c (length (expression_code v e) + 1 + inner + 1) w (going cells calls answers turns)
        (m.loops (λ x. value x e) f n (going cells calls answers turns)))
        → u.turns ≤ t → IsSmall u → IsAt u.cells v c u.calls u.answers w
        → Goes code most v c (length (expression_code v e) + 1 + inner + 1) w u (m.loops (λ x. value x e) f n u)
    rest t w u less going_on later fewer fine there =
        let is : going u.cells u.calls u.answers u.turns ≡ u =
        ap (λ (o : Option End). let s : State = record u { ended = o } in s) (sym going_on) in
        subst (λ s. Goes code most v c (length (expression_code v e) + 1 + inner + 1) w s
        (m.loops (λ x. value x e) f n s)) is
        (later u.cells u.calls u.answers u.turns w (omega (arith, less, fewer))
        (record { cells_are = fine.cells_are; answers_are = fine.answers_are }) there)

    turn : (t : ℕ) (u : State) → t ≤ n → IsSmall (going cells calls answers (suc t))
        → ((cells : ℕ → ℕ) (calls : List MadeCall) (answers : List (ℕ × ℕ)) (turns : ℕ) (w : CodeRun) → turns ≤ n
        → IsSmall (going cells calls answers turns) → IsAt cells v c calls answers w
        → Goes code most v c (length (expression_code v e) + 1 + inner + 1) w (going cells calls answers turns)
        (m.loops (λ x. value x e) f n (going cells calls answers turns)))
        → (o : Option End) → u.ended ≡ o
        → GoesBy o code most v (c + (length (expression_code v e) + 1)) inner
        (run code (length (expression_code v e) + 1) r) (going cells calls answers t) u
        → Goes code most v c (length (expression_code v e) + 1 + inner + 1) r
        (going cells calls answers (suc t)) (m.loops (λ x. value x e) f n u)
    turn t u less fine later None e0 g =
        let b = turn_comes_back code most v c (length (expression_code v e)) inner cells calls
        answers t r u room back g in
        let here : c + 0 ≡ c = omega arith in
        let long : 0 + (length (expression_code v e) + 1 + inner + 1)
        ≡ length (expression_code v e) + 1 + inner + 1 = omega arith in
        let s = m.loops (λ x. value x e) f n u in
        subst (λ k. Goes code most v c k r (going cells calls answers (suc t)) s) long
        (after_on s.ended code most v c 0 (length (expression_code v e) + 1 + inner + 1) r
        (going cells calls answers (suc t)) u s b
        (subst (λ k. Goes code most v k
        (length (expression_code v e) + 1 + inner + 1) (run code b.steps r) u s) (sym here)
        (rest t (run code b.steps r) u less e0 later (omega (arith, g.turns_are)) b.small
        (subst (λ k. IsAt u.cells v k u.calls u.answers (run code b.steps r)) here b.stands))))
    turn t u less fine later (Some end) e0 g =
        subst (λ s. Goes code most v c (length (expression_code v e) + 1 + inner + 1) r
        (going cells calls answers (suc t)) s) (sym (loops_over (λ x. value x e) f n u end e0))
        (subst (λ o. GoesBy o code most v c (length (expression_code v e) + 1 + inner + 1) r
        (going cells calls answers (suc t)) u) (sym e0) (ended_turn end g))
      where
        few_enough : length (expression_code v e) + 1 + inner ≤ length (expression_code v e) + 1 + inner + 1
        few_enough = omega arith

        ended_turn : (end : End)
            → GoesBy (Some end) code most v (c + (length (expression_code v e) + 1)) inner
            (run code (length (expression_code v e) + 1) r) (going cells calls answers t) u
            → GoesBy (Some end) code most v c (length (expression_code v e) + 1 + inner + 1) r
            (going cells calls answers (suc t)) u
        ended_turn Going g =
            record {
              steps = length (expression_code v e) + 1 + g.steps;
              more = omega (arith, g.more);
              lasts =
                  ap (λ (x : CodeRun). x.ended)
                  (two_parts code (length (expression_code v e) + 1) g.steps r) ∙ g.lasts;
            }
        ended_turn (Answered x y) g =
            turn_ends (Answered x y) code most (length (expression_code v e)) inner
            (length (expression_code v e) + 1 + inner + 1) cells calls answers t r u few_enough g
        ended_turn (Trapped x) g =
            turn_ends (Trapped x) code most (length (expression_code v e)) inner
            (length (expression_code v e) + 1 + inner + 1) cells calls answers t r u few_enough g
        ended_turn DividedByZero g =
            turn_ends DividedByZero code most (length (expression_code v e)) inner
            (length (expression_code v e) + 1 + inner + 1) cells calls answers t r u few_enough g
        ended_turn (Asks x) g =
            turn_ends (Asks x) code most (length (expression_code v e)) inner
            (length (expression_code v e) + 1 + inner + 1) cells calls answers t r u few_enough g

    by : (x : Option ℕ) → Tested code cells v c (length (expression_code v e))
        (c + (length (expression_code v e) + 1 + inner + 1)) calls answers r x
        → (turns : ℕ) → turns ≤ suc n → IsSmall (going cells calls answers turns)
        → ((cells : ℕ → ℕ) (calls : List MadeCall) (answers : List (ℕ × ℕ)) (turns : ℕ) (w : CodeRun) → turns ≤ n
        → IsSmall (going cells calls answers turns) → IsAt cells v c calls answers w
        → Goes code most v c (length (expression_code v e) + 1 + inner + 1) w (going cells calls answers turns)
        (m.loops (λ x. value x e) f n (going cells calls answers turns)))
        → Goes code most v c (length (expression_code v e) + 1 + inner + 1) r (going cells calls answers turns)
        (m.chooses (λ t. m.takes_turn (λ u. m.loops (λ x. value x e) f n (f u)) t t.turns)
        (λ t. t) (going cells calls answers turns) x)
    by None k turns few small later =
        record {
          steps = k.0;
          used = 0;
          turns_are = omega arith;
          bound = omega (arith, k.1);
          has = k.2;
          calls_are = k.3;
        }
    by (Some zero) k turns few small later =
        moves code most v c (length (expression_code v e) + 1 + inner + 1)
        (length (expression_code v e) + 1) cells calls answers turns r (omega arith) small k
    by (Some (suc x)) k zero few small later =
        record { steps = length (expression_code v e) + 1; more = omega arith; lasts = k.going }
    by (Some (suc x)) k (suc t) few small later =
        let fine : IsSmall (going cells calls answers t) =
        record { cells_are = small.cells_are; answers_are = small.answers_are } in
        let u = f (going cells calls answers t) in
        turn t u (omega (arith, few)) small later u.ended refl
        (hf cells calls answers t (run code (length (expression_code v e) + 1) r) fine k)

-- ---- answers

-- r1 becomes r4
moved : (code : List Instr) (cells : ℕ → ℕ) (top c : ℕ) (calls : List MadeCall)
    (answers : List (ℕ × ℕ)) (y : ℕ) (r : CodeRun) → y < 2 ^ 32
    → slice_get code c ≡ Some (instr Mov 1 4 0 0) → IsAt cells top c calls answers r → r.machine.regs 4 ≡ y
    → IsAt cells top (c + 1) calls answers (run code 1 r) × ((run code 1 r).machine.regs 1 ≡ y)
moved code cells top c calls answers y r low h a is =
    let here : slice_get code r.machine.pc ≡ Some (instr Mov 1 4 0 0) =
    subst (λ k. slice_get code k ≡ Some (instr Mov 1 4 0 0)) (sym a.place) h in
    let same : word y ≡ y = omega (arith, low) in
    subst (λ u. IsAt cells top (c + 1) calls answers u × (u.machine.regs 1 ≡ y))
    (sym (one_step code r (instr Mov 1 4 0 0) 0 a.going here)) (
      record {
        place = ap (λ n. n + 1) a.place;
        going = a.going;
        slots = λ i below. ap (λ x. cond (nat_lt i 7) x (word_of r.machine.memory i))
            (unslotted 1 i (word (r.machine.regs 4)) r.machine.regs (omega arith)) ∙ a.slots i below;
        calls_are = a.calls_are;
        answers_are = a.answers_are;
      },
      ap word is ∙ same,
    )

-- the run ends with what r0 and r1 have
pub returned : (code : List Instr) (cells : ℕ → ℕ) (top c : ℕ) (calls : List MadeCall)
    (answers : List (ℕ × ℕ)) (x y : ℕ) (r : CodeRun)
    → slice_get code c ≡ Some (instr Ret 0 0 0 0) → IsAt cells top c calls answers r →
    r.machine.regs 0 ≡ x → r.machine.regs 1 ≡ y
    → HasEnd (Answered x y) (run code 1 r) × ((run code 1 r).calls ≡ calls)
returned code cells top c calls answers x y r h a ex ey =
    let here : slice_get code r.machine.pc ≡ Some (instr Ret 0 0 0 0) =
    subst (λ k. slice_get code k ≡ Some (instr Ret 0 0 0 0)) (sym a.place) h in
    subst (λ u. HasEnd (Answered x y) u × (u.calls ≡ calls)) (sym (one_step code r (instr Ret 0 0 0 0) 0 a.going here))
    ((refl, ex, ey), a.calls_are)

-- what comes behind the second value: both go to their registers
abbrev pub last_code : (v : ℕ) → List Instr
last_code v = instr Mov 1 4 0 0 ∷ (fetches 0 v ++ (instr Ret 0 0 0 0 ∷ []))

last_goes : (code : List Instr) (cells : ℕ → ℕ) (v c : ℕ) (calls : List MadeCall)
    (answers : List (ℕ × ℕ)) (x y : ℕ) (r : CodeRun) → v < 1024 → x < 2 ^ 32 → y < 2 ^ 32
    → Stands code c (last_code v) → IsAt (at v x cells) (suc v) c calls answers r → r.machine.regs 4 ≡ y
    → HasEnd (Answered x y) (run code (1 + (length (fetches 0 v) + 1)) r)
    × ((run code (1 + (length (fetches 0 v) + 1)) r).calls ≡ calls)
last_goes code cells v c calls answers x y r low small fine h a e =
    let one = moved code (at v x cells) (suc v) c calls answers y r fine h.0 a e in
    let second : Stands code (c + 1) (fetches 0 v ++ (instr Ret 0 0 0 0 ∷ [])) =
    let there : suc c ≡ c + 1 = omega arith in
    subst (λ k. Stands code k (fetches 0 v ++ (instr Ret 0 0 0 0 ∷ []))) there h.1 in
    let n = length (fetches 0 v) in
    let two = fetch_runs code (at v x cells) (suc v) (c + 1) calls answers 0 v (run code 1 r) (omega arith)
    (omega arith) low (subst (λ n. n < 2 ^ 32) (sym own) small)
    (stands_first code (c + 1) (fetches 0 v) (instr Ret 0 0 0 0 ∷ []) second) one.0 in
    let three = returned code (at v x cells) (suc v) (c + 1 + n) calls answers x y (run code n (run code 1 r))
    (stands_second code (c + 1) (fetches 0 v) (instr Ret 0 0 0 0 ∷ []) second).0 two.stands (two.here ∙ own)
    (two.others 1 (λ z. absurd cc) (λ z. absurd cc) ∙ one.1) in
    subst (λ u. HasEnd (Answered x y) u × (u.calls ≡ calls))
    (sym (two_parts code 1 (n + 1) r ∙ two_parts code n 1 (run code 1 r))) three
  where
    own : at v x cells v ≡ x
    own = grind (arith, nat_tests)

answer_goes : (e f : Expression) (code : List Instr) (most v c total : ℕ) → v < 1023 → Fits v v e → Fits v (suc v) f
    → Stands code c (expression_code v e ++ (puts 4 v ++ (expression_code (suc v) f ++ last_code v)))
    → length (expression_code v e) + (length (puts 4 v) + (length (expression_code (suc v) f)
    + (1 + (length (fetches 0 v) + 1)))) ≤ total
    → Carries (λ s. m.answers s (value s.cells e) (value s.cells f)) code most v c total
answer_goes e f code most v c total low fits fits2 h room cells calls answers turns r small a =
    by (value cells e) refl
    (expressions_run e code cells v v c calls answers r small.cells_are fits
    (stands_first code c (expression_code v e) (puts 4 v ++ (expression_code (suc v) f ++ last_code v)) h) a)
  where
    behind : Stands code (c + length (expression_code v e)) (puts 4 v ++ (expression_code (suc v) f ++ last_code v))
    behind = stands_second code c (expression_code v e) (puts 4 v ++ (expression_code (suc v) f ++ last_code v)) h

    third : Stands code (c + length (expression_code v e) + length (puts 4 v))
        (expression_code (suc v) f ++ last_code v)
    third =
        stands_second code (c + length (expression_code v e)) (puts 4 v)
        (expression_code (suc v) f ++ last_code v) behind

    second : (x : ℕ) → value cells e ≡ Some x → (y : Option ℕ) → value (at v x cells) f ≡ y →
        IsAt cells v (c + length (expression_code v e)) calls answers
        (run code (length (expression_code v e)) r)
        → ComesTo (at v x cells) (suc v)
        (c + length (expression_code v e) + length (puts 4 v)) (length (expression_code (suc v) f)) calls
        answers code (run code (length (puts 4 v)) (run code (length (expression_code v e)) r)) y
        → Goes code most v c total r (going cells calls answers turns)
        (m.answers (going cells calls answers turns) (Some x) y)
    second x is None isnt k h2 =
        let first = length (expression_code v e) in
        let n = length (puts 4 v) in
        let all = two_parts code first (n + h2.0) r ∙ two_parts code n h2.0 (run code first r) in
        record {
          steps = first + (n + h2.0);
          used = 0;
          turns_are = omega arith;
          bound = omega (arith, h2.1, room);
          has = ap (λ (u : CodeRun). u.ended) all ∙ h2.2;
          calls_are = ap (λ (u : CodeRun). u.calls) all ∙ h2.3;
        }
    second x is (Some y) is2 k h2 =
        let first = length (expression_code v e) in
        let other = length (expression_code (suc v) f) in
        let fine = value_small cells v v e x small.cells_are fits is in
        let fine2 = value_small (at v x cells) v (suc v) f y (all_small cells v x small.cells_are fine) fits2 is2 in
        let n = length (puts 4 v) in
        let last = 1 + (length (fetches 0 v) + 1) in
        let all = two_parts code first (n + (other + last)) r
        ∙ two_parts code n (other + last) (run code first r)
        ∙ two_parts code other last (run code (length (puts 4 v)) (run code first r)) in
        let end = last_goes code cells v (c + first + n + other) calls answers x y
        (run code other (run code (length (puts 4 v)) (run code first r))) (omega (arith, low)) fine fine2
        (stands_second code (c + first + n) (expression_code (suc v) f) (last_code v) third) h2.0 h2.1 in
        record {
          steps = first + (n + (other + last));
          used = 0;
          turns_are = omega arith;
          bound = omega (arith, room);
          has = subst (λ u. HasEnd (Answered x y) u) (sym all) end.0;
          calls_are = ap (λ (u : CodeRun). u.calls) all ∙ end.1;
        }

    by : (x : Option ℕ) → value cells e ≡ x → ComesTo cells v c (length (expression_code v e)) calls answers code r x
        → Goes code most v c total r (going cells calls answers turns)
        (m.answers (going cells calls answers turns) x (value cells f))
    by None is k =
        record {
          steps = k.0;
          used = 0;
          turns_are = omega arith;
          bound = omega (arith, k.1, room);
          has = k.2;
          calls_are = k.3;
        }
    by (Some x) is k =
        let fine = value_small cells v v e x small.cells_are fits is in
        let p = put_runs code cells v (c + length (expression_code v e)) calls answers 4 x
        (run code (length (expression_code v e)) r) (λ z. absurd cc) (omega (arith, low)) fine
        (stands_first code (c + length (expression_code v e)) (puts 4 v)
        (expression_code (suc v) f ++ last_code v) behind) k.0 k.1 in
        subst (λ y. Goes code most v c total r (going cells calls answers turns)
        (m.answers (going cells calls answers turns) (Some x) y))
        (value_same cells v (suc v) v x f (omega arith) fits2)
        (second x is (value (at v x cells) f) refl k.0
        (expressions_run f code (at v x cells) v (suc v) (c + length (expression_code v e) + length (puts 4 v))
        calls answers (run code (length (puts 4 v)) (run code (length (expression_code v e)) r))
        (all_small cells v x small.cells_are fine) fits2
        (stands_first code (c + length (expression_code v e) + length (puts 4 v)) (expression_code (suc v) f)
        (last_code v) third) p))

-- ---- statements in order

-- a first part of so many instructions and the statements behind it
then_statements : (f : State → State) (p : Program) (code : List Instr) (most v c len more : ℕ)
    → Carries f code most v c len → Carries (does p) code most v (c + len) more →
    Carries (λ s. does p (f s)) code most v c (len + more)
then_statements f p code most v c len more h k cells calls answers turns r small a =
    let t = f (going cells calls answers turns) in
    then_goes code most v c len more r (going cells calls answers turns) t (does p)
    (h cells calls answers turns r small a) (λ end e. does_over p t end e)
    (λ w e fine there. carries (does p) code most v (c + len) more k t w e fine there)

-- the same at places and lengths that are equal
at_place : (f : State → State) (code : List Instr) (most v c d len : ℕ) → c ≡ d →
    Carries f code most v c len → Carries f code most v d len
at_place f code most v c d len e h = subst (λ n. Carries f code most v n len) e h

of_length : (f : State → State) (code : List Instr) (most v c len more : ℕ) → len ≡ more →
    Carries f code most v c len → Carries f code most v c more
of_length f code most v c len more e h = subst (λ n. Carries f code most v c n) e h

stands_at : (code : List Instr) (c d : ℕ) (is : List Instr) → c ≡ d → Stands code c is → Stands code d is
stands_at code c d is e h = subst (λ n. Stands code n is) e h

-- an instruction at an equal place, with an equal target
jz_at : (code : List Instr) (c d t u : ℕ) → c ≡ d → t ≡ u →
    slice_get code c ≡ Some (instr Jz 4 0 0 t) → slice_get code d ≡ Some (instr Jz 4 0 0 u)
jz_at code c d t u e f h =
    subst (λ n. slice_get code n ≡ Some (instr Jz 4 0 0 u)) e
    (subst (λ n. slice_get code c ≡ Some (instr Jz 4 0 0 n)) f h)

jmp_at : (code : List Instr) (c d t u : ℕ) → c ≡ d → t ≡ u →
    slice_get code c ≡ Some (instr Jmp 0 0 0 t) → slice_get code d ≡ Some (instr Jmp 0 0 0 u)
jmp_at code c d t u e f h =
    subst (λ n. slice_get code n ≡ Some (instr Jmp 0 0 0 u)) e
    (subst (λ n. slice_get code c ≡ Some (instr Jmp 0 0 0 n)) f h)

when_goes : (e : Expression) (body p : Program) (code : List Instr) (most v c : ℕ) → FitsProgram v (m.When e body p)
    → Stands code c (statements_code v c (m.When e body p))
    → Carries (does body) code most v (c + length (expression_code v e) + 1)
    (length (statements_code v (c + length (expression_code v e) + 1) body))
    → Carries (does p) code most v (c + length (expression_code v e) + 1
    + length (statements_code v (c + length (expression_code v e) + 1) body))
    (length (statements_code v (c + length (expression_code v e) + 1
    + length (statements_code v (c + length (expression_code v e) + 1) body)) p))
    → Carries (does (m.When e body p)) code most v c (length (statements_code v c (m.When e body p)))
when_goes e body p code most v c fits h hb hp =
    let test = expression_code v e in
    let inner = statements_code v (c + length test + 1) body in
    let behind = c + length test + 1 + length inner in
    let rest = statements_code v behind p in
    let tail = stands_second code c test (instr Jz 4 0 0 behind ∷ (inner ++ rest)) h in
    let n = length test in let k = length inner in
    let long : n + 1 + (k + 0) + length rest ≡ length (test ++ (instr Jz 4 0 0 behind ∷ (inner ++ rest))) =
    omega (arith, length-append test (instr Jz 4 0 0 behind ∷ (inner ++ rest)), length-append inner rest) in
    of_length (does (m.When e body p)) code most v c (n + 1 + (k + 0) + length rest)
    (length (statements_code v c (m.When e body p))) long
    (then_statements (λ s. m.chooses (does body) (λ t. t) s (value s.cells e)) p code most v c
    (n + 1 + (k + 0)) (length rest)
    (choose_goes (does body) (λ t. t) e code most v c k 0 fits.0
    (stands_first code c test (instr Jz 4 0 0 behind ∷ (inner ++ rest)) h)
    (jz_at code (c + n) (c + n) behind (c + (n + 1 + k)) refl (omega arith) tail.0)
    (of_length (does body) code most v (c + (n + 1)) k (k + 0) (omega arith)
    (at_place (does body) code most v (c + n + 1) (c + (n + 1)) k (omega arith) hb))
    (done_goes code most v (c + (n + 1 + k))))
    (at_place (does p) code most v behind (c + (n + 1 + (k + 0))) (length rest) (omega arith) hp))

either_goes : (e : Expression) (body other p : Program) (code : List Instr)
    (most v c inner outer rest : ℕ) (middle behind : ℕ) (ins outs more : List Instr) → Fits v v e
    → middle ≡ c + length (expression_code v e) + 1 + inner + 1 → behind ≡ middle + outer →
    length ins ≡ inner → length outs ≡ outer → length more ≡ rest
    → Stands code c (expression_code v e
    ++ (instr Jz 4 0 0 middle ∷ (ins ++ (instr Jmp 0 0 0 behind ∷ (outs ++ more)))))
    → Carries (does body) code most v (c + length (expression_code v e) + 1) inner
    → Carries (does other) code most v middle outer
    → Carries (does p) code most v behind rest
    → Carries (does (m.Either e body other p)) code most v c (length (expression_code v e
    ++ (instr Jz 4 0 0 middle ∷ (ins ++ (instr Jmp 0 0 0 behind ∷ (outs ++ more))))))
either_goes e body other p code most v c inner outer rest middle behind ins outs more fits em eb li lo lm h hb ho hp =
    let test = expression_code v e in
    let n = length test in
    let last = instr Jmp 0 0 0 behind ∷ (outs ++ more) in
    let tail = stands_second code c test (instr Jz 4 0 0 middle ∷ (ins ++ last)) h in
    let next = stands_second code (suc (c + n)) ins last tail.1 in
    let long : n + 1 + (inner + 1 + outer) + rest ≡ length (test ++ (instr Jz 4 0 0 middle ∷ (ins ++ last))) =
    omega (
      arith,
      length-append test (instr Jz 4 0 0 middle ∷ (ins ++ last)),
      length-append ins last,
      length-append outs more,
      li,
      lo,
      lm,
    ) in
    of_length (does (m.Either e body other p)) code most v c (n + 1 + (inner + 1 + outer) + rest)
    (length (test ++ (instr Jz 4 0 0 middle ∷ (ins ++ last)))) long
    (then_statements (λ s. m.chooses (does body) (does other) s (value s.cells e)) p code most v c
    (n + 1 + (inner + 1 + outer)) rest
    (choose_goes (does body) (does other) e code most v c (inner + 1) outer fits
    (stands_first code c test (instr Jz 4 0 0 middle ∷ (ins ++ last)) h)
    (jz_at code (c + n) (c + n) middle (c + (n + 1 + (inner + 1))) refl (omega (arith, em)) tail.0)
    (of_length (does body) code most v (c + (n + 1)) (inner + (1 + outer)) (inner + 1 + outer) (omega arith)
    (then_jump (does body) code most v (c + (n + 1)) inner outer
    (at_place (does body) code most v (c + n + 1) (c + (n + 1)) inner (omega arith) hb)
    (jmp_at code (suc (c + n) + length ins) (c + (n + 1) + inner) behind
    (c + (n + 1) + inner + (1 + outer)) (omega (arith, li)) (omega (arith, em, eb)) next.0)))
    (at_place (does other) code most v middle (c + (n + 1 + (inner + 1))) outer (omega (arith, em)) ho))
    (at_place (does p) code most v behind (c + (n + 1 + (inner + 1 + outer))) rest (omega (arith, em, eb)) hp))

loops_goes : (e : Expression) (body p : Program) (code : List Instr)
    (most v c inner rest behind : ℕ) (ins more : List Instr) → Fits v v e
    → behind ≡ c + length (expression_code v e) + 1 + inner + 1 → length ins ≡ inner → length more ≡ rest
    → length (expression_code v e) + 1 + inner + 1 ≤ most
    → Stands code c (expression_code v e ++ (instr Jz 4 0 0 behind ∷ (ins ++ (instr Jmp 0 0 0 c ∷ more))))
    → Carries (does body) code most v (c + length (expression_code v e) + 1) inner
    → Carries (does p) code most v behind rest
    → Carries (does (m.Loops e body p)) code most v c (length
    (expression_code v e ++ (instr Jz 4 0 0 behind ∷ (ins ++ (instr Jmp 0 0 0 c ∷ more)))))
loops_goes e body p code most v c inner rest behind ins more fits eb li lm room h hb hp =
    let test = expression_code v e in
    let n = length test in
    let last = instr Jmp 0 0 0 c ∷ more in
    let tail = stands_second code c test (instr Jz 4 0 0 behind ∷ (ins ++ last)) h in
    let next = stands_second code (suc (c + n)) ins last tail.1 in
    let long : n + 1 + inner + 1 + rest ≡ length (test ++ (instr Jz 4 0 0 behind ∷ (ins ++ last))) =
    omega (arith, length-append test (instr Jz 4 0 0 behind ∷ (ins ++ last)), length-append ins last, li, lm) in
    of_length (does (m.Loops e body p)) code most v c
    (n + 1 + inner + 1 + rest) (length (test ++ (instr Jz 4 0 0 behind ∷ (ins ++ last)))) long
    (then_statements (λ s. m.loops (λ x. value x e) (does body) s.turns s) p code most v c (n + 1 + inner + 1) rest
    (λ cells calls answers turns r small a. loop_goes (does body) e code most v c inner fits room
    (stands_first code c test (instr Jz 4 0 0 behind ∷ (ins ++ last)) h)
    (jz_at code (c + n) (c + n) behind (c + (n + 1 + inner + 1)) refl (omega (arith, eb)) tail.0)
    (at_place (does body) code most v (c + n + 1) (c + (n + 1)) inner (omega arith) hb)
    (jmp_at code (suc (c + n) + length ins) (c + (n + 1) + inner) c c (omega (arith, li)) refl next.0)
    turns cells calls answers turns r (omega arith) small a)
    (at_place (does p) code most v behind (c + (n + 1 + inner + 1)) rest (omega (arith, eb)) hp))

statements_go : (p : Program) (code : List Instr) (most v c : ℕ) → FitsProgram v p →
    Stands code c (statements_code v c p)
    → length (statements_code v c p) ≤ most → Carries (does p) code most v c (length (statements_code v c p))
statements_go m.Done code most v c fits h room = done_goes code most v c
statements_go (m.Assigns i e p) code most v c fits h room =
    let first = expression_code v e ++ puts 4 i in
    let rest = statements_code v (c + length first) p in
    of_length (does (m.Assigns i e p)) code most v c (length first + length rest)
    (length (first ++ rest)) (sym (length-append first rest))
    (then_statements (λ s. m.assigns i s (value s.cells e)) p code most v c (length first) (length rest)
    (assign_goes i e code most v c fits.0 fits.1 fits.2 (stands_first code c first rest h))
    (statements_go p code most v (c + length first) fits.3 (stands_second code c first rest h)
    (omega (arith, room, length-append first rest))))
statements_go (m.Calls i id es p) code most v c fits h room =
    let a = arguments_code v es in
    let b = registers_code 0 v 3 es in
    let first = a ++ (b ++ (instr Call 0 0 0 id ∷ puts 0 i)) in
    let rest = statements_code v (c + length first) p in
    let long : length a + (length b + (1 + length (puts 0 i))) ≡ length first =
    omega (
      arith,
      length-append a (b ++ (instr Call 0 0 0 id ∷ puts 0 i)),
      length-append b (instr Call 0 0 0 id ∷ puts 0 i),
    ) in
    of_length (does (m.Calls i id es p)) code most v c (length first + length rest)
    (length (first ++ rest)) (sym (length-append first rest))
    (then_statements (λ s. m.calls i id s (m.values s.cells es)) p code most v c (length first) (length rest)
    (of_length (λ s. m.calls i id s (m.values s.cells es)) code most v c
    (length a + (length b + (1 + length (puts 0 i)))) (length first) long
    (λ cells calls answers turns r small there. call_goes i id es code most v c cells calls answers
    turns r fits.0 fits.1 fits.2
    (stands_first code c first rest h) small there))
    (statements_go p code most v (c + length first) fits.3 (stands_second code c first rest h)
    (omega (arith, room, length-append first rest))))
statements_go (m.When e body p) code most v c fits h room =
    let test = expression_code v e in
    let inner = statements_code v (c + length test + 1) body in
    let behind = c + length test + 1 + length inner in
    let rest = statements_code v behind p in
    let tail = stands_second code c test (instr Jz 4 0 0 behind ∷ (inner ++ rest)) h in
    let lengths = length-append test (instr Jz 4 0 0 behind ∷ (inner ++ rest)) in
    when_goes e body p code most v c fits h
    (statements_go body code most v (c + length test + 1) fits.1
    (stands_at code (suc (c + length test)) (c + length test + 1) inner (omega arith)
    (stands_first code (suc (c + length test)) inner rest tail.1))
    (omega (arith, room, lengths, length-append inner rest)))
    (statements_go p code most v behind fits.2
    (stands_at code (suc (c + length test) + length inner) behind rest (omega arith)
    (stands_second code (suc (c + length test)) inner rest tail.1))
    (omega (arith, room, lengths, length-append inner rest)))
statements_go (m.Either e body other p) code most v c fits h room =
    let test = expression_code v e in
    let inner = statements_code v (c + length test + 1) body in
    let middle = c + length test + 1 + length inner + 1 in
    let outer = statements_code v middle other in
    let behind = middle + length outer in
    let rest = statements_code v behind p in
    let last = instr Jmp 0 0 0 behind ∷ (outer ++ rest) in
    let tail = stands_second code c test (instr Jz 4 0 0 middle ∷ (inner ++ last)) h in
    let next = stands_second code (suc (c + length test)) inner last tail.1 in
    let e1 = length-append test (instr Jz 4 0 0 middle ∷ (inner ++ last)) in
    let e2 = length-append inner last in
    let e3 = length-append outer rest in
    either_goes e body other p code most v c (length inner) (length outer) (length rest) middle
    behind inner outer rest fits.0 refl refl refl refl refl h
    (statements_go body code most v (c + length test + 1) fits.1
    (stands_at code (suc (c + length test)) (c + length test + 1) inner (omega arith)
    (stands_first code (suc (c + length test)) inner last tail.1))
    (omega (arith, room, e1, e2)))
    (statements_go other code most v middle fits.2
    (stands_at code (suc (suc (c + length test) + length inner)) middle outer (omega arith)
    (stands_first code (suc (suc (c + length test) + length inner)) outer rest next.1))
    (omega (arith, room, e1, e2, e3)))
    (statements_go p code most v behind fits.3
    (stands_at code (suc (suc (c + length test) + length inner) + length outer) behind rest (omega
    arith) (stands_second code (suc (suc (c + length test) + length inner)) outer rest next.1))
    (omega (arith, room, e1, e2, e3)))
statements_go (m.Loops e body p) code most v c fits h room =
    let test = expression_code v e in
    let inner = statements_code v (c + length test + 1) body in
    let behind = c + length test + 1 + length inner + 1 in
    let rest = statements_code v behind p in
    let last = instr Jmp 0 0 0 c ∷ rest in
    let tail = stands_second code c test (instr Jz 4 0 0 behind ∷ (inner ++ last)) h in
    let next = stands_second code (suc (c + length test)) inner last tail.1 in
    let e1 = length-append test (instr Jz 4 0 0 behind ∷ (inner ++ last)) in
    let e2 = length-append inner last in
    loops_goes e body p code most v c (length inner) (length rest) behind inner rest fits.0 refl
    refl refl (omega (arith, room, e1, e2)) h
    (statements_go body code most v (c + length test + 1) fits.1
    (stands_at code (suc (c + length test)) (c + length test + 1) inner (omega arith)
    (stands_first code (suc (c + length test)) inner last tail.1))
    (omega (arith, room, e1, e2)))
    (statements_go p code most v behind fits.2
    (stands_at code (suc (suc (c + length test) + length inner)) behind rest (omega arith) next.1)
    (omega (arith, room, e1, e2)))
statements_go (m.Traps n p) code most v c fits h room =
    trap_goes n code most v c (length (statements_code v (c + 1) p)) h.0
statements_go (m.Answers e f p) code most v c fits h room =
    let a = expression_code v e in
    let b = expression_code (suc v) f in
    let first = a ++ (puts 4 v ++ (b ++ last_code v)) in
    let rest = statements_code v (c + length first) p in
    answer_goes e f code most v c (length (first ++ rest)) fits.0 fits.1 fits.2 (stands_first code c first rest h)
    (omega (
      arith,
      length-append first rest,
      length-append a (puts 4 v ++ (b ++ last_code v)),
      length-append (puts 4 v) (b ++ last_code v),
      length-append b (last_code v),
      length-append (fetches 0 v) (instr Ret 0 0 0 0 ∷ []),
    ))

pub statements_run : StatementsRun
statements_run p code most v c cells calls answers turns r small fits h room a =
    statements_go p code most v c fits h room cells calls answers turns r small a
