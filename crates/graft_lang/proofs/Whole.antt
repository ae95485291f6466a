-- The code of a whole program does what it says.
use Rattle.std.specs.Prelude.{◌≡◌, ◌≢◌, ℕ, zero, suc, ◌+◌, ◌-◌, ◌*◌, ◌^◌, ◌<◌, ◌≤◌, Bool, true, false, cond, nat_lt}
use Rattle.std.specs.Prelude.{List, [], ◌∷◌, ◌++◌, length, slice_get, slice_index, Option, Some, None}
use Rattle.std.proofs.Common.{arith, refl, subst, sym, ap, ◌∙◌, append_assoc}
use Rattle.std.proofs.lemmas.Bool.Decides.{nat_tests}
use Rattle.std.proofs.lemmas.List.{length-append}
use Rattle.graft_texts.specs.declared.Instr.{Instr}
use Rattle.graft_texts.specs.declared.Op.TheVariants.{Li, Mov, Stw, Ret}
use Rattle.graft_texts.specs.Boxed.{instr}
use Rattle.graft_texts.specs.Objects.{at}
use Rattle.graft_texts.specs.Machine.{word}
use Rattle.graft_texts.specs.Runs.{CodeRun, MadeCall, Halt, Unanswered, AtReturn, AtDivision, AtTrap, first_run}
use Rattle.graft_texts.specs.LanguageMeaning as m
use Rattle.graft_texts.specs.LanguageMeaning.{Program, End, Answered, Trapped, DividedByZero, Asks, Going, State, does}
use Rattle.graft_texts.specs.LanguageMeaning.{at_end, first_state}
use Rattle.graft_lang.specs.Code.{fetches, puts, statements_code, zeros_code, prologue, epilogue, program_code}
use Rattle.graft_lang.specs.Placing.{Stands, word_of, slot_of, IsAt}
use Rattle.graft_texts.specs.LanguageImages.{end_by, end_of, said, AreArguments, AreWords}
use Rattle.graft_lang.specs.Going.{run, going, IsSmall, HasEnd, EndsSo, GoesBy, FitsProgram}
use Rattle.graft_lang.specs.Behaves.{ProgramsRun}
use Rattle.graft_lang.proofs.Slots.{one_step, run_over, two_parts, stands_first, stands_second, put_leaves, put_slot}
use Rattle.graft_lang.proofs.Slots.{fetch_runs, unslotted}
use Rattle.graft_lang.proofs.Statements.{statements_run, returned, two_turns}

-- ---- the beginning

-- a run that stands at a place, with other words that are the same below `top`
same_cells : (cells other : ℕ → ℕ) (top c : ℕ) (calls : List MadeCall) (answers : List (ℕ × ℕ)) (r : CodeRun)
    → ((j : ℕ) → j < top → cells j ≡ other j) → IsAt cells top c calls answers r → IsAt other top c calls answers r
same_cells cells other top c calls answers r same a =
    record {
      place = a.place;
      going = a.going;
      slots = λ j less. a.slots j less ∙ same j less;
      calls_are = a.calls_are;
      answers_are = a.answers_are;
    }

-- zeros in so many slots from this one on
abbrev zeroed : (i count : ℕ) → (ℕ → ℕ) → ℕ → ℕ
zeroed i zero cells = cells
zeroed i (suc n) cells = zeroed (suc i) n (at i 0 cells)

zeroed_below : (n i j : ℕ) (cells : ℕ → ℕ) → j < i → zeroed i n cells j ≡ cells j
zeroed_below zero i j cells h = refl
zeroed_below (suc n) i j cells h = zeroed_below n (suc i) j (at i 0 cells) (omega (arith, h)) ∙ other
  where
    other : at i 0 cells j ≡ cells j
    other = grind (arith, nat_tests, h)

zeroed_within : (n i k : ℕ) (cells : ℕ → ℕ) → k < n → zeroed i n cells (i + k) ≡ 0
zeroed_within zero i k cells h = absurd (omega (arith, h))
zeroed_within (suc n) i zero cells h =
    let same : i + 0 ≡ i = omega arith in
    ap (zeroed (suc i) n (at i 0 cells)) same
    ∙ zeroed_below n (suc i) i (at i 0 cells) (omega arith) ∙ own
  where
    own : at i 0 cells i ≡ 0
    own = grind (arith, nat_tests)
zeroed_within (suc n) i (suc k) cells h =
    let same : i + suc k ≡ suc i + k = omega arith in
    ap (zeroed (suc i) n (at i 0 cells)) same
    ∙ zeroed_within n (suc i) k (at i 0 cells) (omega (arith, h))

zeros_run : (n i : ℕ) (code : List Instr) (cells : ℕ → ℕ) (top c : ℕ) (calls : List MadeCall)
    (answers : List (ℕ × ℕ)) (r : CodeRun)
    → i + n ≤ 1024 → Stands code c (zeros_code i n) → IsAt cells top c calls answers r → r.machine.regs 4 ≡ 0
    → IsAt (zeroed i n cells) top (c + length (zeros_code i n)) calls answers (run code (length (zeros_code i n)) r)
zeros_run zero i code cells top c calls answers r low h a z =
    let here : c ≡ c + 0 = omega arith in subst (λ q. IsAt cells top q calls answers r) here a
zeros_run (suc n) i code cells top c calls answers r low h a z =
    let first = stands_first code c (puts 4 i) (zeros_code (suc i) n) h in
    let low_i : i < 1024 = omega (arith, low) in
    let k = length (puts 4 i) in
    let p = put_slot code cells top top c calls answers 4 i 0 r (λ e. absurd cc) low_i (omega arith) (λ j less e. less)
    first a z in
    let l = put_leaves code c 4 i 0 r a.going a.place (λ e. absurd cc) low_i (omega arith) z first in
    let len = length (zeros_code (suc i) n) in
    let long : length (puts 4 i ++ zeros_code (suc i) n) ≡ k + len = length-append (puts 4 i) (zeros_code (suc i) n) in
    let there : c + k + len ≡ c + (k + len) = omega arith in
    subst (λ m. IsAt (zeroed (suc i) n (at i 0 cells)) top (c + m) calls answers (run code m r)) (sym long)
    (subst (λ u. IsAt (zeroed (suc i) n (at i 0 cells)) top (c + (k + len)) calls answers u)
    (sym (two_parts code k len r))
    (subst (λ q. IsAt (zeroed (suc i) n (at i 0 cells)) top q calls answers (run code len (run code k r))) there
    (zeros_run n (suc i) code (at i 0 cells) top (c + k) calls answers (run code k r) (omega (arith, low))
    (stands_second code c (puts 4 i) (zeros_code (suc i) n) h) p
    (l.kept 4 (omega arith) (λ e. absurd cc) ∙ z))))

-- r4 becomes 0
clear_runs : (code : List Instr) (cells : ℕ → ℕ) (top c : ℕ) (calls : List MadeCall)
    (answers : List (ℕ × ℕ)) (r : CodeRun)
    → slice_get code c ≡ Some (instr Li 4 0 0 0) → IsAt cells top c calls answers r
    → IsAt cells top (c + 1) calls answers (run code 1 r) × ((run code 1 r).machine.regs 4 ≡ 0)
clear_runs code cells top c calls answers r h a =
    let here : slice_get code r.machine.pc ≡ Some (instr Li 4 0 0 0) =
    subst (λ k. slice_get code k ≡ Some (instr Li 4 0 0 0)) (sym a.place) h in
    subst (λ u. IsAt cells top (c + 1) calls answers u × (u.machine.regs 4 ≡ 0))
    (sym (one_step code r (instr Li 4 0 0 0) 0 a.going here)) (
      record {
        place = ap (λ n. n + 1) a.place;
        going = a.going;
        slots = λ i below. ap (λ y. cond (nat_lt i 7) y (word_of r.machine.memory i))
            (unslotted 4 i (word 0) r.machine.regs (omega arith)) ∙ a.slots i below;
        calls_are = a.calls_are;
        answers_are = a.answers_are;
      },
      refl,
    )

-- the words of the four arguments
abbrev four : (ℕ → ℕ) → List ℕ → ℕ → ℕ
four cells xs =
    at 3 (slice_index xs 3)
    (at 2 (slice_index xs 2) (at 1 (slice_index xs 1) (at 0 (slice_index xs 0) cells)))

-- the first cells of a program
abbrev first_cells : List ℕ → ℕ → ℕ
first_cells xs i = cond (nat_lt i 4) (slice_index xs i) 0

-- an argument goes to its slot, a register; the other arguments stay
put_argument : (code : List Instr) (cells : ℕ → ℕ) (top c : ℕ) (answers : List (ℕ × ℕ)) (i x : ℕ)
    (r : CodeRun) → i < 4 → x < 2 ^ 32 → Stands code c (instr Mov (7 + i) i 0 0 ∷ []) →
    IsAt cells top c [] answers r → r.machine.regs i ≡ x →
    IsAt (at i x cells) top (c + 1) [] answers (run code 1 r)
    × ((j : ℕ) → j < 4 → (run code 1 r).machine.regs j ≡ r.machine.regs j)
put_argument code cells top c answers i x r low small h a e = by (nat_lt i 7) (inside i low) refl
  where
    inside : (i : ℕ) → i < 4 → nat_lt i 7 ≡ true
    inside i k = grind (arith, nat_tests, k)

    apart : (i : ℕ) → i < 4 → i ≢ 5
    apart i k = grind (arith, nat_tests, k)

    by : (b : Bool) → b ≡ true → nat_lt i 7 ≡ b → IsAt (at i x cells) top (c + 1) [] answers (run code 1 r)
        × ((j : ℕ) → j < 4 → (run code 1 r).machine.regs j ≡ r.machine.regs j)
    by false is same = absurd cc
    by true is same =
        let code_is : puts i i ≡ instr Mov (7 + i) i 0 0 ∷ [] =
        ap (λ b. cond b (instr Mov (7 + i) i 0 0 ∷ []) (instr Li 5 0 0 (4 * i) ∷ instr Stw i 5 0 0 ∷ [])) same in
        let one : length (puts i i) ≡ 1 = ap (λ (ks : List Instr). length ks) code_is in
        let stands = subst (λ is. Stands code c is) (sym code_is) h in
        let p = put_slot code cells top top c [] answers i i x r (apart i low) (omega (arith, low)) small
        (λ j less k. less) stands a e in
        let l = put_leaves code c i i x r a.going a.place (apart i low) (omega (arith, low)) small e stands in (
          subst (λ n. IsAt (at i x cells) top (c + n) [] answers (run code n r)) one p,
          λ j k. subst (λ n. (run code n r).machine.regs j ≡ r.machine.regs j) one
              (l.kept j (omega (arith, k)) (apart j k)),
        )

begins : (v : ℕ) (code : List Instr) (segment : ℕ → ℕ) (xs : List ℕ) (answers : List (ℕ × ℕ)) →
    4 ≤ v → v < 1021 → AreArguments xs → Stands code 0 (prologue v)
    → IsAt (first_cells xs) v (length (prologue v)) [] answers
    (run code (length (prologue v)) (first_run 262144 segment xs answers))
begins v code segment xs answers least low fine h =
    let r = first_run 262144 segment xs answers in
    let base : ℕ → ℕ = λ i. slot_of r.machine i in
    let tail4 = instr Li 4 0 0 0 ∷ zeros_code 4 (v - 4) in
    let tail3 = puts 3 3 ++ tail4 in
    let tail2 = puts 2 2 ++ tail3 in
    let tail1 = puts 1 1 ++ tail2 in
    let h1 = stands_second code 0 (puts 0 0) tail1 h in
    let h2 = stands_second code 1 (puts 1 1) tail2 h1 in
    let h3 = stands_second code 2 (puts 2 2) tail3 h2 in
    let h4 = stands_second code 3 (puts 3 3) tail4 h3 in
    let s0 = stands_first code 0 (puts 0 0) tail1 h in
    let s1 = stands_first code 1 (puts 1 1) tail2 h1 in
    let s2 = stands_first code 2 (puts 2 2) tail3 h2 in
    let s3 = stands_first code 3 (puts 3 3) tail4 h3 in
    let a0 : IsAt base v 0 [] answers r = record {
      place = refl;
      going = refl;
      slots = λ j less. refl;
      calls_are = refl;
      answers_are = refl;
    } in
    let p1 = put_argument code base v 0 answers 0 (slice_index xs 0) r (omega arith) (fine 0) s0 a0 refl in
    let r1 = run code 1 r in
    let c1 = at 0 (slice_index xs 0) base in
    let p2 = put_argument code c1 v 1 answers 1 (slice_index xs 1) r1 (omega arith) (fine 1) s1 p1.0
    (p1.1 1 (omega arith)) in
    let r2 = run code 1 r1 in
    let c2 = at 1 (slice_index xs 1) c1 in
    let p3 = put_argument code c2 v 2 answers 2 (slice_index xs 2) r2 (omega arith) (fine 2) s2 p2.0
    (p2.1 2 (omega arith) ∙ p1.1 2 (omega arith)) in
    let r3 = run code 1 r2 in
    let c3 = at 2 (slice_index xs 2) c2 in
    let p4 = put_argument code c3 v 3 answers 3 (slice_index xs 3) r3 (omega arith) (fine 3) s3 p3.0
    (p3.1 3 (omega arith) ∙ p2.1 3 (omega arith) ∙ p1.1 3 (omega arith)) in
    let r4 = run code 1 r3 in
    let z = clear_runs code (four base xs) v 4 [] answers r4 h4.0 p4.0 in
    let n = length (zeros_code 4 (v - 4)) in
    let last = zeros_run (v - 4) 4 code (four base xs) v 5 [] answers (run code 1 r4)
    (omega (arith, low, least)) h4.1 z.0 z.1 in
    let parts = two_parts code 1 (1 + (1 + (1 + (1 + n)))) r
    ∙ two_parts code 1 (1 + (1 + (1 + n))) r1 ∙ two_parts code 1 (1 + (1 + n)) r2
    ∙ two_parts code 1 (1 + n) r3 ∙ two_parts code 1 n r4 in
    let long : 1 + (1 + (1 + (1 + (1 + n)))) ≡ length (prologue v) =
    omega (
      arith,
      length-append (puts 0 0) tail1,
      length-append (puts 1 1) tail2,
      length-append (puts 2 2) tail3,
      length-append (puts 3 3) tail4,
    ) in
    let place : 5 + n ≡ 1 + (1 + (1 + (1 + (1 + n)))) = omega arith in
    same_cells (zeroed 4 (v - 4) (four base xs)) (first_cells xs) v (length (prologue v)) [] answers
    (run code (length (prologue v)) r) (λ j less. cells_are base j less)
    (subst (λ k. IsAt (zeroed 4 (v - 4) (four base xs)) v k [] answers (run code k r)) long
    (subst (λ u. IsAt (zeroed 4 (v - 4) (four base xs)) v (1 + (1 + (1 + (1 + (1 + n))))) [] answers u) (sym parts)
    (subst (λ q. IsAt (zeroed 4 (v - 4) (four base xs)) v q [] answers (run code n (run code 1 r4))) place last)))
  where
    argument : (base : ℕ → ℕ) (j : ℕ) → j < 4 → four base xs j ≡ slice_index xs j
    argument base zero h = refl
    argument base (suc zero) h = refl
    argument base (suc (suc zero)) h = refl
    argument base (suc (suc (suc zero))) h = refl
    argument base (suc (suc (suc (suc j)))) h = absurd (omega (arith, h))

    cells_are : (base : ℕ → ℕ) (j : ℕ) → j < v → zeroed 4 (v - 4) (four base xs) j ≡ first_cells xs j
    cells_are base j less = by (nat_lt j 4) refl
      where
        inside : nat_lt j 4 ≡ true → j < 4
        inside e = grind (arith, nat_tests, e)

        outside : nat_lt j 4 ≡ false → 4 ≤ j
        outside e = grind (arith, nat_tests, e)

        by : (b : Bool) → nat_lt j 4 ≡ b → zeroed 4 (v - 4) (four base xs) j ≡ cond (nat_lt j 4) (slice_index xs j) 0
        by true e =
            zeroed_below (v - 4) 4 j (four base xs) (inside e) ∙ argument base j (inside e)
            ∙ ap (λ b. cond b (slice_index xs j) 0) (sym e)
        by false e =
            let o = outside e in
            let same : j ≡ 4 + (j - 4) = omega (arith, o) in
            ap (zeroed 4 (v - 4) (four base xs)) same
            ∙ zeroed_within (v - 4) 4 (j - 4) (four base xs) (omega (arith, o, less))
            ∙ ap (λ b. cond b (slice_index xs j) 0) (sym e)

-- ---- the end of the text

finishes : (code : List Instr) (cells : ℕ → ℕ) (v c : ℕ) (calls : List MadeCall)
    (answers : List (ℕ × ℕ)) (r : CodeRun) → 4 ≤ v → ((i : ℕ) → cells i < 2 ^ 32)
    → Stands code c epilogue → IsAt cells v c calls answers r
    → HasEnd (Answered (cells 0) (cells 1)) (run code 3 r) × ((run code 3 r).calls ≡ calls)
finishes code cells v c calls answers r least small h a =
    let second = stands_second code c (fetches 0 0) (fetches 1 1 ++ (instr Ret 0 0 0 0 ∷ [])) h in
    let f =
    fetch_runs code cells v c calls answers 0 0 r (omega arith) (omega (arith, least)) (omega arith) (small 0)
    (stands_first code c (fetches 0 0) (fetches 1 1 ++ (instr Ret 0 0 0 0 ∷ [])) h) a in
    let g = fetch_runs code cells v (c + 1) calls answers 1 1 (run code 1 r)
    (omega arith) (omega (arith, least)) (omega arith) (small 1)
    (stands_first code (c + 1) (fetches 1 1) (instr Ret 0 0 0 0 ∷ []) second) f.stands in
    let e = returned code cells v (c + 1 + 1) calls answers (cells 0) (cells 1) (run code 1 (run code 1 r))
    (stands_second code (c + 1) (fetches 1 1) (instr Ret 0 0 0 0 ∷ []) second).0 g.stands
    (g.others 0 (λ z. absurd cc) (λ z. absurd cc) ∙ f.here) g.here in
    subst (λ u. HasEnd (Answered (cells 0) (cells 1)) u × (u.calls ≡ calls))
    (sym (two_parts code 1 2 r ∙ two_parts code 1 1 (run code 1 r))) e

-- ---- code stands in itself

get_behind : (pre : List Instr) (x : Instr) (xs : List Instr) → slice_get (pre ++ (x ∷ xs)) (length pre) ≡ Some x
get_behind [] x xs = refl
get_behind (y ∷ pre) x xs = get_behind pre x xs

stands_whole : (pre xs : List Instr) → Stands (pre ++ xs) (length pre) xs
stands_whole pre [] = tt
stands_whole pre (x ∷ xs) = (
  get_behind pre x xs,
  subst (λ code. Stands code (suc (length pre)) xs) (append_assoc pre (x ∷ []) xs)
      (subst (λ n. Stands ((pre ++ (x ∷ [])) ++ xs) n xs) long (stands_whole (pre ++ (x ∷ [])) xs)),
)
  where
    long : length (pre ++ (x ∷ [])) ≡ suc (length pre)
    long = omega (arith, length-append pre (x ∷ []))

-- ---- ends

end_is : (end : End) (u : CodeRun) → HasEnd end u → end_of u ≡ Some end
end_is (Answered x y) u h =
    ap (end_by u) h.0 ∙ ap (λ k. Some (Answered k (u.machine.regs 1))) h.1 ∙ ap (λ k. Some (Answered x k)) h.2
end_is (Trapped n) u h = ap (end_by u) h
end_is DividedByZero u h = ap (end_by u) h
end_is (Asks call) u h =
    ap (end_by u) h.0
    ∙ ap (λ k. let made : MadeCall = record {
      id = call.id;
      r0 = k;
      r1 = u.machine.regs 1;
      r2 = u.machine.regs 2;
    } in Some (Asks made)) h.1
    ∙ ap (λ k. let made : MadeCall = record {
      id = call.id;
      r0 = call.r0;
      r1 = k;
      r2 = u.machine.regs 2;
    } in Some (Asks made)) h.2
    ∙ ap (λ k. let made : MadeCall = record { id = call.id; r0 = call.r0; r1 = call.r1; r2 = k } in
    Some (Asks made)) h.3
end_is Going u h = ap (end_by u) h

has_halt : (end : End) (u : CodeRun) → HasEnd end u → end ≢ Going → (halt : Halt) × (u.ended ≡ Some halt)
has_halt (Answered x y) u h other = (AtReturn, h.0)
has_halt (Trapped n) u h other = (AtTrap n, h)
has_halt DividedByZero u h other = (AtDivision, h)
has_halt (Asks call) u h other = (Unanswered call.id, h.0)
has_halt Going u h other = absurd (other refl)

halted : (u : CodeRun) (end : End) → end_of u ≡ Some end → end ≢ Going → (halt : Halt) × (u.ended ≡ Some halt)
halted u end h other = by u.ended refl h
  where
    by : (o : Option Halt) → u.ended ≡ o → end_by u o ≡ Some end → (halt : Halt) × (u.ended ≡ Some halt)
    by None e k = let same : Going ≡ end = cc in absurd (other (sym same))
    by (Some halt) e k = (halt, e)

-- a run that is over stays so
over_later : (code : List Instr) (a b : ℕ) (r : CodeRun) (halt : Halt) →
    (run code a r).ended ≡ Some halt → run code (a + b) r ≡ run code a r
over_later code a b r halt e = two_parts code a b r ∙ run_over code (run code a r) b halt e

-- ---- the whole run

-- what comes of a program with so many turns
abbrev Comes : (code : List Instr) (room n : ℕ) → CodeRun → Option End → List MadeCall → Type 0
Comes code room n r None calls = ⊥
Comes code room n r (Some Going) calls = (k : ℕ) × (n < k) × ((run code k r).ended ≡ None)
Comes code room n r (Some (Answered x y)) calls =
    (k : ℕ) × (k ≤ room) × HasEnd (Answered x y) (run code k r) × ((run code k r).calls ≡ calls)
Comes code room n r (Some (Trapped x)) calls =
    (k : ℕ) × (k ≤ room) × HasEnd (Trapped x) (run code k r) × ((run code k r).calls ≡ calls)
Comes code room n r (Some DividedByZero) calls =
    (k : ℕ) × (k ≤ room) × HasEnd DividedByZero (run code k r) × ((run code k r).calls ≡ calls)
Comes code room n r (Some (Asks call)) calls =
    (k : ℕ) × (k ≤ room) × HasEnd (Asks call) (run code k r) × ((run code k r).calls ≡ calls)

-- an end within the statements
comes_ended : (end : End) (code : List Instr) (first len n room : ℕ) (r : CodeRun) (s t : State) →
    s.turns ≡ n → first + (len + n * len) ≤ room
    → EndsSo code len len (run code first r) s t end
    → (k : ℕ) × (k ≤ room) × HasEnd end (run code k r) × ((run code k r).calls ≡ t.calls)
comes_ended end code first len n room r s t turns fits h =
    let all = two_parts code first h.steps r in
    let less : h.used * len ≤ n * len = more_turns h.used n len (omega (arith, h.turns_are, turns)) in (
      first + h.steps,
      omega (arith, h.bound, less, fits),
      subst (λ u. HasEnd end u)
          (sym all) h.has,
      ap (λ (u : CodeRun). u.calls) all ∙ h.calls_are,
    )
  where
    more_turns : (a b m : ℕ) → a ≤ b → a * m ≤ b * m
    more_turns a b m h = let e = two_turns a (b - a) m in let same : a + (b - a) ≡ b = omega (arith, h) in
        let f : (a + (b - a)) * m ≡ b * m = ap (λ k. k * m) same in omega (arith, e, f)

-- The statements of a program ran from here on: the end of the text comes where they went on.
comes_by : (code : List Instr) (v first len n : ℕ) (r : CodeRun) (s t : State) → 4 ≤ v →
    s.turns ≡ n → Stands code (first + len) epilogue
    → (o : Option End) → t.ended ≡ o → GoesBy o code len v first len (run code first r) s t
    → Comes code (first + (len + n * len) + 3) n r (at_end t).ended (at_end t).calls
comes_by code v first len n r s t least turns h None e g =
    let all = two_parts code first (g.steps + 3) r ∙ two_parts code g.steps 3 (run code first r) in
    let f = finishes code t.cells v (first + len) t.calls t.answers
    (run code g.steps (run code first r)) least g.small.cells_are h g.stands in
    let same : m.ends t (Answered (t.cells 0) (t.cells 1)) ≡ at_end t =
    ap (λ (o : Option End). elim o as (λ _. State) [
      | Some end ↦ t
      | None ↦ m.ends t (Answered (t.cells 0) (t.cells 1))
    ]) (sym e) in
    let two = two_turns g.used t.turns len in
    let n_is : n ≡ g.used + t.turns = sym turns ∙ g.turns_are in
    let times : n * len ≡ (g.used + t.turns) * len = ap (λ k. k * len) n_is in
    subst (λ (u : State). Comes code (first + (len + n * len) + 3) n r u.ended u.calls) same (
      first + (g.steps + 3),
      omega (arith, g.bound, two, times),
      subst (λ u. HasEnd (Answered (t.cells 0) (t.cells 1)) u) (sym all) f.0,
      ap (λ (u : CodeRun). u.calls) all ∙ f.1,
    )
comes_by code v first len n r s t least turns h (Some end) e g =
    let same : t ≡ at_end t =
    ap (λ (o : Option End). elim o as (λ _. State) [
      | Some x ↦ t
      | None ↦ m.ends t (Answered (t.cells 0) (t.cells 1))
    ]) (sym e) in
    subst (λ (u : State). Comes code (first + (len + n * len) + 3) n r u.ended u.calls) same
    (subst (λ (o : Option End). Comes code (first + (len + n * len) + 3) n r o t.calls) (sym e) (by end g))
  where
    room : first + (len + n * len) ≤ first + (len + n * len) + 3
    room = omega arith

    by : (end : End) → GoesBy (Some end) code len v first len (run code first r) s t →
        Comes code (first + (len + n * len) + 3) n r (Some end) t.calls
    by Going k = (
      first + k.steps,
      omega (arith, k.more, turns),
      ap (λ (u : CodeRun). u.ended)
          (two_parts code first k.steps r) ∙ k.lasts,
    )
    by (Answered x y) k = comes_ended (Answered x y) code first len n (first + (len + n * len) + 3) r s t turns room k
    by (Trapped x) k = comes_ended (Trapped x) code first len n (first + (len + n * len) + 3) r s t turns room k
    by DividedByZero k = comes_ended DividedByZero code first len n (first + (len + n * len) + 3) r s t turns room k
    by (Asks x) k = comes_ended (Asks x) code first len n (first + (len + n * len) + 3) r s t turns room k

comes : (v : ℕ) (p : Program) (segment : ℕ → ℕ) (xs : List ℕ) (answers : List (ℕ × ℕ)) (n : ℕ) →
    4 ≤ v → v < 1021 → FitsProgram v p
    → AreArguments xs → AreWords answers
    → Comes (program_code v p) (length (prologue v) + (length (statements_code v
    (length (prologue v)) p) + n * length (statements_code v (length (prologue v)) p)) + 3) n
    (first_run 262144 segment xs answers) (said p xs answers n).ended (said p xs answers n).calls
comes v p segment xs answers n least low fits small words =
    let first = prologue v in
    let stmts = statements_code v (length first) p in
    let code = program_code v p in
    let whole : Stands code 0 code = stands_whole [] code in
    let behind = stands_second code 0 first (stmts ++ epilogue) whole in
    let here : 0 + length first ≡ length first = omega arith in
    let at_stmts : Stands code (length first) (stmts ++ epilogue) =
    subst (λ c. Stands code c (stmts ++ epilogue)) here behind in
    let r = first_run 262144 segment xs answers in
    let s = going (first_cells xs) [] answers n in
    let a = begins v code segment xs answers least low small (stands_first code 0 first (stmts ++ epilogue) whole) in
    let fine : IsSmall s = record { cells_are = λ i. cell_small i (nat_lt i 4); answers_are = words } in
    let g = statements_run p code (length stmts) v (length first) (first_cells xs) [] answers n
    (run code (length first) r) fine fits
    (stands_first code (length first) stmts epilogue at_stmts) (omega arith) a in
    comes_by code v (length first) (length stmts) n r s (does p s) least refl
    (stands_second code (length first) stmts epilogue at_stmts) (does p s).ended refl g
  where
    cell_small : (i : ℕ) (b : Bool) → cond b (slice_index xs i) 0 < 2 ^ 32
    cell_small i true = small i
    cell_small i false = omega arith

-- ---- both directions

-- a comparison of ends that aren't Going
ended_comes : (code : List Instr) (room n : ℕ) (r : CodeRun) (end : End) (calls : List MadeCall) →
    end ≢ Going → Comes code room n r (Some end) calls
    → (k : ℕ) × (k ≤ room) × HasEnd end (run code k r) × ((run code k r).calls ≡ calls)
ended_comes code room n r Going calls other h = absurd (other refl)
ended_comes code room n r (Answered x y) calls other h = h
ended_comes code room n r (Trapped x) calls other h = h
ended_comes code room n r DividedByZero calls other h = h
ended_comes code room n r (Asks x) calls other h = h

forth_by : (code : List Instr) (room n most : ℕ) (r : CodeRun) (end : End) (calls : List MadeCall) →
    end ≢ Going → room ≤ most
    → Comes code room n r (Some end) calls → (end_of (run code most r) ≡ Some end) × ((run code most r).calls ≡ calls)
forth_by code room n most r end calls other fits h =
    let c = ended_comes code room n r end calls other h in
    let halt = has_halt end (run code c.0 r) c.2 other in
    let same : c.0 + (most - c.0) ≡ most = omega (arith, c.1, fits) in
    let e : run code most r ≡ run code c.0 r = ap (λ k. run code k r) (sym same)
    ∙ over_later code c.0 (most - c.0) r halt.0 halt.1 in
    (ap end_of e ∙ end_is end (run code c.0 r) c.2, ap (λ (u : CodeRun). u.calls) e ∙ c.3)

back_by : (code : List Instr) (room n : ℕ) (r : CodeRun) (end : End) (calls : List MadeCall) →
    end ≢ Going → end_of (run code n r) ≡ Some end
    → (o : Option End) → Comes code room n r o calls → (o ≡ Some end) × (calls ≡ (run code n r).calls)
back_by code room n r end calls other is None h = absurd h
back_by code room n r end calls other is (Some e) h = by e h
  where
    halt : (x : Halt) × ((run code n r).ended ≡ Some x)
    halt = halted (run code n r) end is other

    ended : (e : End) → (k : ℕ) × (k ≤ room) × HasEnd e (run code k r) × ((run code k r).calls ≡ calls) → e ≢ Going
        → (Some e ≡ Some end) × (calls ≡ (run code n r).calls)
    ended e c real =
        let stop = has_halt e (run code c.0 r) c.2 real in
        let turned : n + c.0 ≡ c.0 + n = omega arith in
        let same : run code n r ≡ run code c.0 r =
        sym (over_later code n c.0 r halt.0 halt.1) ∙ ap (λ k. run code k r) turned
        ∙ over_later code c.0 n r stop.0 stop.1 in (
          sym (end_is e (run code c.0 r) c.2) ∙ ap end_of (sym same) ∙ is,
          sym c.3
              ∙ ap (λ (u : CodeRun). u.calls) (sym same),
        )

    by : (e : End) → Comes code room n r (Some e) calls → (Some e ≡ Some end) × (calls ≡ (run code n r).calls)
    by Going c =
        let same : n + (c.0 - n) ≡ c.0 = omega (arith, c.1) in
        let e : run code c.0 r ≡ run code n r = ap (λ k. run code k r) (sym same)
        ∙ over_later code n (c.0 - n) r halt.0 halt.1 in
        let wrong : None ≡ Some halt.0 = sym c.2 ∙ ap (λ (u : CodeRun). u.ended) e ∙ halt.1 in absurd cc
    by (Answered x y) c = ended (Answered x y) c (λ z. cc)
    by (Trapped x) c = ended (Trapped x) c (λ z. cc)
    by DividedByZero c = ended DividedByZero c (λ z. cc)
    by (Asks x) c = ended (Asks x) c (λ z. cc)

-- all instructions of each turn, and once more
enough : (n first len : ℕ) → first + (len + n * len) + 3 ≤ (n + 1) * (first + (len + 3))
enough n first len =
    let a : (n + 1) * (first + (len + 3)) ≡ n * (first + (len + 3)) + 1 * (first + (len + 3)) =
    two_turns n 1 (first + (len + 3)) in
    let b : n * (first + (len + 3)) ≡ n * len + n * (first + 3) = grind arith in omega (arith, a, b)

-- how many instructions the statements of a program have
abbrev body_length : (v : ℕ) → Program → ℕ
body_length v p = length (statements_code v (length (prologue v)) p)

pub programs_run : ProgramsRun
programs_run v p least low fits =
    record {
      forth = λ segment xs answers n end small words other is.
          forth_by (program_code v p) (length (prologue v) + (body_length v p + n * body_length v p)
          + 3) n ((n + 1) * length (program_code v p))
          (first_run 262144 segment xs answers) end (said p xs answers n).calls other
          (subst (λ k. length (prologue v) + (body_length v p + n * body_length v p) + 3
          ≤ (n + 1) * k) (sym long) (enough n (length (prologue v)) (body_length v p)))
          (subst (λ (o : Option End). Comes (program_code v p)
          (length (prologue v) + (body_length v p + n * body_length v p) + 3) n
          (first_run 262144 segment xs answers) o (said p xs answers n).calls)
          is (comes v p segment xs answers n least low fits small words));
      back = λ segment xs answers n end small words other is.
          back_by (program_code v p) (length (prologue v) + (body_length v p + n * body_length v p)
          + 3) n (first_run 262144 segment xs answers) end (said p xs answers n).calls other is
          (said p xs answers n).ended (comes v p segment xs answers n least low fits small words);
    }
  where
    long : length (program_code v p) ≡ length (prologue v) + (length (statements_code v (length (prologue v)) p) + 3)
    long =
        omega (
          arith,
          length-append (prologue v) (statements_code v (length (prologue v)) p
              ++ epilogue),
          length-append (statements_code v (length (prologue v)) p) epilogue,
        )
