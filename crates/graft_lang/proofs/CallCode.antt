-- The code of a call: its arguments come to the registers, and its answer to the variable.
use Rattle.std.specs.Prelude.{◌≡◌, ℕ, zero, suc, ◌+◌, ◌^◌, ◌<◌, ◌≤◌, Bool, true, false, cond, nat_lt, ◌==◌, List, []}
use Rattle.std.specs.Prelude.{◌∷◌, ◌++◌, length, slice_get, Option, Some, None}
use Rattle.std.proofs.Common.{arith, refl, subst, sym, ap, ◌∙◌}
use Rattle.std.proofs.lemmas.Bool.Decides.{nat_tests}
use Rattle.std.proofs.lemmas.List.{length-append}
use Rattle.graft_texts.specs.declared.Instr.{Instr}
use Rattle.graft_texts.specs.declared.Op.TheVariants.{Li, Call}
use Rattle.graft_texts.specs.Boxed.{instr}
use Rattle.graft_texts.specs.Objects.{at}
use Rattle.graft_texts.specs.Machine.{Machine, word, calls}
use Rattle.graft_texts.specs.Runs.{CodeRun, MadeCall, AtDivision, answered_call, counted_access}
use Rattle.graft_texts.specs.LanguageMeaning as m
use Rattle.graft_texts.specs.LanguageMeaning.{Expression, End, Asks, DividedByZero, State, value, values, value_before}
use Rattle.graft_texts.specs.LanguageMeaning.{made_call}
use Rattle.graft_lang.specs.Code.{fetches, puts, expression_code, arguments_code, registers_code}
use Rattle.graft_lang.specs.Placing.{Stands, word_of, IsAt, ComesTo}
use Rattle.graft_lang.specs.Going.{run, going, IsSmall, HasEnd, Goes, AllFit}
use Rattle.graft_lang.proofs.Slots.{one_step, two_parts, stands_first, stands_second, put_slot, put_runs, fetch_runs}
use Rattle.graft_lang.proofs.Slots.{unslotted}
use Rattle.graft_lang.proofs.Running.{expressions_run, value_small, value_same, all_small}

-- ---- lists of values

-- the value at a place, and 0 behind the last
abbrev pub nth : List ℕ → ℕ → ℕ
nth [] j = 0
nth (x ∷ xs) zero = x
nth (x ∷ xs) (suc j) = nth xs j

made_call-nth : (id : ℕ) (xs : List ℕ) →
    made_call id xs ≡ record { id = id; r0 = nth xs 0; r1 = nth xs 1; r2 = nth xs 2 }
made_call-nth id [] = refl
made_call-nth id (x ∷ []) = refl
made_call-nth id (x ∷ y ∷ []) = refl
made_call-nth id (x ∷ y ∷ z ∷ xs) = refl

-- values in the slots from `top` on
abbrev pub stored : (top : ℕ) → List ℕ → (ℕ → ℕ) → ℕ → ℕ
stored top [] cells = cells
stored top (x ∷ xs) cells = stored (suc top) xs (at top x cells)

at_other : (i j x : ℕ) (cells : ℕ → ℕ) → j < i → at i x cells j ≡ cells j
at_other i j x cells h = grind (arith, nat_tests, h)

at_own : (i x : ℕ) (cells : ℕ → ℕ) → at i x cells i ≡ x
at_own i x cells = grind (arith, nat_tests)

stored_below : (xs : List ℕ) (top j : ℕ) (cells : ℕ → ℕ) → j < top → stored top xs cells j ≡ cells j
stored_below [] top j cells h = refl
stored_below (x ∷ xs) top j cells h =
    stored_below xs (suc top) j (at top x cells) (omega (arith, h)) ∙ at_other top j x cells h

stored_at : (xs : List ℕ) (top j : ℕ) (cells : ℕ → ℕ) → j < length xs → stored top xs cells (top + j) ≡ nth xs j
stored_at [] top j cells h = absurd (omega (arith, h))
stored_at (x ∷ xs) top zero cells h =
    let here : top + 0 ≡ top = omega arith in
    ap (stored (suc top) xs (at top x cells)) here
    ∙ stored_below xs (suc top) top (at top x cells) (omega arith) ∙ at_own top x cells
stored_at (x ∷ xs) top (suc j) cells h =
    let there : top + suc j ≡ suc top + j = omega arith in
    ap (stored (suc top) xs (at top x cells)) there ∙ stored_at xs (suc top) j (at top x cells) (omega (arith, h))

values_same : (es : List Expression) (cells : ℕ → ℕ) (v top place x : ℕ) → v ≤ place →
    AllFit v top es → values (at place x cells) es ≡ values cells es
values_same [] cells v top place x low fits = refl
values_same (e ∷ es) cells v top place x low fits =
    ap (λ y. value_before y (values (at place x cells) es)) (value_same cells v top place x e low fits.1)
    ∙ ap (value_before (value cells e)) (values_same es cells v (suc top) place x low fits.2)

-- ---- arguments come to their slots

-- arguments of these values, from this slot on
pub record Stored (cells : ℕ → ℕ) (top c len : ℕ) (calls : List MadeCall) (answers : List (ℕ × ℕ))
    (es : List Expression) (xs : List ℕ) (u : CodeRun) : Type 0 where
  pub stands : IsAt (stored top xs cells) (top + length es) (c + len) calls answers u
  pub fine : (j : ℕ) → nth xs j < 2 ^ 32
  pub as_many : length xs ≡ length es

abbrev pub AllCome : (cells : ℕ → ℕ) (top c len : ℕ) → List MadeCall → List (ℕ × ℕ) → List Instr →
    CodeRun → List Expression → Option (List ℕ) → Type 0
AllCome cells top c len calls answers code r es None =
    (n : ℕ) × (n ≤ len) × ((run code n r).ended ≡ Some AtDivision) × ((run code n r).calls ≡ calls)
AllCome cells top c len calls answers code r es (Some xs) = Stored cells top c len calls answers es xs (run code len r)

pub arguments_run : (es : List Expression) (code : List Instr) (cells : ℕ → ℕ) (v top c : ℕ)
    (calls : List MadeCall) (answers : List (ℕ × ℕ)) (r : CodeRun)
    → ((i : ℕ) → cells i < 2 ^ 32) → v ≤ top → AllFit v top es →
    Stands code c (arguments_code top es) → IsAt cells top c calls answers r
    → AllCome cells top c (length (arguments_code top es)) calls answers code r es (values cells es)
arguments_run [] code cells v top c calls answers r small low fits h a =
    let here : c ≡ c + 0 = omega arith in
    let same : top ≡ top + 0 = omega arith in
    record {
      stands =
          subst (λ n. IsAt cells n (c + 0) calls answers r) same
          (subst (λ n. IsAt cells top n calls answers r) here a);
      fine = λ j. omega arith;
      as_many = refl;
    }
arguments_run (e ∷ es) code cells v top c calls answers r small low fits h a =
    let first = expression_code top e in
    let others = arguments_code (suc top) es in
    let long : length first + (length (puts 4 top) + length others) ≡ length (first ++ (puts 4 top ++ others)) =
    omega (arith, length-append first (puts 4 top ++ others), length-append (puts 4 top) others) in
    subst (λ n. AllCome cells top c n calls answers code r
    (e ∷ es) (value_before (value cells e) (values cells es))) long
    (by (value cells e) refl (expressions_run e code cells v top c calls answers r small fits.1
    (stands_first code c first (puts 4 top ++ others) h) a)
    (λ x low_x u there. arguments_run es code (at top x cells) v (suc top) (c + length first + length (puts 4 top))
    calls answers u (all_small cells top x small low_x) (omega (arith, low)) fits.2
    (stands_second code (c + length first) (puts 4 top) others
    (stands_second code c first (puts 4 top ++ others) h)) there))
  where
    len : ℕ
    len = length (expression_code top e)

    second : (x : ℕ) → x < 2 ^ 32 → (ys : Option (List ℕ))
        → AllCome (at top x cells) (suc top) (c + length (expression_code top e) + length (puts 4 top))
        (length (arguments_code (suc top) es)) calls answers code
        (run code (length (puts 4 top)) (run code (length (expression_code top e)) r)) es ys
        → AllCome cells top c (length (expression_code top e) + (length (puts 4 top) + length
        (arguments_code (suc top) es))) calls answers code r (e ∷ es) (value_before (Some x) ys)
    second x small_x None k =
        let n = length (expression_code top e) in
        let all = two_parts code n (length (puts 4 top) + k.0) r
        ∙ two_parts code (length (puts 4 top)) k.0 (run code n r) in (
          n + (length (puts 4 top) + k.0),
          omega (arith, k.1),
          ap (λ (u : CodeRun). u.ended) all
              ∙ k.2,
          ap (λ (u : CodeRun). u.calls) all ∙ k.3,
        )
    second x small_x (Some xs) k =
        let n = length (expression_code top e) in
        let more = length (arguments_code (suc top) es) in
        let all = two_parts code n (length (puts 4 top) + more) r
        ∙ two_parts code (length (puts 4 top)) more (run code n r) in
        let there : c + n + length (puts 4 top) + more ≡ c + (n + (length (puts 4 top) + more)) = omega arith in
        let up : suc top + length es ≡ top + suc (length es) = omega arith in
        record {
          stands =
              subst (λ u. IsAt (stored (suc top) xs (at top x cells)) (top + suc (length es))
              (c + (n + (length (puts 4 top) + more))) calls answers u) (sym all)
              (subst (λ q. IsAt (stored (suc top) xs (at top x cells)) (top + suc (length es)) q
              calls answers (run code more (run code (length (puts 4 top)) (run code n r)))) there
              (subst (λ t. IsAt (stored (suc top) xs (at top x cells)) t (c + n + length (puts 4 top) + more) calls
              answers (run code more (run code (length (puts 4 top)) (run code n r)))) up k.stands));
          fine = at_first xs x small_x k.fine;
          as_many = ap suc k.as_many;
        }
      where
        at_first : (xs : List ℕ) (x : ℕ) → x < 2 ^ 32 → ((j : ℕ) → nth xs j < 2 ^ 32) → (j : ℕ) →
            nth (x ∷ xs) j < 2 ^ 32
        at_first xs x low fine zero = low
        at_first xs x low fine (suc j) = fine j

    by : (x : Option ℕ) → value cells e ≡ x →
        ComesTo cells top c (length (expression_code top e)) calls answers code r x
        → ((x : ℕ) → x < 2 ^ 32 → (u : CodeRun) →
        IsAt (at top x cells) (suc top) (c + length (expression_code top e) + length (puts 4 top)) calls answers u
        → AllCome (at top x cells) (suc top) (c + length (expression_code top e) + length (puts 4 top)) (length
        (arguments_code (suc top) es)) calls answers code u es (values (at top x cells) es))
        → AllCome cells top c
        (length (expression_code top e) + (length (puts 4 top) + length (arguments_code (suc top) es))) calls
        answers code r (e ∷ es) (value_before x (values cells es))
    by None is k later = (k.0, omega (arith, k.1), k.2, k.3)
    by (Some x) is k later =
        let small_x = value_small cells v top e x small fits.1 is in
        let p = put_runs code cells top (c + length (expression_code top e)) calls answers 4 x
        (run code (length (expression_code top e)) r) (λ z. absurd cc) fits.0 small_x
        (stands_first code (c + length (expression_code top e)) (puts 4 top) (arguments_code (suc top) es)
        (stands_second code c (expression_code top e) (puts 4 top ++ arguments_code (suc top) es) h)) k.0 k.1 in
        subst (λ ys. AllCome cells top c
        (length (expression_code top e) + (length (puts 4 top) + length (arguments_code (suc top) es))) calls
        answers code r (e ∷ es) (value_before (Some x) ys))
        (values_same es cells v (suc top) top x low fits.2)
        (second x small_x (values (at top x cells) es)
        (later x small_x (run code (length (puts 4 top)) (run code (length (expression_code top e)) r)) p))

-- ---- arguments come to the registers

-- so many registers from this one on have these values, and zeros behind them; those before are as they were
pub record Loaded (cells : ℕ → ℕ) (top c len : ℕ) (calls : List MadeCall) (answers : List (ℕ × ℕ))
    (reg left : ℕ) (xs : List ℕ) (u r : CodeRun) : Type 0 where
  pub stands : IsAt cells top (c + len) calls answers u
  pub loaded : (j : ℕ) → j < left → u.machine.regs (reg + j) ≡ nth xs j
  pub kept : (i : ℕ) → i < reg → u.machine.regs i ≡ r.machine.regs i

-- one register was loaded in some instructions, and the others behind it
loads_on : (code : List Instr) (cells : ℕ → ℕ) (top c n len : ℕ) (calls : List MadeCall)
    (answers : List (ℕ × ℕ)) (reg left x : ℕ) (xs : List ℕ) (r : CodeRun)
    → (run code n r).machine.regs reg ≡ x → ((i : ℕ) → i < reg → (run code n r).machine.regs i ≡ r.machine.regs i)
    → Loaded cells top (c + n) len calls answers (suc reg) left xs (run code len (run code n r)) (run code n r)
    → (ys : List ℕ) → nth ys 0 ≡ x → ((j : ℕ) → nth ys (suc j) ≡ nth xs j)
    → Loaded cells top c (n + len) calls answers reg (suc left) ys (run code (n + len) r) r
loads_on code cells top c n len calls answers reg left x xs r here before h ys first others =
    let there : c + n + len ≡ c + (n + len) = omega arith in
    subst (λ u. Loaded cells top c (n + len) calls answers reg (suc left) ys u r) (sym (two_parts code n len r))
    (record {
      stands = subst (λ q. IsAt cells top q calls answers (run code len (run code n r))) there h.stands;
      loaded = by;
      kept = λ i below. h.kept i (omega (arith, below)) ∙ before i below;
    })
  where
    by : (j : ℕ) → j < suc left → (run code len (run code n r)).machine.regs (reg + j) ≡ nth ys j
    by zero below =
        let same : reg + 0 ≡ reg = omega arith in
        ap (run code len (run code n r)).machine.regs same ∙ h.kept reg (omega arith) ∙ here ∙ sym first
    by (suc j) below =
        let same : reg + suc j ≡ suc reg + j = omega arith in
        ap (run code len (run code n r)).machine.regs same ∙ h.loaded j (omega (arith, below)) ∙ sym (others j)

-- a register becomes 0
cleared : (code : List Instr) (cells : ℕ → ℕ) (top c : ℕ) (calls : List MadeCall)
    (answers : List (ℕ × ℕ)) (reg : ℕ) (r : CodeRun)
    → reg < 7 → slice_get code c ≡ Some (instr Li reg 0 0 0) → IsAt cells top c calls answers r
    → IsAt cells top (c + 1) calls answers (run code 1 r) × ((run code 1 r).machine.regs reg ≡ 0)
    × ((i : ℕ) → i < reg → (run code 1 r).machine.regs i ≡ r.machine.regs i)
cleared code cells top c calls answers reg r low h a =
    let here : slice_get code r.machine.pc ≡ Some (instr Li reg 0 0 0) =
    subst (λ k. slice_get code k ≡ Some (instr Li reg 0 0 0)) (sym a.place) h in
    subst (λ u. IsAt cells top (c + 1) calls answers u × (u.machine.regs reg ≡ 0)
    × ((i : ℕ) → i < reg → u.machine.regs i ≡ r.machine.regs i))
    (sym (one_step code r (instr Li reg 0 0 0) 0 a.going here)) (
      record {
        place = ap (λ n. n + 1) a.place;
        going = a.going;
        slots = λ i below. ap (λ y. cond (nat_lt i 7) y (word_of r.machine.memory i))
            (unslotted reg i (word 0) r.machine.regs low) ∙ a.slots i below;
        calls_are = a.calls_are;
        answers_are = a.answers_are;
      },
      at_own reg (word 0) r.machine.regs,
      λ i below. at_other reg i (word 0) r.machine.regs below,
    )

pub registers_run : (left : ℕ) (es : List Expression) (xs : List ℕ) (code : List Instr) (cells : ℕ →
    ℕ) (bound top c : ℕ) (calls : List MadeCall) (answers : List (ℕ × ℕ)) (reg : ℕ) (r : CodeRun)
    → reg + left ≤ 5 → length xs ≡ length es →
    ((j : ℕ) → j < length xs → cells (top + j) ≡ nth xs j) → ((j : ℕ) → nth xs j < 2 ^ 32)
    → top + length es ≤ bound → bound ≤ 1024 → Stands code c (registers_code reg top left es) →
    IsAt cells bound c calls answers r
    → Loaded cells bound c (length (registers_code reg top left es)) calls answers reg left xs
    (run code (length (registers_code reg top left es)) r) r
registers_run zero es xs code cells bound top c calls answers reg r room same slots fine low high h a =
    let here : c ≡ c + 0 = omega arith in
    record {
      stands = subst (λ q. IsAt cells bound q calls answers r) here a;
      loaded = λ j below. absurd (omega (arith, below));
      kept = λ i below. refl;
    }
registers_run (suc left) [] [] code cells bound top c calls answers reg r room same slots fine low high h a =
    let one = cleared code cells bound c calls answers reg r (omega (arith, room)) h.0 a in
    let there : suc c ≡ c + 1 = omega arith in
    let len = length (registers_code (suc reg) top left []) in
    let long : 1 + len ≡ suc len = omega arith in
    subst (λ n. Loaded cells bound c n calls answers reg (suc left) [] (run code n r) r) long
    (loads_on code cells bound c 1 len calls answers reg left 0 [] r one.1 one.2
    (registers_run left [] [] code cells bound top (c + 1) calls answers (suc reg) (run code 1 r)
    (omega (arith, room)) refl slots fine low high
    (subst (λ q. Stands code q (registers_code (suc reg) top left [])) there h.1) one.0)
    [] refl (λ j. refl))
registers_run (suc left) [] (x ∷ xs) code cells bound top c calls answers reg r room same slots fine
    low high h a =
    absurd (omega (arith, same))
registers_run (suc left) (e ∷ es) [] code cells bound top c calls answers reg r room same slots fine
    low high h a =
    absurd (omega (arith, same))
registers_run (suc left) (e ∷ es) (x ∷ xs) code cells bound top c calls answers reg r room same
    slots fine low high h a =
    let zeroth : top + 0 ≡ top = omega arith in
    let slot : cells top ≡ x = sym (ap cells zeroth) ∙ slots 0 (omega arith) in
    let low_top : top < bound = omega (arith, low) in
    let n = length (fetches reg top) in
    let f = fetch_runs code cells bound c calls answers reg top r (omega (arith, room)) low_top
    (omega (arith, low_top, high)) (subst (λ n. n < 2 ^ 32) (sym slot) (fine 0))
    (stands_first code c (fetches reg top) (registers_code (suc reg) (suc top) left es) h) a in
    let len = length (registers_code (suc reg) (suc top) left es) in
    let long : n + len ≡ length (fetches reg top ++ registers_code (suc reg) (suc top) left es) =
    sym (length-append (fetches reg top) (registers_code (suc reg) (suc top) left es)) in
    subst (λ k. Loaded cells bound c k calls answers reg (suc left) (x ∷ xs) (run code k r) r) long
    (loads_on code cells bound c n len calls answers reg left x xs r (f.here ∙ slot)
    (λ i below. f.others i (λ z. absurd (omega (arith, z, below, room))) (λ z. absurd (omega (arith, z, below))))
    (registers_run left es xs code cells bound (suc top) (c + n) calls answers (suc reg)
    (run code n r) (omega (arith, room)) (omega (arith, same))
    (λ j below. let there : suc top + j ≡ top + suc j = omega arith in ap cells there
    ∙ slots (suc j) (omega (arith, below))) (λ j. fine (suc j)) (omega (arith, low)) high
    (stands_second code c (fetches reg top) (registers_code (suc reg) (suc top) left es) h) f.stands)
    (x ∷ xs) refl (λ j. refl))

-- ---- the call

-- a run at a call with these values in r0 to r2
called : (code : List Instr) (id : ℕ) (cells : ℕ → ℕ) (top c : ℕ) (calls : List MadeCall)
    (answers : List (ℕ × ℕ)) (r : CodeRun)
    → slice_get code c ≡ Some (instr Call 0 0 0 id) → IsAt cells top c calls answers r
    → run code 1 r ≡ answered_call id (record {
      regs = r.machine.regs;
      pc = r.machine.pc + 1;
      memory = r.machine.memory;
    }) (counted_access false r) answers
called code id cells top c calls answers r h a =
    let here : slice_get code r.machine.pc ≡ Some (instr Call 0 0 0 id) =
    subst (λ k. slice_get code k ≡ Some (instr Call 0 0 0 id)) (sym a.place) h in
    one_step code r (instr Call 0 0 0 id) 0 a.going here
    ∙ ap (answered_call id (record {
      regs = r.machine.regs;
      pc = r.machine.pc + 1;
      memory = r.machine.memory;
    }) (counted_access false r)) a.answers_are

-- r0 has the answer
answer_in_r0 : (b : Bool) (pair : ℕ × ℕ) (regs : ℕ → ℕ) →
    cond b (at 1 pair.1 (at 0 pair.0 regs)) (at 0 pair.0 regs) 0 ≡ pair.0
answer_in_r0 true pair regs = refl
answer_in_r0 false pair regs = refl

-- the answer changes no register of a slot
answer_unslotted : (b : Bool) (pair : ℕ × ℕ) (regs : ℕ → ℕ) (i : ℕ) →
    cond b (at 1 pair.1 (at 0 pair.0 regs)) (at 0 pair.0 regs) (7 + i) ≡ regs (7 + i)
answer_unslotted true pair regs i =
    unslotted 1 i pair.1 (at 0 pair.0 regs) (omega arith) ∙ unslotted 0 i pair.0 regs (omega arith)
answer_unslotted false pair regs i = unslotted 0 i pair.0 regs (omega arith)

-- what comes behind the registers: the call, and its answer goes to the variable
pub answered_goes : (i id : ℕ) (xs : List ℕ) (code : List Instr) (most v top c n : ℕ)
    (cells all : ℕ → ℕ) (calls : List MadeCall) (answers : List (ℕ × ℕ)) (turns : ℕ) (r : CodeRun)
    (c0 len : ℕ) → i < v → v ≤ top → i < 1024 → ((j : ℕ) → j < v → all j ≡ cells j) →
    IsSmall (going cells calls answers turns)
    → Stands code c (instr Call 0 0 0 id ∷ puts 0 i) → IsAt all top c calls answers (run code n r)
    → (run code n r).machine.regs 0 ≡ nth xs 0 → (run code n r).machine.regs 1 ≡ nth xs 1 →
    (run code n r).machine.regs 2 ≡ nth xs 2
    → c + (1 + length (puts 0 i)) ≡ c0 + len → n + (1 + length (puts 0 i)) ≤ len
    → Goes code most v c0 len r (going cells calls answers turns)
    (m.answers_call i (made_call id xs) (going cells calls answers turns) answers)
answered_goes i id xs code most v top c n cells all calls [] turns r c0 len below low high same
    small h a r0 r1 r2 place room =
    let call = called code id all top c calls [] (run code n r) h.0 a in
    let made = made_call-nth id xs in
    let both = two_parts code n 1 r ∙ call in
    let wanted : HasEnd (Asks (record { id = id; r0 = nth xs 0; r1 = nth xs 1; r2 = nth xs 2 })) (run code (n + 1) r) =
    subst (λ u. HasEnd (Asks (record { id = id; r0 = nth xs 0; r1 = nth xs 1; r2 = nth xs 2 })) u)
    (sym both) (refl, r0, r1, r2) in
    record {
      steps = n + 1;
      used = 0;
      turns_are = omega arith;
      bound = omega (arith, room);
      has = subst (λ k. HasEnd (Asks k) (run code (n + 1) r)) (sym made) wanted;
      calls_are = ap (λ (u : CodeRun). u.calls) both ∙ a.calls_are;
    }
answered_goes i id xs code most v top c n cells all calls (pair ∷ pairs) turns r c0 len below low
    high same small h a r0 r1 r2 place room =
    let m0 : Machine = record {
      regs = (run code n r).machine.regs;
      pc = (run code n r).machine.pc + 1;
      memory = (run code n r).machine.memory;
    } in
    let made : MadeCall = record { id = id; r0 = m0.regs 0; r1 = m0.regs 1; r2 = m0.regs 2 } in
    let w = run code 1 (run code n r) in
    let call = called code id all top c calls (pair ∷ pairs) (run code n r) h.0 a in
    let is : made ≡ made_call id xs =
    ap (λ k. let x : MadeCall = record { id = id; r0 = k; r1 = m0.regs 1; r2 = m0.regs 2 } in x) r0
    ∙ ap (λ k. let x : MadeCall = record { id = id; r0 = nth xs 0; r1 = k; r2 = m0.regs 2 } in x) r1
    ∙ ap (λ k. let x : MadeCall = record { id = id; r0 = nth xs 0; r1 = nth xs 1; r2 = k } in x) r2
    ∙ sym (made_call-nth id xs) in
    let after : IsAt all top (c + 1) (calls ++ made_call id xs ∷ []) pairs w =
    subst (λ u. IsAt all top (c + 1) (calls ++ made_call id xs ∷ []) pairs u) (sym call)
    (record {
      place = ap (λ k. k + 1) a.place;
      going = a.going;
      slots = λ i below. ap (λ y. cond (nat_lt i 7) y (word_of m0.memory i))
          (answer_unslotted (id == 13) pair m0.regs i) ∙ a.slots i below;
      calls_are = ap (λ (cs : List MadeCall). cs ++ made ∷ []) a.calls_are ∙ ap (λ (k : MadeCall). calls ++ k ∷ []) is;
      answers_are = refl;
    }) in
    let in_r0 : w.machine.regs 0 ≡ pair.0 = ap (λ (u : CodeRun). u.machine.regs 0) call
    ∙ answer_in_r0 (id == 13) pair m0.regs in
    let there : suc c ≡ c + 1 = omega arith in
    let q = length (puts 0 i) in
    let p = put_slot code all top top (c + 1) (calls ++ made_call id xs ∷ []) pairs 0 i pair.0 w (λ z. absurd cc) high
    small.answers_are.0 (λ j less k. less) (subst (λ q. Stands code q (puts 0 i)) there h.1) after in_r0 in
    let three = two_parts code n (1 + q) r ∙ two_parts code 1 q (run code n r) in
    let place3 : c + 1 + q ≡ c0 + len = omega (arith, place) in
    record {
      steps = n + (1 + q);
      used = 0;
      turns_are = omega arith;
      least = omega arith;
      bound = omega (arith, room);
      stands = subst (λ u. IsAt (at i pair.0 cells) v (c0 + len) (calls ++ made_call id xs ∷ []) pairs u) (sym three)
          (subst (λ k. IsAt (at i pair.0 cells) v k (calls ++ made_call id xs ∷ []) pairs (run code q w)) place3
          (record {
            place = p.place;
            going = p.going;
            slots = λ j less. p.slots j (omega (arith, less, low)) ∙ ap (λ k. cond (j == i) pair.0 k) (same j less);
            calls_are = p.calls_are;
            answers_are = p.answers_are;
          }));
      small =
          record {
            cells_are = all_small cells i pair.0 small.cells_are small.answers_are.0;
            answers_are = small.answers_are.2;
          };
    }

pub call_goes : (i id : ℕ) (es : List Expression) (code : List Instr) (most v c : ℕ) (cells : ℕ → ℕ)
    (calls : List MadeCall) (answers : List (ℕ × ℕ)) (turns : ℕ) (r : CodeRun)
    → i < v → v + length es ≤ 1024 → AllFit v v es
    → Stands code c (arguments_code v es ++ (registers_code 0 v 3 es ++ (instr Call 0 0 0 id ∷ puts 0 i)))
    → IsSmall (going cells calls answers turns) → IsAt cells v c calls answers r
    → Goes code most v c (length (arguments_code v es) + (length (registers_code 0 v 3 es) + (1 + length (puts 0 i)))) r
    (going cells calls answers turns)
    (m.calls i id (going cells calls answers turns) (values cells es))
call_goes i id es code most v c cells calls answers turns r below low fits h small a =
    by (values cells es)
    (arguments_run es code cells v v c calls answers r small.cells_are (omega arith) fits
    (stands_first code c (arguments_code v es) (registers_code 0 v 3 es ++ (instr Call 0 0 0 id ∷ puts 0 i)) h) a)
  where
    by : (ys : Option (List ℕ)) → AllCome cells v c (length (arguments_code v es)) calls answers code r es ys
        → Goes code most v c
        (length (arguments_code v es) + (length (registers_code 0 v 3 es) + (1 + length (puts 0 i))))
        r (going cells calls answers turns)
        (m.calls i id (going cells calls answers turns) ys)
    by None k =
        record {
          steps = k.0;
          used = 0;
          turns_are = omega arith;
          bound = omega (arith, k.1);
          has = k.2;
          calls_are = k.3;
        }
    by (Some xs) k =
        let n = length (arguments_code v es) in
        let q = length (registers_code 0 v 3 es) in
        let behind = stands_second code c (arguments_code v es)
        (registers_code 0 v 3 es ++ (instr Call 0 0 0 id ∷ puts 0 i)) h in
        let l = registers_run 3 es xs code (stored v xs cells) (v + length es) v (c + n) calls
        answers 0 (run code n r) (omega arith) k.as_many
        (λ j less. stored_at xs v j cells less) k.fine (omega arith) low
        (stands_first code (c + n) (registers_code 0 v 3 es) (instr Call 0 0 0 id ∷ puts 0 i) behind) k.stands in
        let last = stands_second code (c + n) (registers_code 0 v 3 es) (instr Call 0 0 0 id ∷ puts 0 i) behind in
        let both = two_parts code n q r in
        let u = run code q (run code n r) in
        answered_goes i id xs code most v (v + length es) (c + n + q) (n + q) cells
        (stored v xs cells) calls answers turns r c (n + (q + (1 + length (puts 0 i)))) below (omega arith)
        (omega (arith, low, below))
        (λ j less. stored_below xs v j cells less) small last
        (subst (λ w. IsAt (stored v xs cells) (v + length es) (c + n + q) calls answers w) (sym both) l.stands)
        (ap (λ (w : CodeRun). w.machine.regs 0) both ∙ l.loaded 0 (omega arith))
        (ap (λ (w : CodeRun). w.machine.regs 1) both ∙ l.loaded 1 (omega arith))
        (ap (λ (w : CodeRun). w.machine.regs 2) both ∙ l.loaded 2 (omega arith))
        (omega arith) (omega arith)
