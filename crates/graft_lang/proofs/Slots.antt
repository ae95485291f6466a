-- Runs of code, and what moves a value to a slot or from it.
use Rattle.std.specs.Prelude.{◌≡◌, ◌≢◌, ℕ, zero, suc, ◌+◌, ◌-◌, ◌*◌, ◌^◌, ◌<◌, Bool, true, false, cond}
use Rattle.std.specs.Prelude.{◌==◌, nat_lt, List, [], ◌∷◌, ◌++◌, length, slice_get, Option, Some, None, bit_and}
use Rattle.std.proofs.Common.{arith, refl, subst, sym, ap, ◌∙◌}
use Rattle.std.proofs.lemmas.Bool.Decides.{nat_tests}
use Rattle.std.proofs.lemmas.Nat.Bits.{and_high_mask}
use Rattle.graft_texts.specs.declared.Instr.{Instr}
use Rattle.graft_texts.specs.declared.Op.TheVariants.{Li, Mov, Ldw, Stw}
use Rattle.graft_texts.specs.Boxed.{instr}
use Rattle.graft_texts.specs.Objects.{at}
use Rattle.graft_texts.specs.Machine.{Machine, Word, Done, exec, reads, writes, store, word, mask, masked_place}
use Rattle.graft_texts.specs.Runs.{CodeRun, MadeCall, Halt, run_by, run_step, after_done, counted_access, is_access}
use Rattle.graft_lang.specs.Code.{fetches, puts, loads, source}
use Rattle.graft_lang.specs.Placing.{Stands, word_of, slot_of, IsAt}

-- ---- runs

-- one instruction of a run that goes on
pub one_step : (code : List Instr) (r : CodeRun) (i : Instr) (n : ℕ) → r.ended ≡ None →
    slice_get code r.machine.pc ≡ Some i →
    run_by masked_place code (suc n) r ≡ run_by masked_place code n (after_done (exec masked_place
    i.op i.a i.b i.c i.imm r.machine) (counted_access (is_access (Some i)) r))
one_step code r i n going here =
    ap (λ (o : Option Halt). elim o as (λ _. CodeRun) [
      | Some halt ↦ r
      | None ↦ run_by masked_place code n (run_step masked_place code r)
    ]) going
    ∙ ap (λ (x : Option Instr). run_by masked_place code n (after_done (elim x as (λ _. Done) [
      | None ↦ Done.PastEnd
      | Some k ↦ exec masked_place k.op k.a k.b k.c k.imm r.machine
    ]) (counted_access (is_access x) r))) here

pub run_over : (code : List Instr) (r : CodeRun) (n : ℕ) (halt : Halt) → r.ended ≡ Some halt →
    run_by masked_place code n r ≡ r
run_over code r zero halt e = refl
run_over code r (suc n) halt e =
    ap (λ (o : Option Halt). elim o as (λ _. CodeRun) [
      | Some h ↦ r
      | None ↦ run_by masked_place code n (run_step masked_place code r)
    ]) e

run_on : (code : List Instr) (r : CodeRun) (n : ℕ) → r.ended ≡ None →
    run_by masked_place code (suc n) r ≡ run_by masked_place code n (run_step masked_place code r)
run_on code r n e =
    ap (λ (o : Option Halt). elim o as (λ _. CodeRun) [
      | Some h ↦ r
      | None ↦ run_by masked_place code n (run_step masked_place code r)
    ]) e

-- a run in two parts
pub two_parts : (code : List Instr) (a b : ℕ) (r : CodeRun) →
    run_by masked_place code (a + b) r ≡ run_by masked_place code b (run_by masked_place code a r)
two_parts code zero b r = ap (λ n. run_by masked_place code n r) (omega arith)
two_parts code (suc a) b r = by_end r.ended refl (two_parts code a b (run_step masked_place code r))
  where
    by_end : (o : Option Halt) → r.ended ≡ o →
        run_by masked_place code (a + b) (run_step masked_place code r) ≡ run_by masked_place code b
        (run_by masked_place code a (run_step masked_place code r)) →
        run_by masked_place code (suc a + b) r ≡ run_by masked_place code b (run_by masked_place code (suc a) r)
    by_end (Some halt) e rest =
        run_over code r (suc a + b) halt e ∙ sym (run_over code r b halt e)
        ∙ ap (run_by masked_place code b) (sym (run_over code r (suc a) halt e))
    by_end None e rest =
        let n : suc a + b ≡ suc (a + b) = omega arith in
        ap (λ n. run_by masked_place code n r) n ∙ run_on code r (a + b) e ∙ rest
        ∙ ap (run_by masked_place code b) (sym (run_on code r a e))

-- ---- slots

-- the mask keeps the address of a slot
pub slot_place : (i : ℕ) → i < 1024 → bit_and (4 * i) (mask Word) ≡ 4 * i
slot_place i h = and_high_mask 12 2 (omega arith) (4 * i) (omega arith) ∙ omega arith

-- a word that was stored
pub stored_here : (memory : ℕ → ℕ) (i v : ℕ) → word_of (store Word memory (4 * i) v) i ≡ v
stored_here memory i v = grind (arith, nat_tests)

pub stored_other : (memory : ℕ → ℕ) (i j v : ℕ) → j ≢ i → word_of (store Word memory (4 * i) v) j ≡ word_of memory j
stored_other memory i j v h = grind (arith, nat_tests, h)

-- a register that has no slot
pub unslotted : (reg i v : ℕ) (regs : ℕ → ℕ) → reg < 7 → at reg v regs (7 + i) ≡ regs (7 + i)
unslotted reg i v regs h = grind (arith, nat_tests, h)

-- the register of a slot, and the word of another one
in_register : (m : Machine) (slot x : ℕ) → nat_lt slot 7 ≡ true → slot_of m slot ≡ x → m.regs (7 + slot) ≡ x
in_register m slot x e h = sym (ap (λ b. cond b (m.regs (7 + slot)) (word_of m.memory slot)) e) ∙ h

in_memory : (m : Machine) (slot x : ℕ) → nat_lt slot 7 ≡ false → slot_of m slot ≡ x → word_of m.memory slot ≡ x
in_memory m slot x e h = sym (ap (λ b. cond b (m.regs (7 + slot)) (word_of m.memory slot)) e) ∙ h

-- ---- fetching and putting

-- the code that moves a slot, by whether a register holds it
abbrev fetches_by : Bool → (reg slot : ℕ) → List Instr
fetches_by b reg slot =
    cond b (instr Mov reg (7 + slot) 0 0 ∷ []) (instr Li 5 0 0 (4 * slot) ∷ instr Ldw reg 5 0 0 ∷ [])

abbrev loads_by : Bool → (reg slot : ℕ) → List Instr
loads_by b reg slot = cond b [] (instr Li 5 0 0 (4 * slot) ∷ instr Ldw reg 5 0 0 ∷ [])

abbrev puts_by : Bool → (reg slot : ℕ) → List Instr
puts_by b reg slot =
    cond b (instr Mov (7 + slot) reg 0 0 ∷ []) (instr Li 5 0 0 (4 * slot) ∷ instr Stw reg 5 0 0 ∷ [])

-- a run after a copy of a register
abbrev copied : (to from : ℕ) → CodeRun → CodeRun
copied to from r =
    record r {
      machine = record {
        regs = at to (word (r.machine.regs from)) r.machine.regs;
        pc = r.machine.pc + 1;
        memory = r.machine.memory;
      };
      accesses = r.accesses + 0;
    }

copy_is : (code : List Instr) (to from c : ℕ) (r : CodeRun) → r.ended ≡ None → r.machine.pc ≡ c →
    slice_get code c ≡ Some (instr Mov to from 0 0) → run_by masked_place code 1 r ≡ copied to from r
copy_is code to from c r going at_c here =
    one_step code r (instr Mov to from 0 0) 0 going
    (subst (λ n. slice_get code n ≡ Some (instr Mov to from 0 0)) (sym at_c) here)

-- a run after a word was fetched
abbrev fetched : (reg slot : ℕ) → CodeRun → CodeRun
fetched reg slot r =
    record r {
      machine = record {
        regs = at reg (word (word_of r.machine.memory slot)) (at 5 (word (4 * slot)) r.machine.regs);
        pc = r.machine.pc + 1 + 1;
        memory = r.machine.memory;
      };
      accesses = r.accesses + 0 + 1;
    }

fetch_is : (code : List Instr) (reg slot c : ℕ) (r : CodeRun) → r.ended ≡ None → r.machine.pc ≡ c → slot < 1024 →
    Stands code c (instr Li 5 0 0 (4 * slot) ∷ instr Ldw reg 5 0 0 ∷ []) →
    run_by masked_place code 2 r ≡ fetched reg slot r
fetch_is code reg slot c r going at_c low h =
    let first : slice_get code r.machine.pc ≡ Some (instr Li 5 0 0 (4 * slot)) =
    subst (λ n. slice_get code n ≡ Some (instr Li 5 0 0 (4 * slot))) (sym at_c) h.0 in
    let second : slice_get code (r.machine.pc + 1) ≡ Some (instr Ldw reg 5 0 0) =
    subst (λ n. slice_get code n ≡ Some (instr Ldw reg 5 0 0)) (omega (arith, at_c)) h.1.0 in
    let m : Machine = record {
      regs = at 5 (word (4 * slot)) r.machine.regs;
      pc = r.machine.pc + 1;
      memory = r.machine.memory;
    } in
    let u : CodeRun = record r { machine = m; accesses = r.accesses + 0 } in
    let address : bit_and (word (4 * slot)) (mask Word) ≡ 4 * slot =
    let small : word (4 * slot) ≡ 4 * slot = omega (arith, low) in
    ap (λ x. bit_and x (mask Word)) small ∙ slot_place slot low in
    one_step code r (instr Li 5 0 0 (4 * slot)) 1 going first
    ∙ one_step code u (instr Ldw reg 5 0 0) 0 going second
    ∙ ap (λ x. after_done (reads m Word reg (Some x)) (record u { accesses = r.accesses + 0 + 1 })) address

-- a run after a word was put
abbrev put : (reg slot : ℕ) → CodeRun → CodeRun
put reg slot r =
    record r {
      machine = record {
        regs = at 5 (word (4 * slot)) r.machine.regs;
        pc = r.machine.pc + 1 + 1;
        memory = store Word r.machine.memory (4 * slot) (at 5 (word (4 * slot)) r.machine.regs reg);
      };
      accesses = r.accesses + 0 + 1;
    }

put_is : (code : List Instr) (reg slot c : ℕ) (r : CodeRun) → r.ended ≡ None → r.machine.pc ≡ c → slot < 1024 →
    Stands code c (instr Li 5 0 0 (4 * slot) ∷ instr Stw reg 5 0 0 ∷ []) →
    run_by masked_place code 2 r ≡ put reg slot r
put_is code reg slot c r going at_c low h =
    let first : slice_get code r.machine.pc ≡ Some (instr Li 5 0 0 (4 * slot)) =
    subst (λ n. slice_get code n ≡ Some (instr Li 5 0 0 (4 * slot))) (sym at_c) h.0 in
    let second : slice_get code (r.machine.pc + 1) ≡ Some (instr Stw reg 5 0 0) =
    subst (λ n. slice_get code n ≡ Some (instr Stw reg 5 0 0)) (omega (arith, at_c)) h.1.0 in
    let m : Machine = record {
      regs = at 5 (word (4 * slot)) r.machine.regs;
      pc = r.machine.pc + 1;
      memory = r.machine.memory;
    } in
    let u : CodeRun = record r { machine = m; accesses = r.accesses + 0 } in
    let address : bit_and (word (4 * slot)) (mask Word) ≡ 4 * slot =
    let small : word (4 * slot) ≡ 4 * slot = omega (arith, low) in
    ap (λ x. bit_and x (mask Word)) small ∙ slot_place slot low in
    one_step code r (instr Li 5 0 0 (4 * slot)) 1 going first
    ∙ one_step code u (instr Stw reg 5 0 0) 0 going second
    ∙ ap (λ x. after_done (writes m Word (m.regs reg) (Some x)) (record u { accesses = r.accesses + 0 + 1 })) address

-- ---- pieces of code

pub stands_first : (code : List Instr) (c : ℕ) (xs ys : List Instr) → Stands code c (xs ++ ys) → Stands code c xs
stands_first code c [] ys h = tt
stands_first code c (x ∷ xs) ys h = (h.0, stands_first code (suc c) xs ys h.1)

pub stands_second : (code : List Instr) (c : ℕ) (xs ys : List Instr) → Stands code c (xs ++ ys) →
    Stands code (c + length xs) ys
stands_second code c [] ys h = subst (λ n. Stands code n ys) (omega arith) h
stands_second code c (x ∷ xs) ys h = subst (λ n. Stands code n ys) (omega arith) (stands_second code (suc c) xs ys h.1)

-- what a fetch leaves: the value of a slot in the register `into`, and all registers but r5 and `reg` as they were
pub record Fetched (cells : ℕ → ℕ) (top c len : ℕ) (calls : List MadeCall) (answers : List (ℕ × ℕ))
    (reg into slot : ℕ) (u : CodeRun) (r : CodeRun) : Type 0 where
  pub stands : IsAt cells top (c + len) calls answers u
  pub here : u.machine.regs into ≡ cells slot
  pub others : (i : ℕ) → i ≢ 5 → i ≢ reg → u.machine.regs i ≡ r.machine.regs i

-- a word of the segment comes to a register
word_runs : (code : List Instr) (cells : ℕ → ℕ) (top c : ℕ) (calls : List MadeCall)
    (answers : List (ℕ × ℕ)) (reg slot : ℕ) (r : CodeRun) → reg < 7 → slot < 1024 →
    cells slot < 2 ^ 32 → word_of r.machine.memory slot ≡ cells slot →
    Stands code c (instr Li 5 0 0 (4 * slot) ∷ instr Ldw reg 5 0 0 ∷ []) → IsAt cells top c calls answers r →
    Fetched cells top c 2 calls answers reg reg slot (run_by masked_place code 2 r) r
word_runs code cells top c calls answers reg slot r low_reg low small is h a =
    subst (λ u. Fetched cells top c 2 calls answers reg reg slot u r)
    (sym (fetch_is code reg slot c r a.going a.place low h))
    (record {
      stands =
          record {
            place = omega (arith, a.place);
            going = a.going;
            slots = λ i below. ap (λ x. cond (nat_lt i 7) x (word_of r.machine.memory i))
                (unslotted reg i (word (word_of r.machine.memory slot))
                (at 5 (word (4 * slot)) r.machine.regs) low_reg
                ∙ unslotted 5 i (word (4 * slot)) r.machine.regs (omega arith)) ∙ a.slots i below;
            calls_are = a.calls_are;
            answers_are = a.answers_are;
          };
      here = here_at (word_of r.machine.memory slot) is;
      others = λ i x y. grind (arith, nat_tests, x, y);
    })
  where
    here_at : (x : ℕ) → x ≡ cells slot → at reg (word x) (at 5 (word (4 * slot)) r.machine.regs) reg ≡ cells slot
    here_at x e = grind (arith, nat_tests, e, small)

pub fetch_runs : (code : List Instr) (cells : ℕ → ℕ) (top c : ℕ) (calls : List MadeCall)
    (answers : List (ℕ × ℕ)) (reg slot : ℕ) (r : CodeRun) → reg < 7 → slot < top → slot < 1024 →
    cells slot < 2 ^ 32 → Stands code c (fetches reg slot) → IsAt cells top c calls answers r →
    Fetched cells top c (length (fetches reg slot)) calls answers reg reg slot
    (run_by masked_place code (length (fetches reg slot)) r) r
fetch_runs code cells top c calls answers reg slot r low_reg inside low small h a = by (nat_lt slot 7) refl h
  where
    copy_at : (x : ℕ) → x ≡ cells slot → at reg (word x) r.machine.regs reg ≡ cells slot
    copy_at x e = grind (arith, nat_tests, e, small)

    by : (b : Bool) → nat_lt slot 7 ≡ b → Stands code c (fetches_by b reg slot) →
        Fetched cells top c (length (fetches_by b reg slot)) calls answers reg reg slot
        (run_by masked_place code (length (fetches_by b reg slot)) r) r
    by true e k =
        subst (λ u. Fetched cells top c 1 calls answers reg reg slot u r)
        (sym (copy_is code reg (7 + slot) c r a.going a.place k.0))
        (record {
          stands =
              record {
                place = omega (arith, a.place);
                going = a.going;
                slots = λ i below. ap (λ x. cond (nat_lt i 7) x (word_of r.machine.memory i))
                    (unslotted reg i (word (r.machine.regs (7 + slot))) r.machine.regs low_reg) ∙ a.slots i below;
                calls_are = a.calls_are;
                answers_are = a.answers_are;
              };
          here = copy_at (r.machine.regs (7 + slot)) (in_register r.machine slot (cells slot) e (a.slots slot inside));
          others = λ i x y. grind (arith, nat_tests, y);
        })
    by false e k =
        word_runs code cells top c calls answers reg slot r low_reg low small
        (in_memory r.machine slot (cells slot) e (a.slots slot inside)) k a

-- a slot is in a register, or comes to one
pub load_runs : (code : List Instr) (cells : ℕ → ℕ) (top c : ℕ) (calls : List MadeCall)
    (answers : List (ℕ × ℕ)) (reg slot : ℕ) (r : CodeRun) → reg < 7 → slot < top → slot < 1024 →
    cells slot < 2 ^ 32 → Stands code c (loads reg slot) → IsAt cells top c calls answers r →
    Fetched cells top c (length (loads reg slot)) calls answers reg (source reg slot) slot
    (run_by masked_place code (length (loads reg slot)) r) r
load_runs code cells top c calls answers reg slot r low_reg inside low small h a = by (nat_lt slot 7) refl h
  where
    by : (b : Bool) → nat_lt slot 7 ≡ b → Stands code c (loads_by b reg slot) →
        Fetched cells top c (length (loads_by b reg slot)) calls answers reg (cond b (7 + slot) reg) slot
        (run_by masked_place code (length (loads_by b reg slot)) r) r
    by true e k =
        let here : c ≡ c + 0 = omega arith in
        record {
          stands = subst (λ n. IsAt cells top n calls answers r) here a;
          here = in_register r.machine slot (cells slot) e (a.slots slot inside);
          others = λ i x y. refl;
        }
    by false e k =
        word_runs code cells top c calls answers reg slot r low_reg low small
        (in_memory r.machine slot (cells slot) e (a.slots slot inside)) k a

-- what a put leaves: the value in the slot, and the others as they were
pub record WasPut (c len slot x : ℕ) (u : CodeRun) (r : CodeRun) : Type 0 where
  pub place : u.machine.pc ≡ c + len
  pub going : u.ended ≡ None
  pub here : slot_of u.machine slot ≡ x
  pub others : (i : ℕ) → i ≢ slot → slot_of u.machine i ≡ slot_of r.machine i
  pub kept : (i : ℕ) → i < 7 → i ≢ 5 → u.machine.regs i ≡ r.machine.regs i
  pub calls_are : u.calls ≡ r.calls
  pub answers_are : u.answers ≡ r.answers

pub put_leaves : (code : List Instr) (c reg slot x : ℕ) (r : CodeRun) → r.ended ≡ None → r.machine.pc ≡ c →
    reg ≢ 5 → slot < 1024 → x < 2 ^ 32 → r.machine.regs reg ≡ x → Stands code c (puts reg slot) →
    WasPut c (length (puts reg slot)) slot x (run_by masked_place code (length (puts reg slot)) r) r
put_leaves code c reg slot x r going at_c other low small is h = by (nat_lt slot 7) refl h
  where
    copy_at : (v : ℕ) → v ≡ x → at (7 + slot) (word v) r.machine.regs (7 + slot) ≡ x
    copy_at v e = grind (arith, nat_tests, e, small)

    copy_other : (i v : ℕ) (regs : ℕ → ℕ) → i ≢ slot → at (7 + slot) v regs (7 + i) ≡ regs (7 + i)
    copy_other i v regs k = grind (arith, nat_tests, k)

    copy_low : (i v : ℕ) (regs : ℕ → ℕ) → i < 7 → at (7 + slot) v regs i ≡ regs i
    copy_low i v regs k = grind (arith, nat_tests, k)

    same : at 5 (word (4 * slot)) r.machine.regs reg ≡ x
    same = grind (arith, nat_tests, other, is)

    by : (b : Bool) → nat_lt slot 7 ≡ b → Stands code c (puts_by b reg slot) →
        WasPut c (length (puts_by b reg slot)) slot x (run_by masked_place code (length (puts_by b reg slot)) r) r
    by true e k =
        subst (λ u. WasPut c 1 slot x u r) (sym (copy_is code (7 + slot) reg c r going at_c k.0))
        (record {
          place = omega (arith, at_c);
          going = going;
          here = ap (λ b. cond b (at (7 + slot) (word (r.machine.regs reg)) r.machine.regs (7 + slot))
              (word_of r.machine.memory slot)) e ∙ copy_at (r.machine.regs reg) is;
          others = λ i k. ap (λ y. cond (nat_lt i 7) y (word_of r.machine.memory i))
              (copy_other i (word (r.machine.regs reg)) r.machine.regs k);
          kept = λ i k l. copy_low i (word (r.machine.regs reg)) r.machine.regs k;
          calls_are = refl;
          answers_are = refl;
        })
    by false e k =
        let v = at 5 (word (4 * slot)) r.machine.regs reg in
        subst (λ u. WasPut c 2 slot x u r) (sym (put_is code reg slot c r going at_c low k))
        (record {
          place = omega (arith, at_c);
          going = going;
          here = ap (λ b. cond b (at 5 (word (4 * slot)) r.machine.regs (7 + slot))
              (word_of (store Word r.machine.memory (4 * slot) v) slot)) e
              ∙ stored_here r.machine.memory slot v ∙ same;
          others = λ i k. ap (λ y. cond (nat_lt i 7) y (word_of (store Word r.machine.memory (4 * slot) v) i))
              (unslotted 5 i (word (4 * slot)) r.machine.regs (omega arith))
              ∙ ap (λ y. cond (nat_lt i 7) (r.machine.regs (7 + i)) y) (stored_other r.machine.memory slot i v k);
          kept = λ i k l. grind (arith, nat_tests, l);
          calls_are = refl;
          answers_are = refl;
        })

-- a register is put into a slot
pub put_slot : (code : List Instr) (cells : ℕ → ℕ) (top over c : ℕ) (calls : List MadeCall)
    (answers : List (ℕ × ℕ)) (reg slot x : ℕ) (r : CodeRun) → reg ≢ 5 → slot < 1024 → x < 2 ^ 32 →
    ((i : ℕ) → i < over → i ≢ slot → i < top) → Stands code c (puts reg slot) →
    IsAt cells top c calls answers r → r.machine.regs reg ≡ x →
    IsAt (at slot x cells) over (c + length (puts reg slot)) calls answers
    (run_by masked_place code (length (puts reg slot)) r)
put_slot code cells top over c calls answers reg slot x r other low small within h a e =
    let p = put_leaves code c reg slot x r a.going a.place other low small e h in
    record {
      place = p.place;
      going = p.going;
      slots = λ i below. by_slot (slot_of (run_by masked_place code (length (puts reg slot)) r).machine) p.here i
          (i == slot) refl (λ k. p.others i k ∙ a.slots i (within i below k));
      calls_are = p.calls_are ∙ a.calls_are;
      answers_are = p.answers_are ∙ a.answers_are;
    }
  where
    by_slot : (f : ℕ → ℕ) → f slot ≡ x → (i : ℕ) → (b : Bool) → (i == slot) ≡ b →
        (i ≢ slot → f i ≡ cells i) → f i ≡ cond (i == slot) x (cells i)
    by_slot f own i true here next =
        let same : i ≡ slot = grind (arith, nat_tests, here) in
        ap f same ∙ own ∙ ap (λ b. cond b x (cells i)) (sym here)
    by_slot f own i false there next =
        let apart : i ≢ slot = grind (arith, nat_tests, there) in
        next apart ∙ ap (λ b. cond b x (cells i)) (sym there)

-- a put into the first free slot
pub put_runs : (code : List Instr) (cells : ℕ → ℕ) (top c : ℕ) (calls : List MadeCall)
    (answers : List (ℕ × ℕ)) (reg x : ℕ) (r : CodeRun) → reg ≢ 5 → top < 1024 → x < 2 ^ 32 →
    Stands code c (puts reg top) → IsAt cells top c calls answers r → r.machine.regs reg ≡ x →
    IsAt (at top x cells) (suc top) (c + length (puts reg top)) calls answers
    (run_by masked_place code (length (puts reg top)) r)
put_runs code cells top c calls answers reg x r other low small h a e =
    put_slot code cells top (suc top) c calls answers reg top x r other low small
    (λ i below k. grind (arith, nat_tests, below, k)) h a e
