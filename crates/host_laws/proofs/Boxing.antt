-- Boxed code with each address masked does what it does on its segment alone.
use Rattle.std.proofs.Common.{◌≡◌, ℕ, zero, suc, ◌+◌, ◌-◌, ◌%◌, ◌<◌, ◌≤◌, ◌==◌, Bool, true, false, cond}
use Rattle.std.proofs.Common.{List, [], ◌∷◌, Option, None, Some, refl, sym, ap, subst, ◌∙◌, arith}
use Rattle.std.specs.Prelude.{⊤, ◌&&◌, nat_lt, nat_le, slice_get}
use Rattle.std.proofs.lemmas.Bool.{and_parts, leb-true, ltb-true, ltb-false}
use mathlib.Core.Path.{fun_ext}
use Rattle.graft_code.specs.declared.Instr.{Instr}
use Rattle.graft_code.specs.declared.Op.{Op}
use Rattle.graft_code.specs.declared.Op.TheVariants.{Li, Mov, Add, Sub, Mul, And, Or, Xor, Shl}
use Rattle.graft_code.specs.declared.Op.TheVariants.{Shr, Divu, Remu, Sltu, Addi, Andi, Ldw, Stw}
use Rattle.graft_code.specs.declared.Op.TheVariants.{Ldb, Stb, Jmp, Jz, Jnz, Call, Callr, Trap}
use Rattle.graft_code.specs.declared.Op.TheVariants.{Ret}
use Rattle.graft_code.specs.Objects.{at}
use Rattle.graft_code.specs.Boxed.{IsBoxed, IsInside}
use Rattle.graft_code.specs.Machine.{Machine, Done, Width, Word, Byte, aligned, segment_base}
use Rattle.graft_code.specs.Machine.{segment_place, masked_place}
use Rattle.graft_code.specs.Machine.{exec, reads, writes, step_by, flat_step, seg_step}
use Rattle.graft_code.specs.Runs as runs
use Rattle.graft_code.specs.Runs.{CodeRun, Halt, run_by, run_step, raw_run, boxed_run, answered_call, with_answer}
use Rattle.graft_code.specs.Runs.{is_access, counted_access, on_segment, done_on_segment}
use Rattle.graft_code.specs.SandboxClaims.{Sandbox, IsInsideAfter}
use Rattle.host_laws.proofs.Masked.{masked}

-- ---- one instruction

-- an access reached its segment
abbrev IsReached : Done → Type 0
IsReached Done.Outside = ⊥
IsReached _ = ⊤

-- an address of the segment is where its mask leads
near_base : (w : Width) (a : ℕ) → 262144 ≤ aligned w a → aligned w a < 262144 + 4096 →
    aligned w (a % 4096) ≡ aligned w a - 262144
near_base Byte a low high = omega (arith, low, high)
near_base Word a low high = omega (arith, low, high)

same_place : (m : Machine) (w : Width) (a p : ℕ) → m.regs 15 ≡ 262144 → segment_place m w a ≡ Some p →
    masked_place m w a ≡ Some p
same_place m w a p base h =
    by_test (nat_le 262144 (aligned w a) && nat_lt (aligned w a) (262144 + 4096)) refl
    (sym (ap (λ (b : ℕ). cond (nat_le b (aligned w a) && nat_lt (aligned w a) (b + 4096))
    (Some (aligned w a - b)) None) base) ∙ h)
  where
    by_test : (t : Bool) → (nat_le 262144 (aligned w a) && nat_lt (aligned w a) (262144 + 4096)) ≡ t →
        cond t (Some (aligned w a - 262144)) None ≡ Some p → masked_place m w a ≡ Some p
    by_test true e s =
        let both = and_parts (nat_le 262144 (aligned w a)) (nat_lt (aligned w a) (262144 + 4096)) e in
        ap (λ (x : ℕ). Some x) (sym (masked w a)
        ∙ near_base w a (leb-true 262144 (aligned w a) both.0) (ltb-true (aligned w a) (262144 + 4096) both.1)) ∙ s
    by_test false e s = cc

same_read : (m : Machine) (w : Width) (a x : ℕ) → m.regs 15 ≡ 262144 → IsReached (reads m w a (segment_place m w x)) →
    reads m w a (masked_place m w x) ≡ reads m w a (segment_place m w x)
same_read m w a x base reached = by_place (segment_place m w x) refl reached
  where
    by_place : (o : Option ℕ) → segment_place m w x ≡ o → IsReached (reads m w a o) →
        reads m w a (masked_place m w x) ≡ reads m w a o
    by_place None e r = absurd r
    by_place (Some p) e r = ap (λ (o : Option ℕ). reads m w a o) (same_place m w x p base e)

same_write : (m : Machine) (w : Width) (v x : ℕ) → m.regs 15 ≡ 262144 → IsReached (writes m w v (segment_place m w x)) →
    writes m w v (masked_place m w x) ≡ writes m w v (segment_place m w x)
same_write m w v x base reached = by_place (segment_place m w x) refl reached
  where
    by_place : (o : Option ℕ) → segment_place m w x ≡ o → IsReached (writes m w v o) →
        writes m w v (masked_place m w x) ≡ writes m w v o
    by_place None e r = absurd r
    by_place (Some p) e r = ap (λ (o : Option ℕ). writes m w v o) (same_place m w x p base e)

same_exec : (op : Op) (a b c imm : ℕ) (m : Machine) → m.regs 15 ≡ 262144 →
    IsReached (exec segment_place op a b c imm m) → exec masked_place op a b c imm m ≡ exec segment_place op a b c imm m
same_exec Ldw a b c imm m base r = same_read m Word a (m.regs b) base r
same_exec Ldb a b c imm m base r = same_read m Byte a (m.regs b) base r
same_exec Stw a b c imm m base r = same_write m Word (m.regs a) (m.regs b) base r
same_exec Stb a b c imm m base r = same_write m Byte (m.regs a) (m.regs b) base r
same_exec Li a b c imm m base r = refl
same_exec Mov a b c imm m base r = refl
same_exec Add a b c imm m base r = refl
same_exec Sub a b c imm m base r = refl
same_exec Mul a b c imm m base r = refl
same_exec And a b c imm m base r = refl
same_exec Or a b c imm m base r = refl
same_exec Xor a b c imm m base r = refl
same_exec Shl a b c imm m base r = refl
same_exec Shr a b c imm m base r = refl
same_exec Divu a b c imm m base r = refl
same_exec Remu a b c imm m base r = refl
same_exec Sltu a b c imm m base r = refl
same_exec Addi a b c imm m base r = refl
same_exec Andi a b c imm m base r = refl
same_exec Jmp a b c imm m base r = refl
same_exec Jz a b c imm m base r = refl
same_exec Jnz a b c imm m base r = refl
same_exec Call a b c imm m base r = refl
same_exec Callr a b c imm m base r = refl
same_exec Trap a b c imm m base r = refl
same_exec Ret a b c imm m base r = refl

same_step : (code : List Instr) (m : Machine) → m.regs 15 ≡ 262144 → IsReached (step_by segment_place code m) →
    step_by masked_place code m ≡ step_by segment_place code m
same_step code m base reached = by_instr (slice_get code m.pc) reached
  where
    by_instr : (o : Option Instr) →
        IsReached (elim o as (λ _. Done) [
          | None ↦ Done.PastEnd
          | Some i ↦ exec segment_place i.op i.a i.b i.c i.imm m
        ]) →
        ◌≡◌ {A = Done} (elim o as (λ _. Done) [
          | None ↦ Done.PastEnd
          | Some i ↦ exec masked_place i.op i.a i.b i.c i.imm m
        ]) (elim o as (λ _. Done) [
          | None ↦ Done.PastEnd
          | Some i ↦ exec segment_place i.op i.a i.b i.c i.imm m
        ])
    by_instr None r = refl
    by_instr (Some i) r = same_exec i.op i.a i.b i.c i.imm m base r

-- ---- inside

-- a machine is inside, and nothing stands beyond its segment
pub record IsHome (code : List Instr) (m : Machine) : Type 0 where
  pub inside : IsInside code 0 m
  pub beyond : (k : ℕ) → 4096 ≤ k → m.memory k ≡ 0

-- a machine with another memory, inside too
moved : (code : List Instr) (m : Machine) (memory : ℕ → ℕ) → IsInside code 0 m →
    IsInside code 0 (record { regs = m.regs; pc = m.pc; memory = memory })
moved code m memory h =
    record {
      slot_fits = h.slot_fits;
      place = h.place;
      base = h.base;
      second = h.second;
      third_low = h.third_low;
      third_high = h.third_high;
    }

-- a machine over flat memory, in which the segment stands at its base
abbrev lifted : Machine → Machine
lifted m = record { regs = m.regs; pc = m.pc; memory = λ k. m.memory (k - 262144) }

seen_alone : (m : Machine) → ((k : ℕ) → 4096 ≤ k → m.memory k ≡ 0) → on_segment (segment_base 0) (lifted m) ≡ m
seen_alone m h =
    ap (λ (f : ℕ → ℕ). record { regs = m.regs; pc = m.pc; memory = f }) (fun_ext (λ k. by_test k (nat_lt k 4096) refl))
  where
    by_test : (k : ℕ) (t : Bool) → nat_lt k 4096 ≡ t → cond t (m.memory (262144 + k - 262144)) 0 ≡ m.memory k
    by_test k true e = let same : 262144 + k - 262144 ≡ k = omega arith in ap (λ (x : ℕ). m.memory x) same
    by_test k false e = sym (h k (ltb-false k 4096 e))

nothing_beyond : (memory : ℕ → ℕ) (k : ℕ) → 4096 ≤ k → cond (nat_lt k 4096) (memory (262144 + k)) 0 ≡ 0
nothing_beyond memory k far = by_test (nat_lt k 4096) refl
  where
    by_test : (t : Bool) → nat_lt k 4096 ≡ t → cond t (memory (262144 + k)) 0 ≡ 0
    by_test true e = absurd (omega (arith, far, ltb-true k 4096 e))
    by_test false e = refl

-- what an instruction of a machine at home did
abbrev Stays : List Instr → Done → Type 0
Stays code (Done.Went m) = IsHome code m
Stays code (Done.Called id m) = IsHome code m
Stays code Done.Outside = ⊥
Stays code Done.PastEnd = ⊥
Stays code _ = ⊤

stays : Sandbox → (code : List Instr) (m : Machine) → IsBoxed code → IsHome code m →
    Stays code (step_by segment_place code m)
stays law code m boxed h =
    let all = law code 0 (lifted m) boxed (moved code m (λ k. m.memory (k - 262144)) h.inside) in
    subst (λ (d : Done). Stays code d)
    (sym all.alone ∙ ap (λ (x : Machine). seg_step code x) (seen_alone m h.beyond))
    (by_done (flat_step code (lifted m)) all.inside)
  where
    by_done : (d : Done) → IsInsideAfter code 0 d → Stays code (done_on_segment (segment_base 0) d)
    by_done (Done.Went k) i = record { inside = moved code k _ i; beyond = nothing_beyond k.memory }
    by_done (Done.Called id k) i = record { inside = moved code k _ i; beyond = nothing_beyond k.memory }
    by_done Done.Returned i = tt
    by_done Done.DividedByZero i = tt
    by_done (Done.Trapped c) i = tt
    by_done Done.Outside i = absurd i
    by_done Done.PastEnd i = absurd i

reached : (code : List Instr) (d : Done) → Stays code d → IsReached d
reached code (Done.Went k) s = tt
reached code (Done.Called id k) s = tt
reached code Done.Returned s = tt
reached code Done.DividedByZero s = tt
reached code (Done.Trapped c) s = tt
reached code Done.Outside s = absurd s
reached code Done.PastEnd s = absurd s

-- an answer leaves a machine at home
answered_home : (code : List Instr) (id : ℕ) (pair : ℕ × ℕ) (m : Machine) → IsHome code m →
    IsHome code (with_answer id pair m)
answered_home code id pair m h = by_id (id == 13)
  where
    by_id : (b : Bool) → IsHome code (record {
      regs = cond b (at 1 pair.1 (at 0 pair.0 m.regs)) (at 0 pair.0 m.regs);
      pc = m.pc;
      memory = m.memory;
    })
    by_id true = record {
      inside = record {
        slot_fits = h.inside.slot_fits;
        place = h.inside.place;
        base = h.inside.base;
        second = h.inside.second;
        third_low = h.inside.third_low;
        third_high = h.inside.third_high;
      };
      beyond = h.beyond;
    }
    by_id false = record {
      inside = record {
        slot_fits = h.inside.slot_fits;
        place = h.inside.place;
        base = h.inside.base;
        second = h.inside.second;
        third_low = h.inside.third_low;
        third_high = h.inside.third_high;
      };
      beyond = h.beyond;
    }

-- ---- a run

next_home : (code : List Instr) (d : Done) (r : CodeRun) → Stays code d → (runs.after_done d r).ended ≡ None →
    IsHome code (runs.after_done d r).machine
next_home code (Done.Went k) r s e = s
next_home code (Done.Called id k) r s e = by_answers r.answers e
  where
    by_answers : (answers : List (ℕ × ℕ)) → (answered_call id k r answers).ended ≡ None →
        IsHome code (answered_call id k r answers).machine
    by_answers [] e = cc
    by_answers (pair ∷ pairs) e = answered_home code id pair k s
next_home code Done.Returned r s e = cc
next_home code Done.DividedByZero r s e = cc
next_home code (Done.Trapped c) r s e = cc
next_home code Done.Outside r s e = absurd s
next_home code Done.PastEnd r s e = absurd s

-- boxed code with each address masked runs as on its segment alone
pub same_run : Sandbox → (code : List Instr) (n : ℕ) (r : CodeRun) → IsBoxed code →
    (r.ended ≡ None → IsHome code r.machine) → raw_run code n r ≡ boxed_run code n r
same_run law code zero r boxed h = refl
same_run law code (suc n) r boxed h = by_end (λ q g. same_run law code n q boxed g) r.ended refl
  where
    by_end : ((q : CodeRun) → (q.ended ≡ None → IsHome code q.machine) →
        run_by masked_place code n q ≡ run_by segment_place code n q) → (o : Option Halt) → r.ended ≡ o →
        ◌≡◌ {A = CodeRun} (elim o as (λ _. CodeRun) [
          | Some halt ↦ r
          | None ↦ run_by masked_place code n (run_step masked_place code r)
        ]) (elim o as (λ _. CodeRun) [
          | Some halt ↦ r
          | None ↦ run_by segment_place code n (run_step segment_place code r)
        ])
    by_end rest (Some halt) e = refl
    by_end rest None e =
        let home = h e in
        let s = stays law code r.machine boxed home in
        let c : CodeRun = counted_access (is_access (slice_get code r.machine.pc)) r in
        let one : run_step masked_place code r ≡ run_step segment_place code r =
        ap (λ (d : Done). runs.after_done d c)
        (same_step code r.machine home.inside.base (reached code (step_by segment_place code r.machine) s)) in
        ap (λ (q : CodeRun). run_by masked_place code n q) one
        ∙ rest (run_step segment_place code r) (λ g. next_home code (step_by segment_place code r.machine) c s g)
