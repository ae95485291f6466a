-- The registers of a run fit 32 bits, and so do the words that the table gives it.
use Rattle.std.proofs.Common.{◌≡◌, ◌≢◌, ℕ, zero, suc, ◌+◌, ◌^◌, ◌<◌, ◌≤◌, Bool, true, false, cond, not}
use Rattle.std.proofs.Common.{List, [], ◌∷◌, ◌++◌}
use Rattle.std.proofs.Common.{Option, None, Some, refl, sym, ap, subst, ◌∙◌, arith}
use Rattle.std.specs.Prelude.{⊤, ◌==◌, nat_le, slice_get, slice_set}
use Rattle.std.proofs.lemmas.Bool.{eqb-true, eqb-false}
use Rattle.graft_code.specs.Objects.{at}
use Rattle.graft_code.specs.declared.Instr.{Instr}
use Rattle.graft_code.specs.declared.Op.{Op}
use Rattle.graft_code.specs.declared.Op.TheVariants.{Li, Mov, Add, Sub, Mul, And, Or, Xor, Shl}
use Rattle.graft_code.specs.declared.Op.TheVariants.{Shr, Divu, Remu, Sltu, Addi, Andi, Ldw, Stw}
use Rattle.graft_code.specs.declared.Op.TheVariants.{Ldb, Stb, Jmp, Jz, Jnz, Call, Callr, Trap}
use Rattle.graft_code.specs.declared.Op.TheVariants.{Ret}
use Rattle.graft_code.specs.Machine.{Machine, Done, Places, Width, Word as word_wide, Byte, word, sets, reads}
use Rattle.graft_code.specs.Machine.{writes, exec, step_by}
use Rattle.graft_texts.specs.LanguageImages.{AreWords}
use Rattle.vino_host.specs.declared.Record.{Record}
use Rattle.vino_host.specs.declared.Stop.{Stop}
use Rattle.vino_host.specs.declared.Stop.TheVariants as stop
use Rattle.vino_host.specs.declared.Word.{Word}
use Rattle.vino_host.specs.Codes.{BUSY, NO_RECORDS, BAD_ARGUMENT, NOT_CALLABLE}
use Rattle.vino_host.specs.HostMachine.{host_step, wrapped_place}
use Rattle.vino_host.specs.HostRuns.{State, state, Ended, Answered, Goes, Stops, answered, after_word, with_r0}
use Rattle.vino_host.specs.HostRuns.{after_answer, after_done, host_run}
use Rattle.vino_host.specs.Tables.{Serves, Gives, Refuses, may_serve, is_held, is_full, taken}
use Rattle.vino_host.specs.Tables.{record_of, serves_word, serves}
use Rattle.host_laws.specs.RawAnswers.{answer_of, answers_after, answers_of}
use Rattle.host_laws.specs.Talks.{talk_answers, answers_behind, with_word}
use Rattle.host_laws.specs.Written.{FitTable, FitWords}

-- ---- registers

abbrev pub FitRegisters : (ℕ → ℕ) → Type 0
FitRegisters regs = (i : ℕ) → regs i < 2 ^ 32

pub set_fits : (a v : ℕ) (regs : ℕ → ℕ) → v < 2 ^ 32 → FitRegisters regs → FitRegisters (at a v regs)
set_fits a v regs h all i = by_test (i == a)
  where
    by_test : (b : Bool) → cond b v (regs i) < 2 ^ 32
    by_test true = h
    by_test false = all i

-- what an instruction did leaves registers that fit
abbrev FitsDone : Done → Type 0
FitsDone (Done.Went m) = FitRegisters m.regs
FitsDone (Done.Called id m) = FitRegisters m.regs
FitsDone _ = ⊤

sets_fits : (m : Machine) (a v : ℕ) → FitRegisters m.regs → FitsDone (sets m a v)
sets_fits m a v h = set_fits a (word v) m.regs (omega arith) h

reads_fits : (m : Machine) (w : Width) (a : ℕ) (o : Option ℕ) → FitRegisters m.regs → FitsDone (reads m w a o)
reads_fits m word_wide a None h = tt
reads_fits m Byte a None h = tt
reads_fits m word_wide a (Some p) h = sets_fits m a _ h
reads_fits m Byte a (Some p) h = sets_fits m a _ h

writes_fits : (m : Machine) (w : Width) (v : ℕ) (o : Option ℕ) → FitRegisters m.regs → FitsDone (writes m w v o)
writes_fits m w v None h = tt
writes_fits m w v (Some p) h = h

divides_fits : (m : Machine) (a v : ℕ) (b : Bool) → FitRegisters m.regs →
    FitsDone (elim b as (λ _. Done) [ true ↦ Done.DividedByZero | false ↦ sets m a v ])
divides_fits m a v true h = tt
divides_fits m a v false h = sets_fits m a v h

exec_fits : (place : Places) (op : Op) (a b c imm : ℕ) (m : Machine) → FitRegisters m.regs →
    FitsDone (exec place op a b c imm m)
exec_fits place Li a b c imm m h = sets_fits m a _ h
exec_fits place Mov a b c imm m h = sets_fits m a _ h
exec_fits place Add a b c imm m h = sets_fits m a _ h
exec_fits place Sub a b c imm m h = sets_fits m a _ h
exec_fits place Mul a b c imm m h = sets_fits m a _ h
exec_fits place And a b c imm m h = sets_fits m a _ h
exec_fits place Or a b c imm m h = sets_fits m a _ h
exec_fits place Xor a b c imm m h = sets_fits m a _ h
exec_fits place Shl a b c imm m h = sets_fits m a _ h
exec_fits place Shr a b c imm m h = sets_fits m a _ h
exec_fits place Divu a b c imm m h = divides_fits m a _ (m.regs c == 0) h
exec_fits place Remu a b c imm m h = divides_fits m a _ (m.regs c == 0) h
exec_fits place Sltu a b c imm m h = sets_fits m a _ h
exec_fits place Addi a b c imm m h = sets_fits m a _ h
exec_fits place Andi a b c imm m h = sets_fits m a _ h
exec_fits place Ldw a b c imm m h = reads_fits m word_wide a (place m word_wide (m.regs b)) h
exec_fits place Stw a b c imm m h = writes_fits m word_wide (m.regs a) (place m word_wide (m.regs b)) h
exec_fits place Ldb a b c imm m h = reads_fits m Byte a (place m Byte (m.regs b)) h
exec_fits place Stb a b c imm m h = writes_fits m Byte (m.regs a) (place m Byte (m.regs b)) h
exec_fits place Jmp a b c imm m h = h
exec_fits place Jz a b c imm m h = by_test (m.regs a == 0)
  where
    by_test : (t : Bool) → FitsDone (elim t as (λ _. Done) [
      | true ↦ Done.Went (record { regs = m.regs; pc = imm; memory = m.memory })
      | false ↦ Done.Went (record { regs = m.regs; pc = m.pc + 1; memory = m.memory })
    ])
    by_test true = h
    by_test false = h
exec_fits place Jnz a b c imm m h = by_test (m.regs a == 0)
  where
    by_test : (t : Bool) → FitsDone (elim t as (λ _. Done) [
      | true ↦ Done.Went (record { regs = m.regs; pc = m.pc + 1; memory = m.memory })
      | false ↦ Done.Went (record { regs = m.regs; pc = imm; memory = m.memory })
    ])
    by_test true = h
    by_test false = h
exec_fits place Call a b c imm m h = h
exec_fits place Callr a b c imm m h = h
exec_fits place Trap a b c imm m h = tt
exec_fits place Ret a b c imm m h = tt

step_fits : (code : List Instr) (m : Machine) → FitRegisters m.regs → FitsDone (host_step code m)
step_fits code m h = by_instr (slice_get code m.pc)
  where
    by_instr : (o : Option Instr) → FitsDone (elim o as (λ _. Done) [
      | None ↦ Done.PastEnd
      | Some i ↦ exec wrapped_place i.op i.a i.b i.c i.imm m
    ])
    by_instr None = tt
    by_instr (Some i) = exec_fits wrapped_place i.op i.a i.b i.c i.imm m h

-- ---- the table

same_place : (xs : List Word) (i : ℕ) (v w : Word) → slice_get (slice_set xs i v) i ≡ Some w → v ≡ w
same_place [] i v w h = cc
same_place (x ∷ xs) zero v w h = cc
same_place (x ∷ xs) (suc i) v w h = same_place xs i v w h

other_place : (xs : List Word) (i j : ℕ) (v : Word) → i ≢ j → slice_get (slice_set xs i v) j ≡ slice_get xs j
other_place [] i j v h = refl
other_place (x ∷ xs) zero zero v h = absurd (h refl)
other_place (x ∷ xs) zero (suc j) v h = refl
other_place (x ∷ xs) (suc i) zero v h = refl
other_place (x ∷ xs) (suc i) (suc j) v h = other_place xs i j v (λ e. h (ap suc e))

pub word_fits : (table : List Word) (k : ℕ) (v : Word) → v.value < 2 ^ 32 → FitTable table →
    FitTable (slice_set table k v)
word_fits table k v h all j w g = by_test (k == j) refl
  where
    by_test : (b : Bool) → (k == j) ≡ b → w.value < 2 ^ 32
    by_test true e =
        let here : slice_get (slice_set table k v) k ≡ Some w =
        ap (λ (i : ℕ). slice_get (slice_set table k v) i) (eqb-true k j e) ∙ g in
        subst (λ (x : Word). x.value < 2 ^ 32) (same_place table k v w here) h
    by_test false e = all j w (sym (other_place table k j v (eqb-false k j e)) ∙ g)

-- what a call of the table gave fits
abbrev FitsServed : Serves → Type 0
FitsServed (Gives x table records) = (x < 2 ^ 32) × FitTable table
FitsServed (Refuses cause) = ⊤

served_fits : (number id k v : ℕ) (table : List Word) (records : List Record) → v < 2 ^ 32 → FitTable table →
    FitsServed (serves number id k v table records)
served_fits number id k v table records h all = by_word (slice_get table k) refl
  where
    by_id : (b : Bool) (w : Word) → w.value < 2 ^ 32 → cond b v w.value < 2 ^ 32
    by_id true w g = h
    by_id false w g = g

    by_tests : (a b c : Bool) (w : Word) → w.value < 2 ^ 32 →
        FitsServed (cond (not a) (Refuses BUSY) (cond b (Gives w.value table records)
        (cond c (Refuses NO_RECORDS)
        (Gives w.value (slice_set table k (taken number id v w)) (records ++ record_of id k w ∷ [])))))
    by_tests false b c w g = tt
    by_tests true true c w g = (g, all)
    by_tests true false true w g = tt
    by_tests true false false w g = (g, word_fits table k (taken number id v w) (by_id (id == 1) w g) all)

    by_word : (o : Option Word) → slice_get table k ≡ o → FitsServed (elim o as (λ _. Serves) [
      | None ↦ Refuses BAD_ARGUMENT
      | Some w ↦ serves_word number id k v table records w
    ])
    by_word None e = tt
    by_word (Some w) e =
        by_tests (may_serve number id k records w) (is_held number id k records w) (is_full records w) w
        (all k w e)

-- ---- the answers of a run

-- a run at this moment fits
pub record Fits (s : State) : Type 0 where
  pub registers : FitRegisters s.machine.regs
  pub table : FitTable s.table

answer_fits : (number id : ℕ) (rest : State → List (ℕ × ℕ)) (s : State) → Fits s →
    ((q : State) → Fits q → AreWords (rest q)) → AreWords (answer_of rest (answered number id s))
answer_fits number id rest s fits all = by_id (nat_le id 1) (nat_le id 15)
  where
    by_served : (q : Serves) → FitsServed q → AreWords (answer_of rest (after_word id s q))
    by_served (Refuses cause) h = tt
    by_served (Gives x t r) h =
        let regs = set_fits 0 x s.machine.regs h.0 fits.registers in
        (regs 0, regs 1, all (state (with_r0 x s.machine) t r) (record { registers = regs; table = h.1 }))

    by_id : (a b : Bool) → AreWords (answer_of rest (elim a as (λ _. Answered) [
      | true ↦ after_word id s (serves number id (s.machine.regs 0) (s.machine.regs 1) s.table s.records)
      | false ↦ elim b as (λ _. Answered) [
        | true ↦ Stops (stop.Waits id) s
        | false ↦ Stops (stop.Drops NOT_CALLABLE id) s
      ]
    ]))
    by_id true b = by_served (serves number id (s.machine.regs 0) (s.machine.regs 1) s.table s.records)
        (served_fits number id (s.machine.regs 0) (s.machine.regs 1) s.table s.records (fits.registers 1) fits.table)
    by_id false true = tt
    by_id false false = tt

done_fits : (number : ℕ) (rest : State → List (ℕ × ℕ)) (d : Done) (s : State) → FitsDone d → FitTable s.table →
    ((q : State) → Fits q → AreWords (rest q)) → AreWords (answers_after number rest d s)
done_fits number rest (Done.Went m) s h table all =
    all (state m s.table s.records) (record { registers = h; table = table })
done_fits number rest (Done.Called id m) s h table all =
    answer_fits number id rest (state m s.table s.records) (record { registers = h; table = table }) all
done_fits number rest Done.Returned s h table all = tt
done_fits number rest Done.DividedByZero s h table all = tt
done_fits number rest (Done.Trapped code) s h table all = tt
done_fits number rest Done.Outside s h table all = tt
done_fits number rest Done.PastEnd s h table all = tt

-- the words that the table gives a run fit 32 bits
pub answers_fit : (number : ℕ) (code : List Instr) (n : ℕ) (s : State) → Fits s →
    AreWords (answers_of number code n s)
unfolding answers_of
answers_fit number code zero s fits = tt
answers_fit number code (suc n) s fits =
    done_fits number (answers_of number code n) (host_step code s.machine) s
    (step_fits code s.machine fits.registers) fits.table (λ q h. answers_fit number code n q h)

-- ---- with the host's words

-- a run that fits ends so
after_answer_fits : (rest : State → Ended) (left number id : ℕ) (s : State) → Fits s →
    ((q : State) → Fits q → Fits (rest q).state) → Fits (after_answer rest left (answered number id s)).state
after_answer_fits rest left number id s fits all = by_id (nat_le id 1) (nat_le id 15)
  where
    by_served : (q : Serves) → FitsServed q → Fits (after_answer rest left (after_word id s q)).state
    by_served (Refuses cause) h = fits
    by_served (Gives x t r) h =
        all (state (with_r0 x s.machine) t r)
        (record { registers = set_fits 0 x s.machine.regs h.0 fits.registers; table = h.1 })

    by_id : (a b : Bool) → Fits (after_answer rest left (elim a as (λ _. Answered) [
      | true ↦ after_word id s (serves number id (s.machine.regs 0) (s.machine.regs 1) s.table s.records)
      | false ↦ elim b as (λ _. Answered) [
        | true ↦ Stops (stop.Waits id) s
        | false ↦ Stops (stop.Drops NOT_CALLABLE id) s
      ]
    ])).state
    by_id true b = by_served (serves number id (s.machine.regs 0) (s.machine.regs 1) s.table s.records)
        (served_fits number id (s.machine.regs 0) (s.machine.regs 1) s.table s.records (fits.registers 1) fits.table)
    by_id false true = fits
    by_id false false = fits

after_done_fits : (number : ℕ) (rest : State → Ended) (left : ℕ) (d : Done) (s : State) → FitsDone d → Fits s →
    ((q : State) → Fits q → Fits (rest q).state) → Fits (after_done number rest left d s).state
after_done_fits number rest left (Done.Went m) s h fits all =
    all (state m s.table s.records) (record { registers = h; table = fits.table })
after_done_fits number rest left (Done.Called id m) s h fits all =
    after_answer_fits rest left number id (state m s.table s.records)
    (record { registers = h; table = fits.table }) all
after_done_fits number rest left Done.Returned s h fits all = fits
after_done_fits number rest left Done.DividedByZero s h fits all = fits
after_done_fits number rest left (Done.Trapped code) s h fits all = fits
after_done_fits number rest left Done.Outside s h fits all = fits
after_done_fits number rest left Done.PastEnd s h fits all = fits

pub run_fits : (number : ℕ) (code : List Instr) (n : ℕ) (s : State) → Fits s → Fits (host_run number code n s).state
unfolding host_run
run_fits number code zero s fits = fits
run_fits number code (suc n) s fits =
    after_done_fits number (host_run number code n) n (host_step code s.machine) s
    (step_fits code s.machine fits.registers) fits (λ q h. run_fits number code n q h)

both_fit : (xs ys : List (ℕ × ℕ)) → AreWords xs → AreWords ys → AreWords (xs ++ ys)
both_fit [] ys h g = g
both_fit (x ∷ xs) ys h g = (h.0, h.1, both_fit xs ys h.2 g)

-- the words that the table and the host give a run fit 32 bits
pub talk_answers_fit : (number : ℕ) (code : List Instr) (words : List ℕ) (n : ℕ) (s : State) → FitWords words →
    Fits s → AreWords (talk_answers number code words n s)
unfolding talk_answers
talk_answers_fit number code [] n s small fits = answers_fit number code n s fits
talk_answers_fit number code (x ∷ xs) n s small fits =
    both_fit (answers_of number code n s) (answers_behind (talk_answers number code xs) x first first.stop)
    (answers_fit number code n s fits) (by_stop (λ k q h. talk_answers_fit number code xs k q small.1 h) first.stop)
  where
    first : Ended
    first = host_run number code n s

    ends : Fits first.state
    ends = run_fits number code n s fits

    by_stop : ((k : ℕ) (q : State) → Fits q → AreWords (talk_answers number code xs k q)) → (why : Stop) →
        AreWords (answers_behind (talk_answers number code xs) x first why)
    by_stop rest stop.Returns = tt
    by_stop rest (stop.Drops cause detail) = tt
    by_stop rest (stop.Waits id) = (
      small.0,
      ends.registers 1,
      rest first.left (with_word x first)
          (record { registers = set_fits 0 x first.state.machine.regs small.0 ends.registers; table = ends.table }),
    )
