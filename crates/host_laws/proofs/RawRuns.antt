-- A plug-in's run and the run of its code alone, turn by turn.
use Rattle.std.proofs.Common.{◌≡◌, ℕ, zero, suc, ◌-◌, ◌≤◌, List, [], ◌∷◌, Option, None, Some}
use Rattle.std.proofs.Common.{refl, sym, ap, subst, ◌∙◌, arith}
use Rattle.std.specs.Prelude.{slice_get}
use Rattle.graft_code.specs.declared.Instr.{Instr}
use Rattle.graft_code.specs.Machine.{Machine, Done, masked_place, step_by}
use Rattle.graft_code.specs.Runs as runs
use Rattle.graft_code.specs.Runs.{CodeRun, Halt, Unanswered, AtReturn, AtDivision, AtTrap, Astray}
use Rattle.graft_code.specs.Runs.{raw_run, run_by, run_step, is_access, counted_access, answered_call, with_answer}
use Rattle.vino_host.specs.declared.Stop.{Stop}
use Rattle.vino_host.specs.declared.Stop.TheVariants as stop
use Rattle.vino_host.specs.HostMachine.{host_step}
use Rattle.vino_host.specs.HostRuns.{State, state, Ended, ended, Answered, Goes, Stops, answered}
use Rattle.vino_host.specs.HostRuns.{after_answer, after_done, host_run}
use Rattle.host_laws.specs.RawAnswers.{answer_of, answers_after, answers_of, halt_of}
use Rattle.host_laws.specs.Claims.{IsRawRun, RunsAreRaw}
use Rattle.host_laws.proofs.Masked.{steps_are_raw}
use Rattle.host_laws.proofs.Answering.{IsAnswered, is_answered}

-- at most so many instructions are left
left_after : (number : ℕ) (rest : State → Ended) (left : ℕ) (d : Done) (s : State) →
    ((q : State) → (rest q).left ≤ left) → (after_done number rest left d s).left ≤ left
left_after number rest left (Done.Went m) s h = h (state m s.table s.records)
left_after number rest left (Done.Called id m) s h = by_answer (answered number id (state m s.table s.records))
  where
    by_answer : (a : Answered) → (after_answer rest left a).left ≤ left
    by_answer (Goes q) = h q
    by_answer (Stops why q) = omega arith
left_after number rest left Done.Returned s h = omega arith
left_after number rest left Done.DividedByZero s h = omega arith
left_after number rest left (Done.Trapped code) s h = omega arith
left_after number rest left Done.Outside s h = omega arith
left_after number rest left Done.PastEnd s h = omega arith

pub left_most : (number : ℕ) (code : List Instr) (n : ℕ) (s : State) → (host_run number code n s).left ≤ n
unfolding host_run
left_most number code zero s = omega arith
left_most number code (suc n) s =
    let most = left_after number (host_run number code n) n (host_step code s.machine) s
    (λ q. left_most number code n q) in
    omega (arith, most)

raw_turn : (code : List Instr) (k : ℕ) (r : CodeRun) → r.ended ≡ None →
    raw_run code (suc k) r ≡ raw_run code k (run_step masked_place code r)
raw_turn code k r e =
    ap (λ (o : Option Halt). elim o as (λ _. CodeRun) [
      | Some halt ↦ r
      | None ↦ run_by masked_place code k (run_step masked_place code r)
    ]) e

-- one instruction of code alone, and the rest
pub turned : (code : List Instr) (n left : ℕ) (r q : CodeRun) → left ≤ n → r.ended ≡ None →
    run_step masked_place code r ≡ q → raw_run code (suc n - left) r ≡ raw_run code (n - left) q
turned code n left r q most e h =
    let a : suc n - left ≡ suc (n - left) = omega (arith, most) in
    ap (λ (k : ℕ). raw_run code k r) a ∙ raw_turn code (n - left) r e
    ∙ ap (λ (x : CodeRun). raw_run code (n - left) x) h

-- a run in which an access is counted, if it is one
abbrev pub counted : List Instr → CodeRun → CodeRun
counted code r = counted_access (is_access (slice_get code r.machine.pc)) r

-- a run that has ended
pub last_turn : (code : List Instr) (n : ℕ) (r q : CodeRun) → r.ended ≡ None → run_step masked_place code r ≡ q →
    raw_run code (suc n - n) r ≡ q
last_turn code n r q e h =
    let all : n ≤ n = omega arith in
    let none : n - n ≡ 0 = omega arith in
    turned code n n r q all e h ∙ ap (λ (k : ℕ). raw_run code k q) none

-- the rest of the run comes as far
abbrev Rest : (number : ℕ) → List Instr → ℕ → Type 0
Rest number code n =
    (q : State) (r : CodeRun) → r.machine ≡ q.machine → r.ended ≡ None → r.answers ≡ answers_of number code n q →
    IsRawRun (host_run number code n q) (raw_run code (n - (host_run number code n q).left) r)

ended_raw : (words : List Instr) (n : ℕ) (s : State) (why : Stop) (halt : Halt) (r : CodeRun) → r.machine ≡ s.machine →
    r.ended ≡ None → halt_of why ≡ Some halt →
    run_step masked_place words r ≡ record (counted words r) { ended = Some halt } →
    IsRawRun (ended why n s) (raw_run words (suc n - n) r)
ended_raw words n s why halt r em ee eh h =
    subst (λ (q : CodeRun). IsRawRun (ended why n s) q) (sym (last_turn words n r _ ee h))
    (record { ended = sym eh; machine = λ _. em })

answer_raw : (number : ℕ) (code : List Instr) (n id : ℕ) (m : Machine) (s : State) (r : CodeRun) (a : Answered) →
    Rest number code n → IsAnswered id (state m s.table s.records) a → r.ended ≡ None →
    run_step masked_place code r ≡ runs.after_done (Done.Called id m) (counted code r) →
    r.answers ≡ answer_of (answers_of number code n) a →
    IsRawRun (after_answer (host_run number code n) n a)
    (raw_run code (suc n - (after_answer (host_run number code n) n a).left) r)
answer_raw number code n id m s r (Goes q) rest said ee h ea =
    let words = code in
    let pair : ℕ × ℕ = (q.machine.regs 0, q.machine.regs 1) in
    let next : CodeRun = answered_call id m (counted words r) (pair ∷ answers_of number code n q) in
    let to : run_step masked_place words r ≡ next =
    h ∙ ap (λ (xs : List (ℕ × ℕ)). answered_call id m (counted words r) xs) ea in
    subst (λ (x : CodeRun). IsRawRun (host_run number code n q) x)
    (sym (turned words n (host_run number code n q).left r next (left_most number code n q) ee to))
    (rest q next (said.goes q refl) ee refl)
answer_raw number code n id m s r (Stops why q) rest said ee h ea =
    let words = code in
    let next : CodeRun = answered_call id m (counted words r) [] in
    let to : run_step masked_place words r ≡ next =
    h ∙ ap (λ (xs : List (ℕ × ℕ)). answered_call id m (counted words r) xs) ea in
    subst (λ (x : CodeRun). IsRawRun (ended why n q) x) (sym (last_turn words n r next ee to))
    (record { ended = sym (said.halts why q refl); machine = λ e. absurd (said.stays why q refl e) })

done_raw : (number : ℕ) (code : List Instr) (n : ℕ) (d : Done) (s : State) (r : CodeRun) →
    Rest number code n → r.machine ≡ s.machine → r.ended ≡ None →
    run_step masked_place code r ≡ runs.after_done d (counted code r) →
    r.answers ≡ answers_after number (answers_of number code n) d s →
    IsRawRun (after_done number (host_run number code n) n d s)
    (raw_run code (suc n - (after_done number (host_run number code n) n d s).left) r)
done_raw number code n (Done.Went m) s r rest em ee h ea =
    let words = code in
    let q = state m s.table s.records in
    let next : CodeRun = record (counted words r) { machine = m } in
    subst (λ (x : CodeRun). IsRawRun (host_run number code n q) x)
    (sym (turned words n (host_run number code n q).left r next (left_most number code n q) ee h))
    (rest q next refl ee ea)
done_raw number code n (Done.Called id m) s r rest em ee h ea =
    answer_raw number code n id m s r (answered number id (state m s.table s.records)) rest
    (is_answered number id (state m s.table s.records)) ee h ea
done_raw number code n Done.Returned s r rest em ee h ea = ended_raw code n s
    stop.Returns AtReturn r em ee refl h
done_raw number code n Done.DividedByZero s r rest em ee h ea = ended_raw code n s
    (stop.Drops 1 0) AtDivision r em ee refl h
done_raw number code n (Done.Trapped x) s r rest em ee h ea = ended_raw code n s
    (stop.Drops 2 x) (AtTrap x) r em ee refl h
done_raw number code n Done.Outside s r rest em ee h ea = ended_raw code n s
    (stop.Drops 17 0) Astray r em ee refl h
done_raw number code n Done.PastEnd s r rest em ee h ea = ended_raw code n s
    (stop.Drops 17 0) Astray r em ee refl h

pub runs_are_raw : RunsAreRaw
unfolding host_run answers_of
runs_are_raw number code zero s r em ee ea = record { ended = ee; machine = λ h. cc }
runs_are_raw number code (suc n) s r em ee ea =
    let words = code in
    let step : step_by masked_place words r.machine ≡ host_step code s.machine =
    ap (λ (m : Machine). step_by masked_place words m) em ∙ sym (steps_are_raw code s.machine) in
    done_raw number code n (host_step code s.machine) s r (λ q x a b c. runs_are_raw number code n q x a b c) em ee
    (ap (λ (d : Done). runs.after_done d (counted words r)) step) ea
