-- A run to whose calls the host answers, and the run of its code alone.
use Rattle.std.proofs.Common.{◌≡◌, ℕ, zero, suc, ◌+◌, ◌-◌, ◌≤◌, ◌==◌, Bool, true, false, cond, List, [], ◌∷◌, ◌++◌}
use Rattle.std.proofs.Common.{Option, None, Some, refl, sym, ap, subst, ◌∙◌, arith}
use Rattle.std.proofs.lemmas.Bool.{eqb-true}
use mathlib.Core.Path.{fun_ext}
use Rattle.graft_code.specs.Objects.{at}
use Rattle.graft_code.specs.declared.Instr.{Instr}
use Rattle.graft_code.specs.Machine.{Machine, Done, masked_place, step_by}
use Rattle.graft_code.specs.Runs as runs
use Rattle.graft_code.specs.Runs.{CodeRun, Halt, Unanswered, raw_run, run_by, run_step, answered_call, with_answer}
use Rattle.vino_host.specs.declared.Stop.{Stop}
use Rattle.vino_host.specs.declared.Stop.TheVariants as stop
use Rattle.vino_host.specs.HostMachine.{host_step}
use Rattle.vino_host.specs.HostRuns.{State, state, Ended, ended, Answered, Goes, Stops, answered}
use Rattle.vino_host.specs.HostRuns.{after_answer, after_done, host_run, with_r0}
use Rattle.host_laws.specs.RawAnswers.{answer_of, answers_after, answers_of, halt_of}
use Rattle.host_laws.specs.Talks.{host_talk, talk_answers, after_wait, answers_behind, with_word}
use Rattle.host_laws.specs.Claims.{IsRawRun}
use Rattle.host_laws.proofs.Masked.{steps_are_raw}
use Rattle.host_laws.proofs.Answering.{IsAnswered, is_answered}
use Rattle.host_laws.proofs.RawRuns.{left_most, turned, last_turn, counted, runs_are_raw}

-- ---- up to a call that the host answers

-- the run of code alone has taken the answer to the call at which a plug-in's run waits
record HasTaken (id : ℕ) (pair : ℕ × ℕ) (tail : List (ℕ × ℕ)) (e : Ended) (q : CodeRun) : Type 0 where
  machine : q.machine ≡ with_answer id pair e.state.machine
  ended : q.ended ≡ None
  answers : q.answers ≡ tail

-- the rest of a run that waits comes as far
abbrev Rest : (number : ℕ) → List Instr → ℕ → (id : ℕ) → ℕ × ℕ → List (ℕ × ℕ) → Type 0
Rest number code n id pair tail =
    (q : State) (r : CodeRun) → r.machine ≡ q.machine → r.ended ≡ None →
    r.answers ≡ answers_of number code n q ++ pair ∷ tail → (host_run number code n q).stop ≡ stop.Waits id →
    HasTaken id pair tail (host_run number code n q) (raw_run code (n - (host_run number code n q).left) r)

answer_taken : (number : ℕ) (code : List Instr) (n id called : ℕ) (pair : ℕ × ℕ) (tail : List (ℕ × ℕ)) (m : Machine)
    (s : State) (r : CodeRun) (a : Answered) →
    Rest number code n id pair tail → IsAnswered called (state m s.table s.records) a → r.ended ≡ None →
    run_step masked_place code r ≡ runs.after_done (Done.Called called m) (counted code r) →
    r.answers ≡ answer_of (answers_of number code n) a ++ pair ∷ tail →
    (after_answer (host_run number code n) n a).stop ≡ stop.Waits id →
    HasTaken id pair tail (after_answer (host_run number code n) n a)
    (raw_run code (suc n - (after_answer (host_run number code n) n a).left) r)
answer_taken number code n id called pair tail m s r (Goes q) rest said ee h ea waits =
    let given : ℕ × ℕ = (q.machine.regs 0, q.machine.regs 1) in
    let next : CodeRun =
    answered_call called m (counted code r) (given ∷ (answers_of number code n q ++ pair ∷ tail)) in
    let to : run_step masked_place code r ≡ next =
    h ∙ ap (λ (xs : List (ℕ × ℕ)). answered_call called m (counted code r) xs) ea in
    subst (λ (x : CodeRun). HasTaken id pair tail (host_run number code n q) x)
    (sym (turned code n (host_run number code n q).left r next (left_most number code n q) ee to))
    (rest q next (said.goes q refl) ee refl waits)
answer_taken number code n id called pair tail m s r (Stops why q) rest said ee h ea waits =
    let next : CodeRun = answered_call called m (counted code r) (pair ∷ tail) in
    let to : run_step masked_place code r ≡ next =
    h ∙ ap (λ (xs : List (ℕ × ℕ)). answered_call called m (counted code r) xs) ea in
    let both : ◌≡◌ {A = Option Halt} (Some (Unanswered id)) (Some (Unanswered called)) =
    ap (λ (w : Stop). halt_of w) (sym waits) ∙ said.halts why q refl in
    let same : called ≡ id = cc in
    let here : m ≡ q.machine = ap (λ (x : State). x.machine) (sym (said.here why q refl)) in
    subst (λ (x : CodeRun). HasTaken id pair tail (ended why n q) x) (sym (last_turn code n r next ee to))
    (record {
      machine = ap (λ (i : ℕ). with_answer i pair m) same ∙ ap (λ (x : Machine). with_answer id pair x) here;
      ended = ee;
      answers = refl;
    })

done_taken : (number : ℕ) (code : List Instr) (n id : ℕ) (pair : ℕ × ℕ) (tail : List (ℕ × ℕ)) (d : Done) (s : State)
    (r : CodeRun) → Rest number code n id pair tail → r.machine ≡ s.machine → r.ended ≡ None →
    run_step masked_place code r ≡ runs.after_done d (counted code r) →
    r.answers ≡ answers_after number (answers_of number code n) d s ++ pair ∷ tail →
    (after_done number (host_run number code n) n d s).stop ≡ stop.Waits id →
    HasTaken id pair tail (after_done number (host_run number code n) n d s)
    (raw_run code (suc n - (after_done number (host_run number code n) n d s).left) r)
done_taken number code n id pair tail (Done.Went m) s r rest em ee h ea waits =
    let q = state m s.table s.records in
    let next : CodeRun = record (counted code r) { machine = m } in
    subst (λ (x : CodeRun). HasTaken id pair tail (host_run number code n q) x)
    (sym (turned code n (host_run number code n q).left r next (left_most number code n q) ee h))
    (rest q next refl ee ea waits)
done_taken number code n id pair tail (Done.Called called m) s r rest em ee h ea waits =
    answer_taken number code n id called pair tail m s r (answered number called (state m s.table s.records)) rest
    (is_answered number called (state m s.table s.records)) ee h ea waits
done_taken number code n id pair tail Done.Returned s r rest em ee h ea waits = cc
done_taken number code n id pair tail Done.DividedByZero s r rest em ee h ea waits = cc
done_taken number code n id pair tail (Done.Trapped x) s r rest em ee h ea waits = cc
done_taken number code n id pair tail Done.Outside s r rest em ee h ea waits = cc
done_taken number code n id pair tail Done.PastEnd s r rest em ee h ea waits = cc

taken : (number : ℕ) (code : List Instr) (n id : ℕ) (pair : ℕ × ℕ) (tail : List (ℕ × ℕ)) →
    Rest number code n id pair tail
unfolding host_run answers_of
taken number code zero id pair tail s r em ee ea waits = cc
taken number code (suc n) id pair tail s r em ee ea waits =
    let step : step_by masked_place code r.machine ≡ host_step code s.machine =
    ap (λ (m : Machine). step_by masked_place code m) em ∙ sym (steps_are_raw code s.machine) in
    done_taken number code n id pair tail (host_step code s.machine) s r
    (λ q x a b c d. taken number code n id pair tail q x a b c d) em ee
    (ap (λ (d : Done). runs.after_done d (counted code r)) step) ea waits

-- ---- behind it

-- an answer whose r1 is the machine's own sets r0 alone
word_shown : (id x : ℕ) (m : Machine) → with_answer id (x, m.regs 1) m ≡ with_r0 x m
word_shown id x m = by_id (id == 13)
  where
    again : (i : ℕ) → at 1 (m.regs 1) (at 0 x m.regs) i ≡ at 0 x m.regs i
    again i = by_test (i == 1) refl
      where
        by_test : (t : Bool) → (i == 1) ≡ t → cond t (m.regs 1) (at 0 x m.regs i) ≡ at 0 x m.regs i
        by_test true e = ap (λ (j : ℕ). at 0 x m.regs j) (sym (eqb-true i 1 e))
        by_test false e = refl

    by_id : (t : Bool) →
        ◌≡◌ {A = Machine} (record {
          regs = cond t (at 1 (m.regs 1) (at 0 x m.regs)) (at 0 x m.regs);
          pc = m.pc;
          memory = m.memory;
        }) (with_r0 x m)
    by_id true =
        ap (λ (f : ℕ → ℕ). let q : Machine = record { regs = f; pc = m.pc; memory = m.memory } in q) (fun_ext again)
    by_id false = refl

-- a run in two parts
in_parts : (code : List Instr) (a b : ℕ) (r : CodeRun) → raw_run code (a + b) r ≡ raw_run code b (raw_run code a r)
in_parts code zero b r = let same : 0 + b ≡ b = omega arith in ap (λ (k : ℕ). raw_run code k r) same
in_parts code (suc a) b r =
    let same : suc a + b ≡ suc (a + b) = omega arith in
    ap (λ (k : ℕ). raw_run code k r) same ∙ by_end (in_parts code a b (run_step masked_place code r)) r.ended refl
  where
    after_end : (k : ℕ) (halt : Halt) → r.ended ≡ Some halt → run_by masked_place code k r ≡ r
    after_end zero halt e = refl
    after_end (suc k) halt e =
        ap (λ (o : Option Halt). elim o as (λ _. CodeRun) [
          | Some h ↦ r
          | None ↦ run_by masked_place code k (run_step masked_place code r)
        ]) e

    by_end : run_by masked_place code (a + b) (run_step masked_place code r)
        ≡ run_by masked_place code b (run_by masked_place code a (run_step masked_place code r)) →
        (o : Option Halt) → r.ended ≡ o →
        ◌≡◌ {A = CodeRun} (elim o as (λ _. CodeRun) [
          | Some h ↦ r
          | None ↦ run_by masked_place code (a + b) (run_step masked_place code r)
        ]) (run_by masked_place code b (elim o as (λ _. CodeRun) [
          | Some h ↦ r
          | None ↦ run_by masked_place code a (run_step masked_place code r)
        ]))
    by_end rest (Some halt) e = sym (after_end b halt e)
    by_end rest None e = rest

nothing_more : (xs : List (ℕ × ℕ)) → xs ++ [] ≡ xs
nothing_more [] = refl
nothing_more (x ∷ xs) = ap (λ (ys : List (ℕ × ℕ)). x ∷ ys) (nothing_more xs)

-- ---- the whole

pub talk_left : (number : ℕ) (code : List Instr) (words : List ℕ) (n : ℕ) (s : State) →
    (host_talk number code words n s).left ≤ n
unfolding host_talk
talk_left number code [] n s = left_most number code n s
talk_left number code (x ∷ xs) n s = by_stop (λ k q. talk_left number code xs k q) (host_run number code n s).stop
  where
    first : Ended
    first = host_run number code n s

    by_stop : ((k : ℕ) (q : State) → (host_talk number code xs k q).left ≤ k) → (why : Stop) →
        (after_wait (host_talk number code xs) x first why).left ≤ n
    by_stop rest stop.Returns = left_most number code n s
    by_stop rest (stop.Waits id) =
        omega (arith, rest first.left (with_word x first), left_most number code n s)
    by_stop rest (stop.Drops cause detail) = left_most number code n s

-- from the same machine on, with the words that the table and the host give, the code with each
-- address masked comes after as many instructions as far as the plug-in
pub talks_are_raw : (number : ℕ) (code : List Instr) (words : List ℕ) (n : ℕ) (s : State) (r : CodeRun) →
    r.machine ≡ s.machine → r.ended ≡ None → r.answers ≡ talk_answers number code words n s →
    IsRawRun (host_talk number code words n s) (raw_run code (n - (host_talk number code words n s).left) r)
unfolding host_talk talk_answers
talks_are_raw number code [] n s r em ee ea = runs_are_raw number code n s r em ee ea
talks_are_raw number code (x ∷ xs) n s r em ee ea =
    by_stop (λ k q c a b d. talks_are_raw number code xs k q c a b d) (host_run number code n s).stop refl ea
  where
    first : Ended
    first = host_run number code n s

    alone : r.answers ≡ answers_of number code n s ++ [] → IsRawRun first (raw_run code (n - first.left) r)
    alone g = runs_are_raw number code n s r em ee (g ∙ nothing_more (answers_of number code n s))

    by_stop : ((k : ℕ) (q : State) (c : CodeRun) → c.machine ≡ q.machine → c.ended ≡ None →
        c.answers ≡ talk_answers number code xs k q →
        IsRawRun (host_talk number code xs k q) (raw_run code (k - (host_talk number code xs k q).left) c)) →
        (why : Stop) → first.stop ≡ why →
        r.answers ≡ answers_of number code n s ++ answers_behind (talk_answers number code xs) x first why →
        IsRawRun (after_wait (host_talk number code xs) x first why)
        (raw_run code (n - (after_wait (host_talk number code xs) x first why).left) r)
    by_stop rest stop.Returns is g = alone g
    by_stop rest (stop.Drops cause detail) is g = alone g
    by_stop rest (stop.Waits id) is g =
        let pair : ℕ × ℕ = (x, first.state.machine.regs 1) in
        let tail = talk_answers number code xs first.left (with_word x first) in
        let last : Ended = host_talk number code xs first.left (with_word x first) in
        let next : CodeRun = raw_run code (n - first.left) r in
        let has = taken number code n id pair tail s r em ee g is in
        let here : next.machine ≡ (with_word x first).machine =
        has.machine ∙ word_shown id x first.state.machine in
        let both : n - last.left ≡ (n - first.left) + (first.left - last.left) =
        omega (arith, left_most number code n s, talk_left number code xs first.left (with_word x first)) in
        subst (λ (q : CodeRun). IsRawRun last q)
        (sym (ap (λ (k : ℕ). raw_run code k r) both ∙ in_parts code (n - first.left) (first.left - last.left) r))
        (rest first.left (with_word x first) next here has.ended has.answers)
