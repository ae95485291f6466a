-- What came of a call of a plug-in, as an answer of a list.
use Rattle.std.proofs.Common.{◌≡◌, ℕ, ◌≤◌, Bool, true, false, cond, not, List, [], ◌∷◌, ◌++◌}
use Rattle.std.proofs.Common.{Option, None, Some, refl, sym, ap, ◌∙◌, arith}
use Rattle.std.specs.Prelude.{◌==◌, nat_le, slice_get, slice_set}
use Rattle.std.proofs.lemmas.Bool.{leb-true, ne_eqb}
use Rattle.graft_code.specs.Objects.{at}
use Rattle.graft_code.specs.Machine.{Machine}
use Rattle.graft_code.specs.Runs.{Unanswered, with_answer}
use Rattle.vino_host.specs.declared.Record.{Record}
use Rattle.vino_host.specs.declared.Stop.{Stop}
use Rattle.vino_host.specs.declared.Stop.TheVariants as stop
use Rattle.vino_host.specs.declared.Word.{Word}
use Rattle.vino_host.specs.Codes.{BUSY, NO_RECORDS, BAD_ARGUMENT, NOT_CALLABLE}
use Rattle.vino_host.specs.HostRuns.{State, state, Answered, Goes, Stops, after_word, answered, with_r0}
use Rattle.vino_host.specs.Tables.{Serves, Gives, Refuses, may_serve, is_held, is_full, taken}
use Rattle.vino_host.specs.Tables.{record_of, serves_word, serves}
use Rattle.host_laws.specs.RawAnswers.{halt_by, halt_of}

refused_by : (number id k v : ℕ) (table : List Word) (records : List Record) (cause detail : ℕ) →
    serves number id k v table records ≡ Refuses cause → halt_by cause detail ≡ Some (Unanswered detail)
refused_by number id k v table records cause detail h = by_word (slice_get table k) h
  where
    as_cause : (q : ℕ) → q ≡ cause → halt_by q detail ≡ Some (Unanswered detail) →
        halt_by cause detail ≡ Some (Unanswered detail)
    as_cause q e g = ap (λ (x : ℕ). halt_by x detail) (sym e) ∙ g

    by_tests : (a b c : Bool) (w : Word) →
        cond (not a) (Refuses BUSY) (cond b (Gives w.value table records)
        (cond c (Refuses NO_RECORDS)
        (Gives w.value (slice_set table k (taken number id v w)) (records ++ record_of id k w ∷ []))))
        ≡ Refuses cause → halt_by cause detail ≡ Some (Unanswered detail)
    by_tests false b c w h = let same : 16 ≡ cause = cc in as_cause 16 same refl
    by_tests true true c w h = cc
    by_tests true false true w h = let same : 10 ≡ cause = cc in as_cause 10 same refl
    by_tests true false false w h = cc

    by_word : (o : Option Word) →
        elim o [ None ↦ Refuses BAD_ARGUMENT | Some w ↦ serves_word number id k v table records w ] ≡ Refuses cause →
        halt_by cause detail ≡ Some (Unanswered detail)
    by_word None h = let same : 4 ≡ cause = cc in as_cause 4 same refl
    by_word (Some w) h = by_tests (may_serve number id k records w) (is_held number id k records w)
        (is_full records w) w h

-- what came of a call is an answer, or the end of the run at the call
pub record IsAnswered (id : ℕ) (s : State) (a : Answered) : Type 0 where
  pub goes : (q : State) → a ≡ Goes q → with_answer id (q.machine.regs 0, q.machine.regs 1) s.machine ≡ q.machine
  pub halts : (why : Stop) (q : State) → a ≡ Stops why q → halt_of why ≡ Some (Unanswered id)
  pub stays : (why : Stop) (q : State) → a ≡ Stops why q → why ≡ stop.Returns → ⊥
  pub here : (why : Stop) (q : State) → a ≡ Stops why q → q ≡ s

shown : (id x : ℕ) (m : Machine) (t : Bool) → (id == 13) ≡ t → t ≡ false →
    with_answer id ((with_r0 x m).regs 0, (with_r0 x m).regs 1) m ≡ with_r0 x m
shown id x m true e f = cc
shown id x m false e f =
    ap (λ (b : Bool). seen b) e
  where
    seen : Bool → Machine
    seen b = record {
      regs = cond b (at 1 ((with_r0 x m).regs 1) (at 0 x m.regs)) (at 0 x m.regs);
      pc = m.pc;
      memory = m.memory;
    }

pub is_answered : (number id : ℕ) (s : State) → IsAnswered id s (answered number id s)
is_answered number id s = by_id (nat_le id 1) (nat_le id 15) refl
  where
    by_serves : (q : Serves) → serves number id (s.machine.regs 0) (s.machine.regs 1) s.table s.records ≡ q →
        nat_le id 1 ≡ true → IsAnswered id s (after_word id s q)
    by_serves (Gives x table records) e low =
        let small : id ≤ 1 = leb-true id 1 low in
        let other : (id == 13) ≡ false = ne_eqb id 13 (λ h. omega (arith, small, h)) in
        record {
          goes = λ q h.
              let same : state (with_r0 x s.machine) table records ≡ q = cc in
              ap (λ (p : State). with_answer id (p.machine.regs 0, p.machine.regs 1) s.machine) (sym same)
              ∙ shown id x s.machine (id == 13) refl other ∙ ap (λ (p : State). p.machine) same;
          halts = λ why q h. cc;
          stays = λ why q h e. cc;
          here = λ why q h. cc;
        }
    by_serves (Refuses cause) e low =
        let is : halt_by cause id ≡ Some (Unanswered id) =
        refused_by number id (s.machine.regs 0) (s.machine.regs 1) s.table s.records cause id e in
        record {
          goes = λ q h. cc;
          halts = λ why q h. let same : stop.Drops cause id ≡ why = cc in ap (λ (w : Stop). halt_of w) (sym same) ∙ is;
          stays = λ why q h e. let same : stop.Drops cause id ≡ why = cc in cc;
          here = λ why q h. cc;
        }

    stopped : (x : Stop) → halt_of x ≡ Some (Unanswered id) → (x ≡ stop.Returns → ⊥) → IsAnswered id s (Stops x s)
    stopped x h g =
        record {
          goes = λ q e. cc;
          halts = λ why q e. let same : x ≡ why = cc in ap (λ (w : Stop). halt_of w) (sym same) ∙ h;
          stays = λ why q e k. let same : x ≡ why = cc in g (same ∙ k);
          here = λ why q e. cc;
        }

    by_id : (a b : Bool) → nat_le id 1 ≡ a →
        IsAnswered id s (elim a [
          | true ↦ after_word id s (serves number id (s.machine.regs 0) (s.machine.regs 1) s.table s.records)
          | false ↦ elim b [ true ↦ Stops (stop.Waits id) s | false ↦ Stops (stop.Drops NOT_CALLABLE id) s ]
        ])
    by_id true b e = by_serves (serves number id (s.machine.regs 0) (s.machine.regs 1) s.table s.records) refl e
    by_id false true e = stopped (stop.Waits id) refl (λ h. cc)
    by_id false false e = stopped (stop.Drops NOT_CALLABLE id) refl (λ h. cc)
