-- A run is dropped for a cause, which isn't 0.
use Rattle.std.proofs.Common.{◌≡◌, ℕ, zero, suc, Bool, true, false, cond, not, List, [], ◌∷◌, ◌++◌}
use Rattle.std.proofs.Common.{Option, None, Some, refl, sym, ap, ◌∙◌}
use Rattle.std.specs.Prelude.{◌==◌, nat_le, slice_get, slice_set}
use Rattle.graft_code.specs.Machine.{Done}
use Rattle.graft_code.specs.declared.Instr.{Instr}
use Rattle.vino_host.specs.declared.Record.{Record}
use Rattle.vino_host.specs.declared.Stop.{Stop}
use Rattle.vino_host.specs.declared.Stop.TheVariants as stop
use Rattle.vino_host.specs.declared.Word.{Word}
use Rattle.vino_host.specs.Codes.{BUSY, NO_RECORDS, BAD_ARGUMENT, NOT_CALLABLE}
use Rattle.vino_host.specs.HostMachine.{host_step}
use Rattle.vino_host.specs.HostRuns.{State, state, Ended, Stops, after_word, answered, after_answer}
use Rattle.vino_host.specs.HostRuns.{after_done, host_run, with_r0}
use Rattle.vino_host.specs.Tables.{Serves, Gives, Refuses, may_serve, is_held, is_full, taken}
use Rattle.vino_host.specs.Tables.{record_of, serves_word, serves}

-- it isn't dropped for no cause
abbrev pub has_cause : Stop → Bool
has_cause stop.Returns = true
has_cause (stop.Waits id) = true
has_cause (stop.Drops cause detail) = not (cause == 0)

refused_cause : (number id k v : ℕ) (table : List Word) (records : List Record) (cause : ℕ) →
    serves number id k v table records ≡ Refuses cause → not (cause == 0) ≡ true
refused_cause number id k v table records cause h = by_word (slice_get table k) h
  where
    as_cause : (q : ℕ) → q ≡ cause → not (q == 0) ≡ true → not (cause == 0) ≡ true
    as_cause q e g = ap (λ (x : ℕ). not (x == 0)) (sym e) ∙ g

    by_tests : (a b c : Bool) (w : Word) →
        cond (not a) (Refuses BUSY) (cond b (Gives w.value table records)
        (cond c (Refuses NO_RECORDS)
        (Gives w.value (slice_set table k (taken number id v w)) (records ++ record_of id k w ∷ []))))
        ≡ Refuses cause → not (cause == 0) ≡ true
    by_tests false b c w h = let same : 16 ≡ cause = cc in as_cause 16 same refl
    by_tests true true c w h = cc
    by_tests true false true w h = let same : 10 ≡ cause = cc in as_cause 10 same refl
    by_tests true false false w h = cc

    by_word : (o : Option Word) →
        elim o [ None ↦ Refuses BAD_ARGUMENT | Some w ↦ serves_word number id k v table records w ] ≡ Refuses cause →
        not (cause == 0) ≡ true
    by_word None h = let same : 4 ≡ cause = cc in as_cause 4 same refl
    by_word (Some w) h = by_tests (may_serve number id k records w) (is_held number id k records w)
        (is_full records w) w h

answer_cause : (number id : ℕ) (rest : State → Ended) (left : ℕ) (s : State) →
    ((q : State) → has_cause (rest q).stop ≡ true) →
    has_cause (after_answer rest left (answered number id s)).stop ≡ true
answer_cause number id rest left s h = by_id (nat_le id 1) (nat_le id 15)
  where
    by_serves : (q : Serves) → serves number id (s.machine.regs 0) (s.machine.regs 1) s.table s.records ≡ q →
        has_cause (after_answer rest left (after_word id s q)).stop ≡ true
    by_serves (Refuses cause) e = refused_cause number id (s.machine.regs 0) (s.machine.regs 1)
        s.table s.records cause e
    by_serves (Gives x t r) e = h (state (with_r0 x s.machine) t r)

    by_id : (a b : Bool) →
        has_cause (after_answer rest left (elim a [
          | true ↦ after_word id s (serves number id (s.machine.regs 0) (s.machine.regs 1) s.table s.records)
          | false ↦ elim b [ true ↦ Stops (stop.Waits id) s | false ↦ Stops (stop.Drops NOT_CALLABLE id) s ]
        ])).stop ≡ true
    by_id true b = by_serves (serves number id (s.machine.regs 0) (s.machine.regs 1) s.table s.records) refl
    by_id false true = refl
    by_id false false = refl

done_cause : (number : ℕ) (rest : State → Ended) (left : ℕ) (d : Done) (s : State) →
    ((q : State) → has_cause (rest q).stop ≡ true) → has_cause (after_done number rest left d s).stop ≡ true
done_cause number rest left (Done.Went m) s h = h (state m s.table s.records)
done_cause number rest left (Done.Called id m) s h = answer_cause number id rest left (state m s.table s.records) h
done_cause number rest left Done.Returned s h = refl
done_cause number rest left Done.DividedByZero s h = refl
done_cause number rest left (Done.Trapped code) s h = refl
done_cause number rest left Done.Outside s h = refl
done_cause number rest left Done.PastEnd s h = refl

pub run_cause : (number : ℕ) (code : List Instr) (n : ℕ) (s : State) →
    has_cause (host_run number code n s).stop ≡ true
unfolding host_run
run_cause number code zero s = refl
run_cause number code (suc n) s =
    done_cause number (host_run number code n) n (host_step code s.machine) s (λ q. run_cause number code n q)
