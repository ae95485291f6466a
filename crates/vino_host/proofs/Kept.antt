-- What a run's records say is put back is at each moment the table with which it began.
use Rattle.std.proofs.Common.{◌≡◌, ℕ, zero, suc, Bool, true, false, cond, List, [], ◌∷◌, ◌++◌, refl}
use Rattle.std.proofs.Common.{ap, ◌∙◌, Option, Some, None}
use Rattle.std.specs.Prelude.{not, nat_le, slice_get, slice_set}
use Rattle.graft_code.specs.Machine.{Done}
use Rattle.graft_code.specs.declared.Instr.{Instr}
use Rattle.vino_host.specs.declared.Record.{Record}
use Rattle.vino_host.specs.declared.Word.{Word}
use Rattle.vino_host.specs.Codes.{BUSY, NO_RECORDS, BAD_ARGUMENT, NOT_CALLABLE}
use Rattle.vino_host.specs.declared.Stop.TheVariants as stop
use Rattle.vino_host.specs.HostMachine.{host_step}
use Rattle.vino_host.specs.HostRuns.{State, state, Ended, Answered, after_word, answered}
use Rattle.vino_host.specs.HostRuns.{after_answer, after_done, host_run, with_r0}
use Rattle.vino_host.specs.Tables.{Serves, Gives, Refuses, may_serve, is_held, is_full, taken}
use Rattle.vino_host.specs.Tables.{record_of, serves_word, serves, undone}
use Rattle.vino_host.proofs.Undoing.{undone_behind, set_back}

-- the table with which a run began
abbrev pub first_table : State → List Word
first_table s = undone s.records s.table

gives_kept : (number id k v : ℕ) (table : List Word) (records : List Record) (x : ℕ) (t : List Word) (r : List Record) →
    serves number id k v table records ≡ Gives x t r → undone r t ≡ undone records table
gives_kept number id k v table records x t r h = by_word (slice_get table k) refl h
  where
    by_tests : (a b c : Bool) (w : Word) → slice_get table k ≡ Some w →
        cond (not a) (Refuses BUSY) (cond b (Gives w.value table records)
        (cond c (Refuses NO_RECORDS)
        (Gives w.value (slice_set table k (taken number id v w)) (records ++ record_of id k w ∷ []))))
        ≡ Gives x t r → undone r t ≡ undone records table
    by_tests false b c w e h = cc
    by_tests true true c w e h = cc
    by_tests true false true w e h = cc
    by_tests true false false w e h =
        let back : undone (records ++ record_of id k w ∷ [])
        (slice_set table k (taken number id v w)) ≡ undone records table =
        undone_behind records (record_of id k w) (slice_set table k (taken number id v w))
        ∙ ap (λ (u : List Word). undone records u) (set_back table number id k v w e) in cc

    by_word : (o : Option Word) → slice_get table k ≡ o →
        elim o [ None ↦ Refuses BAD_ARGUMENT | Some w ↦ serves_word number id k v table records w ] ≡ Gives x t r →
        undone r t ≡ undone records table
    by_word None e h = cc
    by_word (Some w) e h =
        by_tests (may_serve number id k records w) (is_held number id k records w) (is_full records w) w e h

answer_kept : (number id : ℕ) (rest : State → Ended) (left : ℕ) (s : State) →
    ((q : State) → first_table (rest q).state ≡ first_table q) →
    first_table (after_answer rest left (answered number id s)).state ≡ first_table s
answer_kept number id rest left s h = by_id (nat_le id 1) (nat_le id 15)
  where
    by_serves : (q : Serves) → serves number id (s.machine.regs 0) (s.machine.regs 1) s.table s.records ≡ q →
        first_table (after_answer rest left (after_word id s q)).state ≡ first_table s
    by_serves (Refuses cause) e = refl
    by_serves (Gives x t r) e =
        h (state (with_r0 x s.machine) t r)
        ∙ gives_kept number id (s.machine.regs 0) (s.machine.regs 1) s.table s.records x t r e

    by_id : (a b : Bool) →
        first_table (after_answer rest left (elim a [
          | true ↦ after_word id s (serves number id (s.machine.regs 0) (s.machine.regs 1) s.table s.records)
          | false ↦ elim b [
            | true ↦ Answered.Stops (stop.Waits id) s
            | false ↦ Answered.Stops (stop.Drops NOT_CALLABLE id) s
          ]
        ])).state ≡ first_table s
    by_id true b = by_serves (serves number id (s.machine.regs 0) (s.machine.regs 1) s.table s.records) refl
    by_id false true = refl
    by_id false false = refl

done_kept : (number : ℕ) (rest : State → Ended) (left : ℕ) (d : Done) (s : State) →
    ((q : State) → first_table (rest q).state ≡ first_table q) →
    first_table (after_done number rest left d s).state ≡ first_table s
done_kept number rest left (Done.Went m) s h = h (state m s.table s.records)
done_kept number rest left (Done.Called id m) s h = answer_kept number id rest left (state m s.table s.records) h
done_kept number rest left Done.Returned s h = refl
done_kept number rest left Done.DividedByZero s h = refl
done_kept number rest left (Done.Trapped code) s h = refl
done_kept number rest left Done.Outside s h = refl
done_kept number rest left Done.PastEnd s h = refl

-- a run keeps the table with which it began
pub run_kept : (number : ℕ) (code : List Instr) (n : ℕ) (s : State) →
    first_table (host_run number code n s).state ≡ first_table s
unfolding host_run
run_kept number code zero s = refl
run_kept number code (suc n) s =
    done_kept number (host_run number code n) n (host_step code s.machine) s (λ q. run_kept number code n q)
