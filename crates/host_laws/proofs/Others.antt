-- A run leaves the words of other calls as they are.
use Rattle.std.proofs.Common.{◌≡◌, ℕ, zero, suc, Bool, true, false, cond, not, List, [], ◌∷◌, ◌++◌}
use Rattle.std.proofs.Common.{Option, None, Some, refl, sym, ap, ◌∙◌, ◌⊎◌, inl, inr}
use Rattle.std.specs.Prelude.{◌==◌, ◌||◌, nat_le, slice_get, slice_set}
use Rattle.std.proofs.lemmas.Bool.{cases_eq, and_parts}
use Rattle.graft_code.specs.Machine.{Done}
use Rattle.vino_host.specs.declared.Record.{Record}
use Rattle.vino_host.specs.declared.Stop.TheVariants as stop
use Rattle.vino_host.specs.declared.Word.{Word}
use Rattle.vino_host.specs.Codes.{BUSY, NO_RECORDS, BAD_ARGUMENT, NOT_CALLABLE}
use Rattle.vino_host.specs.HostMachine.{host_step}
use Rattle.vino_host.specs.HostRuns.{State, state, Ended, Stops, after_word, answered, after_answer}
use Rattle.vino_host.specs.HostRuns.{after_done, host_run, with_r0}
use Rattle.vino_host.specs.Tables.{Serves, Gives, Refuses, is_open_to, may_serve, is_held, is_full}
use Rattle.vino_host.specs.Tables.{taken, record_of, readings, serves_word, serves}
use Rattle.host_laws.specs.Claims.{LeavesOthers, RunsLeaveOthers}

-- a place that isn't written
pub get_other : (xs : List Word) (i j : ℕ) (v : Word) → (j ≡ i → ⊥) → slice_get (slice_set xs i v) j ≡ slice_get xs j
get_other [] i j v h = refl
get_other (x ∷ xs) zero zero v h = absurd (h refl)
get_other (x ∷ xs) zero (suc j) v h = refl
get_other (x ∷ xs) (suc i) zero v h = refl
get_other (x ∷ xs) (suc i) (suc j) v h = get_other xs i j v (λ e. h (ap suc e))

-- a word of this call is written
set_leaves : (number k : ℕ) (table : List Word) (w v : Word) → slice_get table k ≡ Some w → is_open_to number w ≡ true →
    LeavesOthers number table (slice_set table k v)
set_leaves number k table w v at mine j u e f = by_place (cases_eq j k)
  where
    by_place : (j ≡ k) ⊎ (j ≡ k → ⊥) → slice_get (slice_set table k v) j ≡ Some u
    by_place (inl same) =
        let there : Some u ≡ Some w = sym e ∙ ap (λ (i : ℕ). slice_get table i) same ∙ at in
        let word : u ≡ w = cc in
        let bad : true ≡ false = sym mine ∙ ap (λ (x : Word). is_open_to number x) (sym word) ∙ f in cc
    by_place (inr other) = get_other table k j v other ∙ e

gives_leaves : (number id k v : ℕ) (table : List Word) (records : List Record) (x : ℕ)
    (t : List Word) (r : List Record) →
    serves number id k v table records ≡ Gives x t r → LeavesOthers number table t
gives_leaves number id k v table records x t r h = by_word (slice_get table k) refl h
  where
    same_leaves : (u : List Word) → u ≡ t → LeavesOthers number table u → LeavesOthers number table t
    same_leaves u same g j w e f = ap (λ (y : List Word). slice_get y j) (sym same) ∙ g j w e f

    by_tests : (a b c : Bool) (w : Word) → slice_get table k ≡ Some w → may_serve number id k records w ≡ a →
        cond (not a) (Refuses BUSY) (cond b (Gives w.value table records)
        (cond c (Refuses NO_RECORDS)
        (Gives w.value (slice_set table k (taken number id v w)) (records ++ record_of id k w ∷ []))))
        ≡ Gives x t r → LeavesOthers number table t
    by_tests false b c w e o h = cc
    by_tests true true c w e o h =
        let same : table ≡ t = cc in same_leaves table same (λ j u e f. e)
    by_tests true false true w e o h = cc
    by_tests true false false w e o h =
        let same : slice_set table k (taken number id v w) ≡ t = cc in
        same_leaves (slice_set table k (taken number id v w)) same
        (set_leaves number k table w (taken number id v w) e
        (and_parts (is_open_to number w) (not (id == 1) || nat_le w.readers (readings k records)) o).0)

    by_word : (o : Option Word) → slice_get table k ≡ o →
        elim o [ None ↦ Refuses BAD_ARGUMENT | Some w ↦ serves_word number id k v table records w ] ≡ Gives x t r →
        LeavesOthers number table t
    by_word None e h = cc
    by_word (Some w) e h =
        by_tests (may_serve number id k records w) (is_held number id k records w) (is_full records w) w e refl h

answer_leaves : (number id : ℕ) (rest : State → Ended) (left : ℕ) (s : State) →
    ((q : State) → LeavesOthers number q.table (rest q).state.table) →
    LeavesOthers number s.table (after_answer rest left (answered number id s)).state.table
answer_leaves number id rest left s h = by_id (nat_le id 1) (nat_le id 15)
  where
    by_serves : (q : Serves) → serves number id (s.machine.regs 0) (s.machine.regs 1) s.table s.records ≡ q →
        LeavesOthers number s.table (after_answer rest left (after_word id s q)).state.table
    by_serves (Refuses cause) e j w there f = there
    by_serves (Gives x t r) e j w there f =
        h (state (with_r0 x s.machine) t r) j w
        (gives_leaves number id (s.machine.regs 0) (s.machine.regs 1) s.table s.records x t r e j w there f) f

    by_id : (a b : Bool) →
        LeavesOthers number s.table (after_answer rest left (elim a [
          | true ↦ after_word id s (serves number id (s.machine.regs 0) (s.machine.regs 1) s.table s.records)
          | false ↦ elim b [ true ↦ Stops (stop.Waits id) s | false ↦ Stops (stop.Drops NOT_CALLABLE id) s ]
        ])).state.table
    by_id true b = by_serves (serves number id (s.machine.regs 0) (s.machine.regs 1) s.table s.records) refl
    by_id false true = λ j w there f. there
    by_id false false = λ j w there f. there

done_leaves : (number : ℕ) (rest : State → Ended) (left : ℕ) (d : Done) (s : State) →
    ((q : State) → LeavesOthers number q.table (rest q).state.table) →
    LeavesOthers number s.table (after_done number rest left d s).state.table
done_leaves number rest left (Done.Went m) s h = h (state m s.table s.records)
done_leaves number rest left (Done.Called id m) s h = answer_leaves number id rest left (state m s.table s.records) h
done_leaves number rest left Done.Returned s h = λ j w there f. there
done_leaves number rest left Done.DividedByZero s h = λ j w there f. there
done_leaves number rest left (Done.Trapped code) s h = λ j w there f. there
done_leaves number rest left Done.Outside s h = λ j w there f. there
done_leaves number rest left Done.PastEnd s h = λ j w there f. there

pub runs_leave_others : RunsLeaveOthers
unfolding host_run
runs_leave_others number code zero s = λ j w there f. there
runs_leave_others number code (suc n) s =
    done_leaves number (host_run number code n) n (host_step code s.machine) s (λ q. runs_leave_others number code n q)
