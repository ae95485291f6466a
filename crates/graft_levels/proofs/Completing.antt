-- A level that ends with an answer of its own.
use Rattle.std.proofs.Common.{◌<◌, ◌≡◌, ◌≢◌, ℕ, suc, ◌-◌, ◌≤◌, ◌==◌, ◌&&◌, Bool, true, false, cond}
use Rattle.std.proofs.Common.{List, [], ◌∷◌, ◌++◌, length, arith, refl, sym, ◌∙◌, ap, subst}
use Rattle.std.proofs.Common.{slice_index, map, Option, Some, None}
use Rattle.std.proofs.lemmas.Bool.Decides.{nat_tests}
use Rattle.std.proofs.lemmas.List.{map-append}
use Rattle.std.specs.Bool.{⊤}
use Rattle.kernel_model.specs.Access.{Access, Gives, Changes, Refuses, access, is_ask, asked_point}
use Rattle.kernel_model.specs.Access.{asked_graft, asked_objects}
use Rattle.kernel_model.specs.declared.Held.{Held}
use Rattle.kernel_model.specs.declared.Inverse.{Inverse}
use Rattle.kernel_model.specs.declared.Object.{Object}
use Rattle.kernel_model.specs.declared.Micro.{Micro}
use Rattle.kernel_model.specs.Machine.{Machine}
use Rattle.kernel_model.specs.Objects.{Objects, Things, GraftValue}
use Rattle.kernel_model.specs.Policies.{kind_of}
use Rattle.kernel_model.specs.Locks.{LockTable, merge_level, joined, untouched}
use Rattle.kernel_model.specs.declared.Cause.{Cause}
use Rattle.kernel_model.specs.declared.Kind.TheVariants.{Locks}
use Rattle.kernel_model.specs.Charges.{funds}
use Rattle.kernel_model.specs.World.{World, ImageTable}
use Rattle.kernel_model.specs.Levels.{Level, Config, answered, with_machine, with_touched}
use Rattle.kernel_model.specs.Levels.{touch_outermost, base_of, goes_on, answer_of}
use Rattle.kernel_model.specs.GraftStep.{completed, first_registers, after_call, granted_call}
use Rattle.kernel_model.specs.GraftStep.{after_ask, ask_answered, after_accessor, after_result}
use Rattle.kernel_model.specs.GraftStep.{lock_paid, after_change, is_lock_due, is_record_spent}
use Rattle.kernel_model.specs.GraftStep.{ask_refusal}
use Rattle.kernel_model.specs.Runs.{on_segment}
use Rattle.undo_calls.specs.UndoLevels.{Logged, found_of, innermost, merged}
use Rattle.kernel_state.specs.Stores.{body_at}
use Rattle.graft_machine.specs.Cpu.{Cpu, machine_of}
use Rattle.graft_levels.specs.declared.GraftLevel.{GraftLevel}
use Rattle.graft_levels.specs.Chains.{put_back, level_in, levels_in, outer, came}
use Rattle.graft_levels.specs.Calls.{AreUndoable, AllUndoable}
use Rattle.graft_levels.proofs.Answering.{answered_on}
use Rattle.graft_levels.proofs.Dropping.{pair, configs}
use Rattle.graft_levels.proofs.Undoing.{undo_both}
use Rattle.graft_levels.proofs.Views.{levels_alike, glued}

-- the level that asked, with its answer
pub joined_levels : (pt r0 r1 : ℕ) (g : GraftLevel) (cpu : Cpu) (low : g.owner < 16)
    (small : g.point < 16) (rest after : List GraftLevel) →
    after ≡ record {
      owner = g.owner;
      point = g.point;
      count = g.count;
      args = g.args;
      machine = cpu;
      is_owner = low;
      is_point = small;
    } ∷ rest →
    ((ram : List ℕ) → machine_of cpu ram ≡ answered (kind_of pt) r0 r1 (machine_of g.machine ram)) →
    (p : ℕ) (ram : List ℕ) (t : LockTable) (log : List (List Logged)) (w : Things) →
    let k = level_in p (length rest) ram t g (innermost log) (put_back (innermost log) w) in
    levels_in p ram t after log w ≡ record k { machine = answered (kind_of pt) r0 r1 k.machine }
    ∷ levels_in p ram t rest (outer log) (put_back (innermost log) w)
joined_levels pt r0 r1 g cpu low small rest after is machine p ram t log w =
    let k = level_in p (length rest) ram t g (innermost log) (put_back (innermost log) w) in
    let base = base_of p (length rest) in
    ap (λ gs. levels_in p ram t gs log w) is
    ∙ ap (λ (m : Machine). with_machine m k ∷ levels_in p ram t rest (outer log)
    (put_back (innermost log) w)) (ap (on_segment base) (machine ram)
    ∙ answered_on (kind_of pt) base r0 r1 (machine_of g.machine ram))

-- ---- locks that go outwards

merged_here : (p n : ℕ) (t : LockTable) → merge_level p (suc n) t p n ≡ joined (t p (suc n)) (t p n)
merged_here p n t = grind (arith, nat_tests)

merged_apart : (p n q e : ℕ) (t : LockTable) → (q == p && e == suc n) ≡ false →
    (q == p && e == n) ≡ false → merge_level p (suc n) t q e ≡ t q e
merged_apart p n q e t first second =
    ap (λ b. cond b untouched (cond (q == p && e == suc n - 1) (joined (t p (suc n)) (t p (suc n - 1))) (t q e))) first
    ∙ ap (λ k. cond (q == p && e == k) (joined (t p (suc n)) (t p k)) (t q e)) (omega arith)
    ∙ ap (λ b. cond b (joined (t p (suc n)) (t p n)) (t q e)) second

pub merged_others : (p n q d : ℕ) (t u : LockTable) → u ≡ merge_level p (suc n) t → q ≢ p → u q d ≡ t q d
merged_others p n q d t u is apart =
    ap (λ (x : LockTable). x q d) is
    ∙ merged_apart p n q d t (grind (arith, nat_tests, apart)) (grind (arith, nat_tests, apart))

merged_last : (p n : ℕ) (t : LockTable) (o : Object) → merge_level p (suc n) t p (suc n) o ≡ Held.Free
merged_last p n t o = grind (arith, nat_tests)

pub merged_free : (p n d : ℕ) (t u : LockTable) (o : Object) → u ≡ merge_level p (suc n) t →
    suc n ≤ d → ((e : ℕ) (a : Object) → suc (suc n) ≤ e → t p e a ≡ Held.Free) → u p d o ≡ Held.Free
merged_free p n d t u o is le free = ap (λ (x : LockTable). x p d o) is ∙ by_place (d == suc n) refl
  where
    by_place : (b : Bool) → (d == suc n) ≡ b → merge_level p (suc n) t p d o ≡ Held.Free
    by_place true e =
        let same : d ≡ suc n = grind (arith, nat_tests, e) in
        ap (λ k. merge_level p (suc n) t p k o) same ∙ merged_last p n t o
    by_place false e =
        ap (λ x. x o) (merged_apart p n p d t (grind (arith, nat_tests, e))
        (grind (arith, nat_tests, le))) ∙ free d o (grind (arith, nat_tests, e, le))

-- ---- records that go outwards

-- a log of two levels or more, whose innermost level ends
record Merged (log : List (List Logged)) : Type 0 where
  first : innermost (merged log) ≡ innermost log ++ innermost (outer log)
  rest : outer (merged log) ≡ outer (outer log)

merged_log : (log : List (List Logged)) → 2 ≤ length log → Merged log
merged_log [] some = absurd (omega arith)
merged_log (is ∷ []) some = absurd (omega arith)
merged_log (is ∷ js ∷ log) some = record { first = refl; rest = refl }

both_undoable : (is js : List Logged) (w : Things) → AreUndoable is w → AreUndoable js w → AreUndoable (is ++ js) w
both_undoable [] js w h k = k
both_undoable (i ∷ is) js w h k = (h.0, both_undoable is js w h.1 k)

pub merged_undoable : (log rest : List (List Logged)) (w : Things) → rest ≡ merged log →
    AllUndoable log w → AllUndoable rest w
merged_undoable log rest w is h = subst (λ x. AllUndoable x w) (sym is) (by_log log h)
  where
    by_log : (log : List (List Logged)) → AllUndoable log w → AllUndoable (merged log) w
    by_log [] h = tt
    by_log (is ∷ []) h = tt
    by_log (is ∷ js ∷ log) h = (both_undoable is js w h.0 h.1.0, h.1.1)

pub merged_length : (log rest : List (List Logged)) (n : ℕ) → rest ≡ merged log → length log ≡ suc n → length rest ≡ n
merged_length [] rest n is h = absurd (omega arith)
merged_length (is ∷ []) rest n merged_is h = ap length merged_is ∙ omega (arith, h)
merged_length (is ∷ js ∷ log) rest n merged_is h = ap length merged_is ∙ omega (arith, h)

-- ---- outcomes

-- a level that isn't level 0 ends: gs are the levels outside it, the first of which asked
pub joined_call : (pt r0 r1 p : ℕ) (ram : List ℕ) (t r : LockTable) (g asker : GraftLevel)
    (gs rest hs : List GraftLevel) (log less : List (List Logged)) (w : Objects) →
    g.point ≡ pt → slice_index g.machine.regs 0 ≡ r0 → slice_index g.machine.regs 1 ≡ r1 →
    gs ≡ asker ∷ rest → length log ≡ suc (length gs) → less ≡ merged log →
    r ≡ merge_level p (suc (length rest)) t →
    (levels_in p ram r hs less w.things ≡
    let k = level_in p (length rest) ram r asker (innermost less) (put_back (innermost less) w.things) in
    record k { machine = answered (kind_of pt) r0 r1 k.machine } ∷ levels_in p ram r rest
    (outer less) (put_back (innermost less) w.things)) →
    let kept = put_back (innermost log) w.things in
    came (completed w (level_in p (length gs) ram t g (innermost log) kept) (levels_in p ram t gs (outer log) kept))
    ≡ (Micro.Went, record { now = w; levels = levels_in p ram r hs less w.things })
joined_call pt r0 r1 p ram t r g asker gs rest hs log less w point first second all many is_less held view =
    let kept = put_back (innermost log) w.things in
    let both = merged_log log (let e = ap length all in omega (arith, many, e)) in
    let k = level_in p (length rest) ram t asker (innermost (outer log)) (put_back (innermost (outer log)) kept) in
    let ls = levels_in p ram t rest (outer (outer log)) k.kept in
    let m = answered (kind_of pt) r0 r1 k.machine in
    ap (λ xs. came (completed w (level_in p (length xs) ram t g (innermost log) kept)
    (levels_in p ram t xs (outer log) kept))) all
    ∙ ap (λ x. came (goes_on w (record k {
      machine = answered (kind_of x) (slice_index g.machine.regs 0)
          (slice_index g.machine.regs 1) k.machine;
      touched = joined (t p (suc (length rest))) k.touched;
      records = map found_of (innermost log) ++ k.records;
    } ∷ ls))) point
    ∙ ap (λ x. came (goes_on w (record k {
      machine = answered (kind_of pt) x (slice_index g.machine.regs 1) k.machine;
      touched = joined (t p (suc (length rest))) k.touched;
      records = map found_of (innermost log) ++ k.records;
    } ∷ ls))) first
    ∙ ap (λ x. came (goes_on w (record k {
      machine = answered (kind_of pt) r0 x k.machine;
      touched = joined (t p (suc (length rest))) k.touched;
      records = map found_of (innermost log) ++ k.records;
    } ∷ ls))) second
    ∙ pair _ _ _ _ refl (configs w w _ _ refl (sym
    (view
    ∙ ap (λ x. record (level_in p (length rest) ram r asker (innermost x)
    (put_back (innermost x) w.things)) { machine = m } ∷ levels_in p ram r rest (outer x)
    (put_back (innermost x) w.things)) is_less
    ∙ ap (λ x. record (level_in p (length rest) ram r asker x (put_back x w.things)) { machine = m }
    ∷ levels_in p ram r rest (outer (merged log)) (put_back x w.things)) both.first
    ∙ ap (λ x. record (level_in p (length rest) ram r asker (innermost log ++ innermost (outer log))
    x) { machine = m } ∷ levels_in p ram r rest (outer (merged log)) x)
    (undo_both (innermost log) (innermost (outer log)) w.things)
    ∙ ap (λ x. record (level_in p (length rest) ram r asker (innermost log ++ innermost (outer log))
    k.kept) { machine = m } ∷ levels_in p ram r rest x k.kept) both.rest
    ∙ glued (record (level_in p (length rest) ram r asker (innermost log ++ innermost (outer log))
    k.kept) { machine = m }) m (joined (t p (suc (length rest))) (t p (length rest))) _ ls refl
    (ap (λ (x : LockTable). x p (length rest)) held ∙ merged_here p (length rest) t)
    (levels_alike p ram ram r t rest (outer (outer log)) k.kept
    (λ e lt. ap (λ (x : LockTable). x p e) held ∙ merged_apart p (length rest) p e t
    (grind (arith, nat_tests, lt)) (grind (arith, nat_tests, lt))) (λ e cpu lt. refl))
    ∙ ap (λ x. record k { machine = m; touched = joined (t p (suc (length rest))) k.touched; records = x } ∷ ls)
    (map-append found_of (innermost log) (innermost (outer log))))))

-- level 0 ends: the call is complete
pub completed_call : (p : ℕ) (ram : List ℕ) (t r : LockTable) (g : GraftLevel)
    (gs hs : List GraftLevel) (log less : List (List Logged)) (w : Objects) (answer : List ℕ) →
    gs ≡ [] → hs ≡ [] → ((mem : List ℕ) → answer ≡ first_registers (machine_of g.machine mem)) →
    let kept = put_back (innermost log) w.things in
    came (completed w (level_in p (length gs) ram t g (innermost log) kept) (levels_in p ram t gs (outer log) kept))
    ≡ (Micro.Completed answer, record { now = w; levels = levels_in p ram r hs less w.things })
completed_call p ram t r g gs hs log less w answer before after is =
    let kept = put_back (innermost log) w.things in
    ap (λ xs. came (completed w (level_in p (length gs) ram t g (innermost log) kept)
    (levels_in p ram t xs (outer log) kept))) before
    ∙ pair _ _ _ _ (ap Micro.Completed (sym (is ram)))
    (configs w w _ _ refl (ap (λ xs. levels_in p ram r xs less w.things) (sym after)))

-- ---- answers

-- what is said of an instruction that ends no call with an answer
abbrev pub IsNoAnswer : Micro → Type 0
IsNoAnswer (Micro.Completed registers) = ⊥
IsNoAnswer said = ⊤

pub unanswered : (a said : Micro) (y x : Config) (registers : List ℕ) → IsNoAnswer a →
    ◌≡◌ {A = Micro × Config} (a, y) (said, x) → said ≡ Micro.Completed registers → ⊥
unanswered a said y x registers none is ends = subst IsNoAnswer (ap (λ (z : Micro × Config). z.0) is ∙ ends) none

-- a call ends nothing with an answer: it goes on, or a level is dropped
pub call_unanswered : (v : World) (images : ImageTable) (w : Objects) (p : ℕ)
    (l : Level) (ls : List Level) (m : Machine) (id : ℕ) (refusal : Option Cause) →
    IsNoAnswer (after_call v images w p l ls m id refusal).said
call_unanswered v images w p l ls m id (Some cause) = tt
call_unanswered v images w p l ls m id None = granted (is_ask id)
  where
    answered_by : (q pt : ℕ) (ks : List Level) (x : Option GraftValue) →
        IsNoAnswer (ask_answered v images w p q pt ks x).said
    answered_by q pt ks None = tt
    answered_by q pt ks (Some g) = tt

    asked : (pt : ℕ) (cause : Option Cause) → IsNoAnswer (after_ask v images w p l ls m id pt cause).said
    asked pt (Some cause) = tt
    asked pt None =
        answered_by l.owner pt (touch_outermost (asked_graft id (l.machine.regs 0) l.owner).object
        (with_touched (asked_objects id (l.machine.regs 0) l.owner) (with_machine m l) ∷ ls))
        (w.accounts.graft l.owner pt)

    paid : (result : ℕ) (spent : Bool) → IsNoAnswer (lock_paid v w l ls m id result spent).said
    paid result true = tt
    paid result false = tt

    given : (result : ℕ) (due : Bool) → IsNoAnswer (after_result v w l ls m id result due).said
    given result true = paid result (funds w.accounts l.owner l.point Locks == 0)
    given result false = tt

    changed : (result : ℕ) (i : Inverse) (things : Things) (spent : Bool) →
        IsNoAnswer (after_change v w l ls m id result i things spent).said
    changed result i things true = tt
    changed result i things false = tt

    accessed_by : (a : Access) → IsNoAnswer (after_accessor v w l ls m id a).said
    accessed_by (Refuses cause) = tt
    accessed_by (Gives result) = given result (is_lock_due id (l.machine.regs 0) (l ∷ ls))
    accessed_by (Changes result i things) = changed result i things (is_record_spent w.accounts l ls)

    granted : (ask : Bool) → IsNoAnswer (granted_call v images w p l ls m id ask).said
    granted true = let pt = asked_point id (l.machine.regs 0) in asked pt (ask_refusal w l.owner pt id (l ∷ ls))
    granted false = accessed_by (access id (l.machine.regs 0) (l.machine.regs 1) (l.machine.regs 2) l.owner w.things)

-- level 0 answers, and its segment is in this memory
pub outermost_answers : (p : ℕ) (ram : List ℕ) (t : LockTable) (g : GraftLevel)
    (gs : List GraftLevel) (log : List (List Logged)) (w : Things) (registers : List ℕ) → gs ≡ [] →
    answer_of registers (levels_in p ram t (g ∷ gs) log w)
    ≡ record { registers = registers; body = body_at ram p registers }
outermost_answers p ram t g gs log w registers alone =
    ap (λ xs. answer_of registers (levels_in p ram t (g ∷ xs) log w)) alone
