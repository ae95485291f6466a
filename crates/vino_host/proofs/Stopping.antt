-- What a caller finds, by how its call stopped.
use Rattle.std.proofs.Common.{◌≡◌, ℕ, ◌-◌, ◌≤◌, Bool, true, false, cond, List, Some, None}
use Rattle.std.proofs.Common.{sym, ap, ◌∙◌, arith}
use Rattle.std.specs.Prelude.{◌==◌}
use Rattle.vino_host.specs.declared.Answer.{Answer}
use Rattle.vino_host.specs.declared.Call.{Call}
use Rattle.vino_host.specs.declared.Stop.{Stop}
use Rattle.vino_host.specs.declared.Stop.TheVariants as stop
use Rattle.vino_host.specs.declared.Word.{Word}
use Rattle.vino_host.specs.Codes.{is_drop}
use Rattle.vino_host.specs.HostMachine.{by_place}
use Rattle.vino_host.specs.HostRuns.{State, Ended}
use Rattle.vino_host.specs.Tables.{records_of, undone}
use Rattle.vino_host.specs.Calls.{Frame, Pause, Found, found_by, found, found_in, pause_in, judged}

-- a dropped call
pub record IsDropped (f : Frame) (s : State) (segment : List ℕ) (table : List Word) : Type 0 where
  pub segment_is : by_place segment ≡ by_place f.segment
  pub table_is : table ≡ undone s.records s.table

-- a call that waits
pub record IsWaiting (f : Frame) (s : State) (call : Call) (table : List Word) : Type 0 where
  pub segment_is : call.segment ≡ f.segment
  pub records_are : records_of call.log ≡ s.records
  pub table_is : table ≡ s.table

dropped_by : (f : Frame) (left : ℕ) (s : State) (st : Stop) (r : Answer) (call : Call)
    (segment : List ℕ) (table : List Word) →
    found_in r call segment table ≡ found_by f left s st → is_drop r.kind ≡ true → IsDropped f s segment table
dropped_by f left s stop.Returns r call segment table h d =
    let k : r.kind ≡ 0 = ap (λ (x : Found). x.answer.kind) h in
    let bad : is_drop 0 ≡ true = ap (λ (n : ℕ). is_drop n) (sym k) ∙ d in cc
dropped_by f left s (stop.Waits id) r call segment table h d =
    let k : r.kind ≡ 32 = ap (λ (x : Found). x.answer.kind) h in
    let bad : is_drop 32 ≡ true = ap (λ (n : ℕ). is_drop n) (sym k) ∙ d in cc
dropped_by f left s (stop.Drops cause detail) r call segment table h d =
    record { segment_is = ap (λ (x : Found). x.segment) h; table_is = ap (λ (x : Found). x.table) h }

-- what is found after a drop
pub dropped : (f : Frame) (e : Ended) (r : Answer) (call : Call) (segment : List ℕ) (table : List Word) →
    found_in r call segment table ≡ found f e → is_drop r.kind ≡ true → IsDropped f e.state segment table
dropped f e r call segment table h d =
    dropped_by f e.left e.state (judged f e.stop (e.state.machine.regs 0)) r call segment table h d

some_pause : (b : Bool) (p q : Pause) → b ≡ true → cond b (Some p) None ≡ Some q → p ≡ q
some_pause true p q e h = cc
some_pause false p q e h = cc

no_pause : (b : Bool) (p : Pause) → b ≡ true → cond b (Some p) None ≡ None → ⊥
no_pause true p e h = cc
no_pause false p e h = cc

waiting_by : (f : Frame) (left : ℕ) (s : State) (st : Stop) (r : Answer) (call : Call)
    (segment : List ℕ) (table : List Word) →
    found_in r call segment table ≡ found_by f left s st → (call.state == 1) ≡ true → IsWaiting f s call table
waiting_by f left s stop.Returns r call segment table h d =
    absurd (no_pause (call.state == 1) (pause_in call segment) d (ap (λ (x : Found). x.pause) h))
waiting_by f left s (stop.Waits id) r call segment table h d =
    let p = some_pause (call.state == 1) (pause_in call segment) _ d (ap (λ (x : Found). x.pause) h) in
    record {
      segment_is = ap (λ (x : Pause). x.frame.segment) p;
      records_are = ap (λ (x : Pause). x.records) p;
      table_is = ap (λ (x : Found). x.table) h;
    }
waiting_by f left s (stop.Drops cause detail) r call segment table h d =
    absurd (no_pause (call.state == 1) (pause_in call segment) d (ap (λ (x : Found). x.pause) h))

-- what is found where a call waits
pub waiting : (f : Frame) (e : Ended) (r : Answer) (call : Call) (segment : List ℕ) (table : List Word) →
    found_in r call segment table ≡ found f e → (call.state == 1) ≡ true → IsWaiting f e.state call table
waiting f e r call segment table h d =
    waiting_by f e.left e.state (judged f e.stop (e.state.machine.regs 0)) r call segment table h d

steps_by : (f : Frame) (left : ℕ) (s : State) (st : Stop) (r : Answer) (call : Call)
    (segment : List ℕ) (table : List Word) →
    found_in r call segment table ≡ found_by f left s st → r.steps ≡ f.limit - left
steps_by f left s stop.Returns r call segment table h = ap (λ (x : Found). x.answer.steps) h
steps_by f left s (stop.Waits id) r call segment table h = ap (λ (x : Found). x.answer.steps) h
steps_by f left s (stop.Drops cause detail) r call segment table h = ap (λ (x : Found). x.answer.steps) h

-- a call takes at most its limit
pub steps_most : (f : Frame) (e : Ended) (r : Answer) (call : Call) (segment : List ℕ) (table : List Word) →
    found_in r call segment table ≡ found f e → r.steps ≤ f.limit
steps_most f e r call segment table h =
    let is = steps_by f e.left e.state (judged f e.stop (e.state.machine.regs 0)) r call segment
    table h in omega (arith, is)
