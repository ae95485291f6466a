-- What instructions, drops and charges do to what processes have spent.
use Rattle.std.specs.Prelude.{◌≡◌, ◌≢◌, ℕ, ◌+◌, ◌<◌, ◌≤◌, ◌==◌, ◌||◌, Bool, true, false, cond}
use Rattle.std.specs.Prelude.{List, [], ◌∷◌, Option, Some, None}
use Rattle.std.proofs.Common.{arith, refl, subst, sym, ap, ◌∙◌, inl, inr}
use Rattle.std.proofs.lemmas.Bool.{cases_eq}
use Rattle.std.proofs.lemmas.Bool.Decides.{nat_tests}
use Rattle.script_model.specs.declared.Cause.{Cause}
use Rattle.script_model.specs.declared.Kind.{Kind}
use Rattle.script_model.specs.declared.Kind.TheVariants.{Steps, Records, Locks}
use Rattle.script_model.specs.World.{World, ImageTable}
use Rattle.script_model.specs.Objects.{Objects, Accounts, AcctValue, GraftValue, Things, at, with_accounts}
use Rattle.script_model.specs.Machine.{Machine, Done, Went, Called, Returned, Trapped, Outside, PastEnd, seg_step}
use Rattle.script_model.specs.Policies.{valid}
use Rattle.script_model.specs.Access.{Access, Gives, Changes, Refuses, access, early_refusal, is_ask, asked_point}
use Rattle.script_model.specs.Charges.{funds, spend, pay, returned, charge_account, charge_graft}
use Rattle.script_model.specs.Charges.{charge_by, charge, removed, removed_by}
use Rattle.script_model.specs.Levels.{Level, Outcome, code_of, image_of, keeps_in, limit_in, drop_innermost}
use Rattle.script_model.specs.GraftStep.{is_lock_due, lock_paid, after_result, is_record_spent}
use Rattle.script_model.specs.GraftStep.{after_change, after_accessor, ask_refusal, ask_answered}
use Rattle.script_model.specs.GraftStep.{after_ask, granted_call, after_call, completed}
use Rattle.script_model.specs.GraftStep.{after_keeping, after_answer, after_return, after_machine}
use Rattle.script_model.specs.GraftStep.{is_spent, charged_step, record_count}
use Rattle.script_model.specs.declared.Inverse.{Inverse}
use Rattle.kernel_laws.proofs.AmountLemmas.{charge_ledger, ledgers_stay}
use Rattle.call_laws.specs.Ledgers.{at_here, at_other}
use Rattle.session_laws.specs.Spending.{steps_of, StepsStay, StepIsSpent, IsPaidFor}
use Rattle.graft_laws.proofs.OuterLemmas.{first_fails}

-- ---- accounts

-- an account changed for one process, which has spent as many steps
same_steps : (q r : ℕ) (x : AcctValue) (f : ℕ → AcctValue) → x.spent Steps ≡ (f q).spent Steps →
    (at q x f r).spent Steps ≡ (f r).spent Steps
same_steps q r x f same = elim (cases_eq r q) [
  | inl e ↦ subst (λ i. (at q x f i).spent Steps ≡ (f i).spent Steps) (sym e)
      (ap (λ (y : AcctValue). y.spent Steps) (at_here q x f) ∙ same)
  | inr ne ↦ ap (λ (y : AcctValue). y.spent Steps) (at_other q r x f ne)
]

-- a kind other than steps
data IsOther : Kind → Type 0 where
  of_records : IsOther Records
  of_locks : IsOther Locks

paid_other : (k : Kind) (a : AcctValue) → IsOther k → (pay k a).spent Steps ≡ a.spent Steps
paid_other Steps a other = elim other [ ]
paid_other Records a of_records = refl
paid_other Locks a of_locks = refl

spent_other : (k : Kind) (a : AcctValue) → IsOther k → (spend k a).spent Steps ≡ a.spent Steps
spent_other Steps a other = elim other [ ]
spent_other Records a of_records = refl
spent_other Locks a of_locks = refl

-- a charge of another kind spends no step
charge_found : (k : Kind) (a : Accounts) (q pt r : ℕ) (g : GraftValue) (billed : Bool) → IsOther k →
    steps_of (elim billed as (λ _. Accounts) [
      | true ↦ charge_account k q a
      | false ↦ charge_graft k q pt g a
    ]) r ≡ steps_of a r
charge_found k a q pt r g true other = same_steps q r (pay k (a.acct q)) a.acct (paid_other k (a.acct q) other)
charge_found k a q pt r g false other = same_steps q r (spend k (a.acct q)) a.acct (spent_other k (a.acct q) other)

charge_by_other : (k : Kind) (a : Accounts) (q pt r : ℕ) (g : Option GraftValue) → IsOther k →
    steps_of (charge_by k q pt g a) r ≡ steps_of a r
charge_by_other k a q pt r None other = refl
charge_by_other k a q pt r (Some g) other = charge_found k a q pt r g g.billed other

charge_stays : (k : Kind) (a : Accounts) (q pt : ℕ) → IsOther k → pt < 16 →
    (funds a q pt k == 0) ≡ false → StepsStay a (charge k q pt a)
charge_stays k a q pt other low some = record {
  steps = λ r. charge_by_other k a q pt r (a.graft q pt) other;
  ledgers = λ r j. charge_ledger a q pt r k j low (grind (arith, nat_tests, some));
}

-- a graft that is taken out has spent what it has
pub removed_steps : (a : Accounts) (q pt r : ℕ) (g : Option GraftValue) →
    steps_of (removed_by q pt g a) r ≡ steps_of a r
removed_steps a q pt r None = refl
removed_steps a q pt r (Some g) = same_steps q r (returned g (a.acct q)) a.acct refl

removed_stays : (a : Accounts) (q pt : ℕ) → pt < 16 → StepsStay a (removed q pt a)
removed_stays a q pt low = record {
  steps = λ r. removed_steps a q pt r (a.graft q pt);
  ledgers = λ r j. ledgers_stay.removed a q pt r j low;
}

-- nothing is done
none_stays : (a : Accounts) → StepsStay a a
none_stays a = record { steps = λ r. refl; ledgers = λ r j. refl }

-- a step that a graft or its installer has is spent
step_own : (a : Accounts) (q pt : ℕ) (g : GraftValue) (billed : Bool) →
    steps_of (elim billed as (λ _. Accounts) [
      | true ↦ charge_account Steps q a
      | false ↦ charge_graft Steps q pt g a
    ]) q ≡ steps_of a q + 1
step_own a q pt g true = ap (λ (y : AcctValue). y.spent Steps) (at_here q (pay Steps (a.acct q)) a.acct)
step_own a q pt g false = ap (λ (y : AcctValue). y.spent Steps) (at_here q (spend Steps (a.acct q)) a.acct)

step_others : (a : Accounts) (q pt r : ℕ) (g : GraftValue) (billed : Bool) → r ≢ q →
    steps_of (elim billed as (λ _. Accounts) [
      | true ↦ charge_account Steps q a
      | false ↦ charge_graft Steps q pt g a
    ]) r ≡ steps_of a r
step_others a q pt r g true ne = ap (λ (y : AcctValue). y.spent Steps) (at_other q r (pay Steps (a.acct q)) a.acct ne)
step_others a q pt r g false ne =
    ap (λ (y : AcctValue). y.spent Steps) (at_other q r (spend Steps (a.acct q)) a.acct ne)

own_by : (a : Accounts) (q pt : ℕ) (g : Option GraftValue) → a.graft q pt ≡ g → 1 ≤ funds a q pt Steps →
    steps_of (charge_by Steps q pt g a) q ≡ steps_of a q + 1
own_by a q pt None e some =
    absurd (let none = subst (λ (x : Option GraftValue). 1 ≤ payer x) e some in omega (arith, none))
  where
    payer : Option GraftValue → ℕ
    payer x = elim x [ None ↦ 0 | Some g ↦ cond g.billed ((a.acct q).balance Steps) (g.balance Steps) ]
own_by a q pt (Some g) e some = step_own a q pt g g.billed

others_by : (a : Accounts) (q pt r : ℕ) (g : Option GraftValue) → r ≢ q →
    steps_of (charge_by Steps q pt g a) r ≡ steps_of a r
others_by a q pt r None ne = refl
others_by a q pt r (Some g) ne = step_others a q pt r g g.billed ne

step_is_spent : (a : Accounts) (q pt : ℕ) → pt < 16 → 1 ≤ funds a q pt Steps → StepIsSpent q a (charge Steps q pt a)
step_is_spent a q pt low some = record {
  own = own_by a q pt (a.graft q pt) refl some;
  others = λ r ne. others_by a q pt r (a.graft q pt) ne;
  ledgers = λ r j. charge_ledger a q pt r Steps j low some;
}

-- ---- instructions

-- the accounts that an outcome leaves
abbrev left : Outcome → Accounts
left o = o.config.now.accounts

drop_stays : (v : World) (w : Objects) (l : Level) (ls : List Level) (cause : Cause) → l.point < 16 →
    StepsStay w.accounts (left (drop_innermost v w l ls cause))
drop_stays v w l ls cause low = removed_stays w.accounts l.owner l.point low

lock_stays : (v : World) (w : Objects) (l : Level) (ls : List Level) (m : Machine) (id result : ℕ)
    (spent : Bool) → l.point < 16 →
    (funds w.accounts l.owner l.point Locks == 0) ≡ spent →
    StepsStay w.accounts (left (lock_paid v w l ls m id result spent))
lock_stays v w l ls m id result true low is = drop_stays v w l ls Cause.SpentLocks low
lock_stays v w l ls m id result false low is = charge_stays Locks w.accounts l.owner l.point of_locks low is

result_stays : (v : World) (w : Objects) (l : Level) (ls : List Level) (m : Machine) (id result : ℕ)
    (due : Bool) → l.point < 16 →
    StepsStay w.accounts (left (after_result v w l ls m id result due))
result_stays v w l ls m id result true low =
    lock_stays v w l ls m id result (funds w.accounts l.owner l.point Locks == 0) low refl
result_stays v w l ls m id result false low = none_stays w.accounts

change_stays : (v : World) (w : Objects) (l : Level) (ls : List Level) (m : Machine) (id result : ℕ)
    (inv : Inverse) (things : Things) (spent : Bool) →
    l.point < 16 → is_record_spent w.accounts l ls ≡ spent →
    StepsStay w.accounts (left (after_change v w l ls m id result inv things spent))
change_stays v w l ls m id result inv things true low is = drop_stays v w l ls Cause.SpentRecords low
change_stays v w l ls m id result inv things false low is =
    charge_stays Records w.accounts l.owner l.point of_records low
    (first_fails (funds w.accounts l.owner l.point Records == 0) (record_count (l ∷ ls) == 64) is)

accessor_stays : (v : World) (w : Objects) (l : Level) (ls : List Level) (m : Machine) (id : ℕ)
    (a : Access) → l.point < 16 →
    StepsStay w.accounts (left (after_accessor v w l ls m id a))
accessor_stays v w l ls m id (Refuses cause) low = drop_stays v w l ls cause low
accessor_stays v w l ls m id (Gives result) low =
    result_stays v w l ls m id result (is_lock_due id (l.machine.regs 0) (l ∷ ls)) low
accessor_stays v w l ls m id (Changes result inv things) low =
    change_stays v w l ls m id result inv things (is_record_spent w.accounts l ls) low refl

answered_stays : (v : World) (images : ImageTable) (w : Objects) (p q pt : ℕ) (ls : List Level)
    (g : Option GraftValue) →
    StepsStay w.accounts (left (ask_answered v images w p q pt ls g))
answered_stays v images w p q pt ls None = none_stays w.accounts
answered_stays v images w p q pt ls (Some g) = none_stays w.accounts

ask_stays : (v : World) (images : ImageTable) (w : Objects) (p : ℕ) (l : Level) (ls : List Level)
    (m : Machine) (id pt : ℕ) (refusal : Option Cause) →
    l.point < 16 → StepsStay w.accounts (left (after_ask v images w p l ls m id pt refusal))
ask_stays v images w p l ls m id pt (Some cause) low = drop_stays v w l ls cause low
ask_stays v images w p l ls m id pt None low = answered_stays v images w p l.owner pt _ (w.accounts.graft l.owner pt)

granted_stays : (v : World) (images : ImageTable) (w : Objects) (p : ℕ) (l : Level)
    (ls : List Level) (m : Machine) (id : ℕ) (ask : Bool) →
    l.point < 16 → StepsStay w.accounts (left (granted_call v images w p l ls m id ask))
granted_stays v images w p l ls m id true low =
    let pt = asked_point id (l.machine.regs 0) in
    ask_stays v images w p l ls m id pt (ask_refusal w l.owner pt id (l ∷ ls)) low
granted_stays v images w p l ls m id false low =
    accessor_stays v w l ls m id
    (access id (l.machine.regs 0) (l.machine.regs 1) (l.machine.regs 2) l.owner w.things) low

call_stays : (v : World) (images : ImageTable) (w : Objects) (p : ℕ) (l : Level) (ls : List Level)
    (m : Machine) (id : ℕ) (refusal : Option Cause) →
    l.point < 16 → StepsStay w.accounts (left (after_call v images w p l ls m id refusal))
call_stays v images w p l ls m id (Some cause) low = drop_stays v w l ls cause low
call_stays v images w p l ls m id None low = granted_stays v images w p l ls m id (is_ask id) low

completed_stays : (w : Objects) (l : Level) (ls : List Level) → StepsStay w.accounts (left (completed w l ls))
completed_stays w l [] = none_stays w.accounts
completed_stays w l (asker ∷ rest) = none_stays w.accounts

-- a segment that is kept costs a record
keeping_stays : (v : World) (w : Objects) (l : Level) (ls : List Level) (spent : Bool) → l.point < 16 →
    is_record_spent w.accounts l ls ≡ spent → StepsStay w.accounts (left (after_keeping v w l ls spent))
keeping_stays v w l ls true low is = drop_stays v w l ls Cause.SpentRecords low
keeping_stays v w l [] false low is =
    charge_stays Records w.accounts l.owner l.point of_records low
    (first_fails (funds w.accounts l.owner l.point Records == 0) (record_count (l ∷ []) == 64) is)
keeping_stays v w l (asker ∷ rest) false low is =
    charge_stays Records w.accounts l.owner l.point of_records low
    (first_fails (funds w.accounts l.owner l.point Records == 0) (record_count (l ∷ asker ∷ rest) == 64) is)

answer_stays : (v : World) (w : Objects) (l : Level) (ls : List Level) (keeps : Bool) → l.point < 16 →
    StepsStay w.accounts (left (after_answer v w l ls keeps))
answer_stays v w l ls true low = keeping_stays v w l ls (is_record_spent w.accounts l ls) low refl
answer_stays v w l ls false low = completed_stays w l ls

return_stays : (v : World) (images : ImageTable) (w : Objects) (l : Level) (ls : List Level)
    (is_valid : Bool) → l.point < 16 →
    StepsStay w.accounts (left (after_return v images w l ls is_valid))
return_stays v images w l ls true low =
    answer_stays v w l ls (keeps_in (image_of images (w.accounts.graft l.owner l.point))) low
return_stays v images w l ls false low =
    drop_stays v w l ls (Cause.RefusedAnswer (l.machine.regs 0) (l.machine.regs 1)) low

machine_stays : (v : World) (images : ImageTable) (p : ℕ) (w : Objects) (l : Level)
    (ls : List Level) (done : Done) → l.point < 16 →
    StepsStay w.accounts (left (after_machine v images p w l ls done))
machine_stays v images p w l ls (Went m) low = none_stays w.accounts
machine_stays v images p w l ls (Called id m) low =
    call_stays v images w p l ls m id (early_refusal v.callable id (l.machine.regs 0) (l.machine.regs 1) l.owner) low
machine_stays v images p w l ls Returned low =
    return_stays v images w l ls (valid w.things l.owner l.point l.args (l.machine.regs 0) (l.machine.regs 1)) low
machine_stays v images p w l ls Done.DividedByZero low = drop_stays v w l ls Cause.DivideByZero low
machine_stays v images p w l ls (Trapped code) low = drop_stays v w l ls (Cause.Trap code) low
machine_stays v images p w l ls Outside low = drop_stays v w l ls Cause.DivideByZero low
machine_stays v images p w l ls PastEnd low = drop_stays v w l ls Cause.DivideByZero low

-- ---- both together

-- a step that was spent, and nothing of steps behind it
then_stays : (p : ℕ) (a b c : Accounts) → StepIsSpent p a b → StepsStay b c → StepIsSpent p a c
then_stays p a b c first rest = record {
  own = rest.steps p ∙ first.own;
  others = λ q ne. rest.steps q ∙ first.others q ne;
  ledgers = λ q k. rest.ledgers q k ∙ first.ledgers q k;
}

-- where a level has a step left, its payer has one
has_step : (full none : Bool) → (full || none) ≡ false → none ≡ false
has_step true none h = absurd cc
has_step false none h = h

step_charged : (v : World) (images : ImageTable) (p : ℕ) (w : Objects) (l : Level) (ls : List Level)
    (spent : Bool) → l.point < 16 →
    is_spent w.accounts l ≡ spent → spent ≡ false →
    StepIsSpent l.owner w.accounts (left (charged_step v images p w l ls spent))
step_charged v images p w l ls true low is left_over = absurd cc
step_charged v images p w l ls false low is left_over =
    let funded : (funds w.accounts l.owner l.point Steps == 0) ≡ false =
    has_step (l.count == limit_in (w.accounts.graft l.owner l.point))
    (funds w.accounts l.owner l.point Steps == 0) is in
    let paid = charge Steps l.owner l.point w.accounts in
    then_stays l.owner w.accounts paid _
    (step_is_spent w.accounts l.owner l.point low (grind (arith, nat_tests, funded)))
    (machine_stays v images p (with_accounts paid w) (record l { count = l.count + 1 }) ls
    (seg_step (code_of images w.accounts l.owner l.point) l.machine) low)

step_uncharged : (v : World) (images : ImageTable) (p : ℕ) (w : Objects) (l : Level)
    (ls : List Level) (spent : Bool) → l.point < 16 →
    spent ≡ true → StepsStay w.accounts (left (charged_step v images p w l ls spent))
step_uncharged v images p w l ls true low is = drop_stays v w l ls Cause.SpentSteps low
step_uncharged v images p w l ls false low is = absurd cc

-- an instruction is charged to its graft's installer
pub instructions_are_paid_for : (v : World) (images : ImageTable) (p : ℕ) (w : Objects) (l : Level)
    (ls : List Level) → l.point < 16 →
    IsPaidFor l w.accounts (left (charged_step v images p w l ls (is_spent w.accounts l)))
instructions_are_paid_for v images p w l ls low = record {
  charged = λ is. step_charged v images p w l ls (is_spent w.accounts l) low refl is;
  uncharged = λ is. step_uncharged v images p w l ls (is_spent w.accounts l) low is;
}
