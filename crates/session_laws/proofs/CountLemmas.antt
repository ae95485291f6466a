-- An instruction leaves the count of each level within the limit of its graft.
use Rattle.std.specs.Prelude.{◌≡◌, ℕ, ◌+◌, ◌≤◌, ◌==◌, ◌||◌, Bool, true, false, List, [], ◌∷◌, Option, Some, None, ⊤}
use Rattle.std.specs.List.{AllByRecursion}
use Rattle.std.proofs.Common.{arith, refl, subst, sym, ap, ◌∙◌, inl, inr}
use Rattle.std.proofs.lemmas.Bool.Decides.{nat_tests}
use Rattle.script_model.specs.declared.Cause.{Cause}
use Rattle.script_model.specs.declared.Cause.TheVariants.{SpentSteps, SpentRecords, SpentLocks, RefusedAnswer}
use Rattle.script_model.specs.declared.Inverse.{Inverse}
use Rattle.script_model.specs.declared.Kind.{Kind}
use Rattle.script_model.specs.declared.Kind.TheVariants.{Steps, Records, Locks}
use Rattle.script_model.specs.declared.Object.{Object}
use Rattle.script_model.specs.World.{World, ImageTable}
use Rattle.script_model.specs.Objects.{Objects, Accounts, Things, GraftValue, with_accounts}
use Rattle.script_model.specs.Machine.{Machine, Done, Called, Returned, Trapped, Outside, PastEnd, seg_step}
use Rattle.script_model.specs.Policies.{valid, default_of}
use Rattle.script_model.specs.Access.{found_segment, set_segment, Access, Gives, Changes, Refuses}
use Rattle.script_model.specs.Access.{access, early_refusal, is_ask, asked_point, asked_objects}
use Rattle.script_model.specs.Access.{asked_graft}
use Rattle.script_model.specs.Charges.{funds, charge, charge_by, charge_account, charge_graft}
use Rattle.script_model.specs.Charges.{taken_from, removed, removed_by}
use Rattle.script_model.specs.Levels.{Level, Config, Outcome, code_of, image_of, keeps_in}
use Rattle.script_model.specs.Levels.{limit_in, with_machine, with_touched, touch_outermost}
use Rattle.script_model.specs.Levels.{answer_innermost, drop_innermost}
use Rattle.script_model.specs.GraftStep.{is_lock_due, lock_paid, after_result, is_record_spent}
use Rattle.script_model.specs.GraftStep.{after_change, after_accessor, ask_refusal, ask_answered}
use Rattle.script_model.specs.GraftStep.{after_ask, granted_call, after_call, completed}
use Rattle.script_model.specs.GraftStep.{after_keeping, after_answer, after_return, after_machine}
use Rattle.script_model.specs.GraftStep.{is_spent, charged_step, micro_on, micro}
use Rattle.kernel_laws.proofs.LevelLemmas.{each_from, each_contains}
use Rattle.kernel_laws.proofs.StoreLemmas.{found_at}
use Rattle.session_laws.specs.Counts.{CountsFit, InstructionsKeepCounts}

-- ---- counts and limits

-- a count is within the limit of a graft, if one stands
abbrev pub Fits : ℕ → Option GraftValue → Type 0
Fits n None = ⊤
Fits n (Some g) = n ≤ g.limit

-- a level's count is within the limit of its graft, if that stands
abbrev pub LevelFits : Accounts → Level → Type 0
LevelFits a l = Fits l.count (a.graft l.owner l.point)

-- those of all levels are
abbrev pub AllFit : Accounts → List Level → Type 0
AllFit a ls = AllByRecursion (LevelFits a) ls

-- what is within a limit stays so: no graft comes, and none changes its limit
abbrev pub LimitsStay : (a b : Accounts) → Type 0
LimitsStay a b = (q pt n : ℕ) → Fits n (a.graft q pt) → Fits n (b.graft q pt)

-- a level that has just begun is within each limit
pub none_fits : (g : Option GraftValue) → Fits 0 g
none_fits None = tt
none_fits (Some g) = omega arith

pub all_stay : (a b : Accounts) (ls : List Level) → LimitsStay a b → AllFit a ls → AllFit b ls
all_stay a b [] stay h = tt
all_stay a b (l ∷ ls) stay h = (stay l.owner l.point l.count h.0, all_stay a b ls stay h.1)

pub charge_stays : (k : Kind) (q pt : ℕ) (a : Accounts) → LimitsStay a (charge k q pt a)
charge_stays k q pt a = stays_by (a.graft q pt) refl
  where
    stays_if : (billed : Bool) (g : GraftValue) → a.graft q pt ≡ Some g →
        LimitsStay a (elim billed as (λ _. Accounts) [ true ↦ charge_account k q a | false ↦ charge_graft k q pt g a ])
    stays_if true g e = λ r pu n h. h
    stays_if false g e = λ r pu n h. elim (found_at q pt r pu (Some (taken_from k g)) a.graft) [
      | inl here ↦ subst (Fits n) (sym here.2)
          (subst (Fits n) (ap (λ i. a.graft i pu) here.0 ∙ ap (λ i. a.graft q i) here.1 ∙ e) h)
      | inr other ↦ subst (Fits n) (sym other) h
    ]

    stays_by : (g : Option GraftValue) → a.graft q pt ≡ g → LimitsStay a (charge_by k q pt g a)
    stays_by None e = λ r pu n h. h
    stays_by (Some g) e = stays_if g.billed g e

pub remove_stays : (q pt : ℕ) (a : Accounts) → LimitsStay a (removed q pt a)
remove_stays q pt a = stays_by (a.graft q pt)
  where
    stays_by : (g : Option GraftValue) → LimitsStay a (removed_by q pt g a)
    stays_by None = λ r pu n h. h
    stays_by (Some g) = λ r pu n h. elim (found_at q pt r pu None a.graft) [
      | inl here ↦ subst (Fits n) (sym here.2) tt
      | inr other ↦ subst (Fits n) (sym other) h
    ]

-- ---- levels changed otherwise

pub touch_fits : (o : Object) (a : Accounts) (ls : List Level) → AllFit a ls → AllFit a (touch_outermost o ls)
touch_fits o a [] h = tt
touch_fits o a (l ∷ []) h = h
touch_fits o a (l ∷ k ∷ ls) h = (h.0, touch_fits o a (k ∷ ls) h.1)

pub answer_fits : (pt r0 r1 : ℕ) (a : Accounts) (ls : List Level) → AllFit a ls →
    AllFit a (answer_innermost pt r0 r1 ls)
answer_fits pt r0 r1 a [] h = tt
answer_fits pt r0 r1 a (l ∷ ls) h = h

-- ---- one instruction

-- what an outcome leaves is so
abbrev OutcomeFits : Outcome → Type 0
OutcomeFits o = AllFit o.config.now.accounts o.config.levels

module _ (v : World) (images : ImageTable) (p : ℕ) where
  drop_fits : (w : Objects) (l : Level) (ls : List Level) (cause : Cause) → AllFit w.accounts (l ∷ ls) →
      OutcomeFits (drop_innermost v w l ls cause)
  drop_fits w l ls cause h =
      let d = default_of v l.kept l.owner l.point in
      answer_fits l.point d.0 d.1 (removed l.owner l.point w.accounts) ls
      (all_stay w.accounts (removed l.owner l.point w.accounts) ls (remove_stays l.owner l.point w.accounts) h.1)

  -- a level and those outside it, where so many of a kind were charged
  charged_fits : (k : Kind) (w : Objects) (l : Level) (ls : List Level) → AllFit w.accounts (l ∷ ls) →
      AllFit (charge k l.owner l.point w.accounts) (l ∷ ls)
  charged_fits k w l ls h =
      all_stay w.accounts (charge k l.owner l.point w.accounts) (l ∷ ls) (charge_stays k l.owner l.point w.accounts) h

  lock_fits : (w : Objects) (l : Level) (ls : List Level) (m : Machine) (id result : ℕ) (spent : Bool) →
      AllFit w.accounts (l ∷ ls) → OutcomeFits (lock_paid v w l ls m id result spent)
  lock_fits w l ls m id result true h = drop_fits w l ls SpentLocks h
  lock_fits w l ls m id result false h = charged_fits Locks w l ls h

  result_fits : (w : Objects) (l : Level) (ls : List Level) (m : Machine) (id result : ℕ) (due : Bool) →
      AllFit w.accounts (l ∷ ls) → OutcomeFits (after_result v w l ls m id result due)
  result_fits w l ls m id result true h = lock_fits w l ls m id result (funds w.accounts l.owner l.point Locks == 0) h
  result_fits w l ls m id result false h = h

  change_fits : (w : Objects) (l : Level) (ls : List Level) (m : Machine) (id result : ℕ) (i : Inverse)
      (things : Things) (spent : Bool) → AllFit w.accounts (l ∷ ls) →
      OutcomeFits (after_change v w l ls m id result i things spent)
  change_fits w l ls m id result i things true h = drop_fits w l ls SpentRecords h
  change_fits w l ls m id result i things false h = charged_fits Records w l ls h

  accessor_fits : (w : Objects) (l : Level) (ls : List Level) (m : Machine) (id : ℕ) (x : Access) →
      AllFit w.accounts (l ∷ ls) → OutcomeFits (after_accessor v w l ls m id x)
  accessor_fits w l ls m id (Refuses cause) h = drop_fits w l ls cause h
  accessor_fits w l ls m id (Gives result) h =
      result_fits w l ls m id result (is_lock_due id (l.machine.regs 0) (l ∷ ls)) h
  accessor_fits w l ls m id (Changes result i things) h =
      change_fits w l ls m id result i things (is_record_spent w.accounts l ls) h

  asked_fits : (w : Objects) (q pt : ℕ) (ls : List Level) (g : Option GraftValue) → AllFit w.accounts ls →
      OutcomeFits (ask_answered v images w p q pt ls g)
  asked_fits w q pt ls None h = let d = default_of v w.things q pt in answer_fits pt d.0 d.1 w.accounts ls h
  asked_fits w q pt ls (Some g) h = (none_fits (w.accounts.graft q pt), h)

  ask_fits : (w : Objects) (l : Level) (ls : List Level) (m : Machine) (id pt : ℕ) (refusal : Option Cause) →
      AllFit w.accounts (l ∷ ls) →
      OutcomeFits (after_ask v images w p l ls m id pt refusal)
  ask_fits w l ls m id pt (Some cause) h = drop_fits w l ls cause h
  ask_fits w l ls m id pt None h =
      let asker = with_touched (asked_objects id (l.machine.regs 0) l.owner) (with_machine m l) in
      let o = (asked_graft id (l.machine.regs 0) l.owner).object in
      asked_fits w l.owner pt (touch_outermost o (asker ∷ ls)) (w.accounts.graft l.owner pt)
      (touch_fits o w.accounts (asker ∷ ls) h)

  granted_fits : (w : Objects) (l : Level) (ls : List Level) (m : Machine) (id : ℕ) (ask : Bool) →
      AllFit w.accounts (l ∷ ls) →
      OutcomeFits (granted_call v images w p l ls m id ask)
  granted_fits w l ls m id true h =
      let pt = asked_point id (l.machine.regs 0) in ask_fits w l ls m id pt (ask_refusal w l.owner pt id (l ∷ ls)) h
  granted_fits w l ls m id false h =
      accessor_fits w l ls m id (access id (l.machine.regs 0) (l.machine.regs 1) (l.machine.regs 2) l.owner w.things) h

  call_fits : (w : Objects) (l : Level) (ls : List Level) (m : Machine) (id : ℕ) (refusal : Option Cause) →
      AllFit w.accounts (l ∷ ls) →
      OutcomeFits (after_call v images w p l ls m id refusal)
  call_fits w l ls m id (Some cause) h = drop_fits w l ls cause h
  call_fits w l ls m id None h = granted_fits w l ls m id (is_ask id) h

  completed_fits : (w : Objects) (l : Level) (ls : List Level) → AllFit w.accounts (l ∷ ls) →
      OutcomeFits (completed w l ls)
  completed_fits w l [] h = tt
  completed_fits w l (k ∷ ls) h = h.1

  keeping_fits : (w : Objects) (l : Level) (ls : List Level) (spent : Bool) → AllFit w.accounts (l ∷ ls) →
      OutcomeFits (after_keeping v w l ls spent)
  keeping_fits w l ls true h = drop_fits w l ls SpentRecords h
  keeping_fits w l ls false h =
      completed_fits
      (record {
        accounts = charge Records l.owner l.point w.accounts;
        things = set_segment l.owner l.point (Some l.machine.memory) w.things;
      })
      (record l { records = found_segment l.owner l.point w.things ∷ l.records }) ls (charged_fits Records w l ls h)

  kept_fits : (w : Objects) (l : Level) (ls : List Level) (keeps : Bool) → AllFit w.accounts (l ∷ ls) →
      OutcomeFits (after_answer v w l ls keeps)
  kept_fits w l ls true h = keeping_fits w l ls (is_record_spent w.accounts l ls) h
  kept_fits w l ls false h = completed_fits w l ls h

  return_fits : (w : Objects) (l : Level) (ls : List Level) (is_valid : Bool) → AllFit w.accounts (l ∷ ls) →
      OutcomeFits (after_return v images w l ls is_valid)
  return_fits w l ls true h = kept_fits w l ls (keeps_in (image_of images (w.accounts.graft l.owner l.point))) h
  return_fits w l ls false h = drop_fits w l ls (RefusedAnswer (l.machine.regs 0) (l.machine.regs 1)) h

  machine_fits : (w : Objects) (l : Level) (ls : List Level) (d : Done) → AllFit w.accounts (l ∷ ls) →
      OutcomeFits (after_machine v images p w l ls d)
  machine_fits w l ls (Done.Went m) h = h
  machine_fits w l ls (Called id m) h =
      call_fits w l ls m id (early_refusal v.callable id (l.machine.regs 0) (l.machine.regs 1) l.owner) h
  machine_fits w l ls Returned h =
      return_fits w l ls (valid w.things l.owner l.point l.args (l.machine.regs 0) (l.machine.regs 1)) h
  machine_fits w l ls Done.DividedByZero h = drop_fits w l ls Cause.DivideByZero h
  machine_fits w l ls (Trapped code) h = drop_fits w l ls (Cause.Trap code) h
  machine_fits w l ls Outside h = drop_fits w l ls Cause.DivideByZero h
  machine_fits w l ls PastEnd h = drop_fits w l ls Cause.DivideByZero h

  -- one more is within the limit where the count isn't at it
  one_more : (n : ℕ) (g : Option GraftValue) (b : Bool) → (n == limit_in g || b) ≡ false → Fits n g →
      Fits (n + 1) g
  one_more n None b e h = tt
  one_more n (Some g) b e h = below (n == g.limit) b n g.limit refl e h
    where
      below : (x b : Bool) (n m : ℕ) → (n == m) ≡ x → (x || b) ≡ false → n ≤ m → n + 1 ≤ m
      below true b n m e f h = absurd cc
      below false b n m e f h = grind (arith, nat_tests)

  step_fits : (w : Objects) (l : Level) (ls : List Level) (spent : Bool) → is_spent w.accounts l ≡ spent →
      AllFit w.accounts (l ∷ ls) →
      OutcomeFits (charged_step v images p w l ls spent)
  step_fits w l ls true e h = drop_fits w l ls SpentSteps h
  step_fits w l ls false e h =
      let n = record l { count = l.count + 1 } in
      let more : AllFit w.accounts (n ∷ ls) = (
        one_more l.count (w.accounts.graft l.owner l.point) (funds w.accounts l.owner l.point Steps == 0) e h.0,
        h.1,
      ) in
      machine_fits (with_accounts (charge Steps l.owner l.point w.accounts) w) n ls
      (seg_step (code_of images w.accounts l.owner l.point) l.machine) (charged_fits Steps w n ls more)

  pub micro_fits : (w : Objects) (ls : List Level) → AllFit w.accounts ls →
      OutcomeFits (micro_on v images p w ls)
  micro_fits w [] h = tt
  micro_fits w (l ∷ ls) h = step_fits w l ls (is_spent w.accounts l) refl h

-- ---- as the law says it

-- what is within the limit of a graft that stands
pub fits_graft : (n : ℕ) (x : Option GraftValue) (g : GraftValue) → x ≡ Some g → Fits n x → n ≤ g.limit
fits_graft n x g e h = subst (Fits n) e h

pub counts_fit : (c : Config) → AllFit c.now.accounts c.levels → CountsFit c
counts_fit c h l g there stands =
    fits_graft l.count (c.now.accounts.graft l.owner l.point) g stands
    (each_contains (LevelFits c.now.accounts) c.levels l h there)

all_fit : (c : Config) → CountsFit c → AllFit c.now.accounts c.levels
all_fit c h =
    each_from (LevelFits c.now.accounts) c.levels
    (λ l there. fits_by l.count (c.now.accounts.graft l.owner l.point) (λ g stands. h l g there stands))
  where
    fits_by : (n : ℕ) (x : Option GraftValue) → ((g : GraftValue) → x ≡ Some g → n ≤ g.limit) → Fits n x
    fits_by n None h = tt
    fits_by n (Some g) h = h g refl

pub instructions_keep_counts : InstructionsKeepCounts
instructions_keep_counts v images p c h =
    counts_fit (micro v images p c).config (micro_fits v images p c.now c.levels (all_fit c h))
