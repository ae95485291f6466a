-- An instruction changes nothing but what some level holds exclusively.
use Rattle.std.specs.Prelude.{◌≡◌, ◌≢◌, ℕ, suc, ◌+◌, ◌<◌, ◌==◌, Bool, true, false, List, [], ◌∷◌}
use Rattle.std.specs.Prelude.{length, Option, Some, None, Contains}
use Rattle.std.proofs.Common.{arith, refl, subst, sym, ap, ◌∙◌, inl, inr}
use Rattle.std.proofs.lemmas.List.Elements.{Contains-append_right}
use Rattle.kernel_model.specs.declared.Held.{Held}
use Rattle.kernel_model.specs.declared.Kind.{Kind}
use Rattle.kernel_model.specs.declared.Kind.TheVariants.{Steps, Records, Locks}
use Rattle.kernel_model.specs.declared.Cause.{Cause}
use Rattle.kernel_model.specs.declared.Cause.TheVariants.{SpentSteps, SpentRecords, SpentLocks, RefusedAnswer}
use Rattle.kernel_model.specs.declared.Inverse.{Inverse}
use Rattle.kernel_model.specs.declared.Inverse.TheVariants.{Segment}
use Rattle.kernel_model.specs.declared.Mode.{Mode}
use Rattle.kernel_model.specs.declared.Need.{Need}
use Rattle.kernel_model.specs.declared.Object.{Object}
use Rattle.kernel_model.specs.declared.Object.TheVariants.{Graft, Acct, Cell, OpenFile, Queue, Cache, Lock, Pol}
use Rattle.kernel_model.specs.World.{World, ImageTable}
use Rattle.kernel_model.specs.Objects.{Objects, Accounts, Things, GraftValue, SameAt, SameThing, with_accounts, at2}
use Rattle.kernel_model.specs.Machine.{Machine, Done, Called, Returned, Trapped, Outside, PastEnd, seg_step}
use Rattle.kernel_model.specs.Policies.{valid}
use Rattle.kernel_model.specs.Charges.{funds, pay, spend, taken_from, returned, charge, charge_by}
use Rattle.kernel_model.specs.Charges.{charge_account, charge_graft, removed, removed_by}
use Rattle.kernel_model.specs.Access.{Found, bare_found, found_segment, set_segment}
use Rattle.kernel_model.specs.Access.{object_of_inverse, Access, Gives, Changes, Refuses, access}
use Rattle.kernel_model.specs.Access.{early_refusal, is_ask, accessed, needed, asked_point}
use Rattle.kernel_model.specs.Access.{asked_objects, asked_graft, changed_by, undo}
use Rattle.kernel_model.specs.UndoLog.{undo_all, undo_log, kept_by_log}
use Rattle.kernel_model.specs.Locks.{touch}
use Rattle.kernel_model.specs.Levels.{Level, Outcome, code_of, image_of, keeps_in, with_machine}
use Rattle.kernel_model.specs.Levels.{with_touched, touch_outermost, drop_innermost}
use Rattle.kernel_model.specs.GraftStep.{after_access, is_lock_due, lock_paid, after_result}
use Rattle.kernel_model.specs.GraftStep.{is_record_spent, after_change, after_accessor}
use Rattle.kernel_model.specs.GraftStep.{ask_refusal, ask_answered, after_ask, granted_call}
use Rattle.kernel_model.specs.GraftStep.{after_call, completed, after_keeping, after_answer}
use Rattle.kernel_model.specs.GraftStep.{after_return, after_machine, is_spent, charged_step}
use Rattle.kernel_model.specs.GraftStep.{micro_on}
use Rattle.kernel_model.specs.InPlace.{is_changed_in}
use Rattle.kernel_model.specs.Claims.{ChangesWhatIsHeld}
use Rattle.call_laws.specs.Ledgers.{at_other}
use Rattle.kernel_laws.specs.Undoing.{ChangesItsObject}
use Rattle.kernel_laws.specs.Soundness.{found_by}
use Rattle.kernel_laws.proofs.StoreLemmas.{found_at}
use Rattle.kernel_laws.proofs.UndoingLemmas.{inverses_change_one_object, changes_are_of_one_object}
use Rattle.kernel_laws.proofs.LevelLemmas.{AreHeld, touch_here, held_on, keep_self, inner_changed, outer_changed}
use Rattle.kernel_laws.proofs.ConfigLemmas.{first_of_found, charged_held}
use Rattle.kernel_laws.proofs.SoundConfigLemmas.{sound_held}
use Rattle.call_laws.specs.FileChanges.{same_self}

-- ---- the same value

pub same_then : (o : Object) (x y z : Objects) → SameAt o x y → SameAt o y z → SameAt o x z
same_then (Graft q pt) x y z h k = (h.0 ∙ k.0, h.1 ∙ k.1)
same_then (Acct q) x y z h k = h ∙ k
same_then (Cell q i) x y z h k = h ∙ k
same_then (OpenFile q fd) x y z h k = h ∙ k
same_then Queue x y z h k = (h.0 ∙ k.0, h.1 ∙ k.1)
same_then Cache x y z h k = h ∙ k
same_then (Lock u) x y z h k = h ∙ k
same_then (Pol i) x y z h k = h ∙ k

-- things alone
pub thing_self : (o : Object) (w : Things) → SameThing o w w
thing_self (Graft q pt) w = refl
thing_self (Acct q) w = tt
thing_self (Cell q k) w = refl
thing_self (OpenFile q fd) w = refl
thing_self Queue w = (refl, refl)
thing_self Cache w = refl
thing_self (Lock u) w = refl
thing_self (Pol k) w = refl

pub thing_then : (o : Object) (x y z : Things) → SameThing o x y → SameThing o y z → SameThing o x z
thing_then (Graft q pt) x y z h k = h ∙ k
thing_then (Acct q) x y z h k = tt
thing_then (Cell q i) x y z h k = h ∙ k
thing_then (OpenFile q fd) x y z h k = h ∙ k
thing_then Queue x y z h k = (h.0 ∙ k.0, h.1 ∙ k.1)
thing_then Cache x y z h k = h ∙ k
thing_then (Lock u) x y z h k = h ∙ k
thing_then (Pol i) x y z h k = h ∙ k

-- of accounts one part, of things the other
same_parts : (o : Object) (a b : Accounts) (x y : Things) →
    SameAt o (record { accounts = a; things = x }) (record { accounts = b; things = x }) →
    SameThing o x y →
    SameAt o (record { accounts = a; things = x }) (record { accounts = b; things = y })
same_parts (Graft q pt) a b x y h k = (h.0, k)
same_parts (Acct q) a b x y h k = h
same_parts (Cell q i) a b x y h k = k
same_parts (OpenFile q fd) a b x y h k = k
same_parts Queue a b x y h k = k
same_parts Cache a b x y h k = k
same_parts (Lock u) a b x y h k = k
same_parts (Pol i) a b x y h k = k

-- ---- accounts and grafts

-- accounts that differ in a graft and its installer's account alone
pub record DifferAt (q pt : ℕ) (a b : Accounts) : Type 0 where
  pub graft : (r pu : ℕ) → Graft r pu ≢ Graft q pt → a.graft r pu ≡ b.graft r pu
  pub acct : (r : ℕ) → r ≢ q → a.acct r ≡ b.acct r

pub differ_frame : (q pt : ℕ) (a b : Accounts) (x : Things) (o : Object) → DifferAt q pt a b →
    o ≢ Graft q pt → o ≢ Acct q →
    SameAt o (record { accounts = a; things = x }) (record { accounts = b; things = x })
differ_frame q pt a b x (Graft r pu) h g k = (h.graft r pu g, refl)
differ_frame q pt a b x (Acct r) h g k = h.acct r (λ e. k (ap Acct e))
differ_frame q pt a b x (Cell r i) h g k = refl
differ_frame q pt a b x (OpenFile r fd) h g k = refl
differ_frame q pt a b x Queue h g k = (refl, refl)
differ_frame q pt a b x Cache h g k = refl
differ_frame q pt a b x (Lock u) h g k = refl
differ_frame q pt a b x (Pol i) h g k = refl

-- a graft at another place
pub other_graft : (q pt r pu : ℕ) (x : Option GraftValue) (f : ℕ → ℕ → Option GraftValue) →
    Graft r pu ≢ Graft q pt → at2 q pt x f r pu ≡ f r pu
other_graft q pt r pu x f ne = elim (found_at q pt r pu x f) [
  | inl here ↦ absurd (ne (ap (λ i. Graft i pu) here.0 ∙ ap (λ i. Graft q i) here.1))
  | inr other ↦ other
]

pub charge_differs : (k : Kind) (q pt : ℕ) (a : Accounts) → DifferAt q pt (charge k q pt a) a
charge_differs k q pt a = differs_by (a.graft q pt)
  where
    differs_if : (billed : Bool) (g : GraftValue) → DifferAt q pt (elim billed as (λ _. Accounts)
        [ true ↦ charge_account k q a | false ↦ charge_graft k q pt g a ]) a
    differs_if true g = record { graft = λ r pu ne. refl; acct = λ r ne. at_other q r (pay k (a.acct q)) a.acct ne }
    differs_if false g =
        record {
          graft = λ r pu ne. other_graft q pt r pu (Some (taken_from k g)) a.graft ne;
          acct = λ r ne. at_other q r (spend k (a.acct q)) a.acct ne;
        }

    differs_by : (g : Option GraftValue) → DifferAt q pt (charge_by k q pt g a) a
    differs_by None = record { graft = λ r pu ne. refl; acct = λ r ne. refl }
    differs_by (Some g) = differs_if g.billed g

pub remove_differs : (q pt : ℕ) (a : Accounts) → DifferAt q pt (removed q pt a) a
remove_differs q pt a = differs_by (a.graft q pt)
  where
    differs_by : (g : Option GraftValue) → DifferAt q pt (removed_by q pt g a) a
    differs_by None = record { graft = λ r pu ne. refl; acct = λ r ne. refl }
    differs_by (Some g) =
        record {
          graft = λ r pu ne. other_graft q pt r pu None a.graft ne;
          acct = λ r ne. at_other q r (returned g (a.acct q)) a.acct ne;
        }

-- ---- what is held

-- a test doesn't pass and fail
pub contrary : true ≡ false → ⊥
contrary h = cc

-- what isn't changed is another object
pub other_than : (ls : List Level) (o x : Object) → is_changed_in ls o ≡ false → is_changed_in ls x ≡ true → o ≢ x
other_than ls o x none some e = contrary (sym some ∙ ap (is_changed_in ls) (sym e) ∙ none)

-- records of other objects leave an object
undo_frame : (is : List Found) (w : Things) (o : Object) →
    ((i : Found) → Contains is i → o ≢ changed_by i) → SameThing o (undo_all is w) w
undo_frame [] w o h = thing_self o w
undo_frame (i ∷ is) w o h =
    thing_then o (undo_all is (undo i w)) (undo i w) w
    (undo_frame is (undo i w) o (λ j c. h j (Contains-append_right (i ∷ []) is j c)))
    (inverses_change_one_object i o w (h i (0, below_suc (length is), refl)))
  where
    below_suc : (n : ℕ) → 0 < suc n
    below_suc n = omega arith

-- ---- outcomes

-- an outcome leaves an object that no level holds exclusively after it
abbrev Leaves : Object → Objects → Outcome → Type 0
Leaves o w r = is_changed_in r.config.levels o ≡ false → SameAt o r.config.now w

module _ (v : World) (o : Object) where
  -- a charge of the innermost level's graft
  charge_leaves : (w : Objects) (l : Level) (ls : List Level) (k : Kind) → AreHeld w (l ∷ ls) →
      is_changed_in (l ∷ ls) o ≡ false →
      SameAt o (with_accounts (charge k l.owner l.point w.accounts) w) w
  charge_leaves w l ls k h none =
      differ_frame l.owner l.point (charge k l.owner l.point w.accounts) w.accounts w.things o
      (charge_differs k l.owner l.point w.accounts)
      (other_than (l ∷ ls) o (Graft l.owner l.point) none
      (outer_changed (l ∷ ls) (Graft l.owner l.point) h.each.0.graft))
      (other_than (l ∷ ls) o (Acct l.owner) none (outer_changed (l ∷ ls) (Acct l.owner) h.each.0.acct))

  drop_leaves : (w : Objects) (l : Level) (ls : List Level) (cause : Cause) → AreHeld w (l ∷ ls) →
      is_changed_in (l ∷ ls) o ≡ false → Leaves o w (drop_innermost v w l ls cause)
  drop_leaves w l ls cause h none after =
      let before = undo_all l.records w.things in
      let first = first_of_found l.kept before (found_by ls) (kept_by_log before (undo_log ls)) h.kept in
      same_parts o (removed l.owner l.point w.accounts) w.accounts l.kept w.things
      (differ_frame l.owner l.point (removed l.owner l.point w.accounts) w.accounts l.kept o
      (remove_differs l.owner l.point w.accounts)
      (other_than (l ∷ ls) o (Graft l.owner l.point) none
      (outer_changed (l ∷ ls) (Graft l.owner l.point) h.each.0.graft))
      (other_than (l ∷ ls) o (Acct l.owner) none (outer_changed (l ∷ ls) (Acct l.owner) h.each.0.acct)))
      (subst (λ x. SameThing o x w.things) (sym first)
      (undo_frame l.records w.things o (λ i c. other_than (l ∷ ls) o (changed_by i) none (h.recorded.0 i c))))

  lock_leaves : (w : Objects) (l : Level) (ls : List Level) (m : Machine) (id result : ℕ)
      (spent : Bool) → AreHeld w (l ∷ ls) → is_changed_in (l ∷ ls) o ≡ false →
      Leaves o w (lock_paid v w l ls m id result spent)
  lock_leaves w l ls m id result true h none = drop_leaves w l ls SpentLocks h none
  lock_leaves w l ls m id result false h none = λ after. charge_leaves w l ls Locks h none

  result_leaves : (w : Objects) (l : Level) (ls : List Level) (m : Machine) (id result : ℕ)
      (due : Bool) → AreHeld w (l ∷ ls) → is_changed_in (l ∷ ls) o ≡ false →
      Leaves o w (after_result v w l ls m id result due)
  result_leaves w l ls m id result true h none =
      lock_leaves w l ls m id result (funds w.accounts l.owner l.point Locks == 0) h none
  result_leaves w l ls m id result false h none = λ after. same_self o w

  change_leaves : (w : Objects) (l : Level) (ls : List Level) (m : Machine) (id result : ℕ)
      (i : Inverse) (u : Things) (spent : Bool) → AreHeld w (l ∷ ls) →
      is_changed_in (l ∷ ls) o ≡ false →
      accessed id (l.machine.regs 0) l.owner ≡ needed (object_of_inverse i) Mode.Exclusive →
      ((x : Object) → x ≢ object_of_inverse i → SameThing x u w.things) →
      Leaves o w (after_change v w l ls m id result i u spent)
  change_leaves w l ls m id result i u true h none needs own = drop_leaves w l ls SpentRecords h none
  change_leaves w l ls m id result i u false h none needs own = λ after.
      let n = record (after_access l m id result) { records = bare_found i ∷ l.records } in
      let held = subst (λ (x : Need). touch x.object x.mode l.touched (object_of_inverse i)
      ≡ Held.Exclusive) (sym needs) (touch_here (object_of_inverse i) l.touched) in
      same_parts o (charge Records l.owner l.point w.accounts) w.accounts u w.things
      (differ_frame l.owner l.point (charge Records l.owner l.point w.accounts) w.accounts u o
      (charge_differs Records l.owner l.point w.accounts)
      (other_than (l ∷ ls) o (Graft l.owner l.point) none
      (outer_changed (l ∷ ls) (Graft l.owner l.point) h.each.0.graft))
      (other_than (l ∷ ls) o (Acct l.owner) none (outer_changed (l ∷ ls) (Acct l.owner) h.each.0.acct)))
      (own o (other_than (n ∷ ls) o (object_of_inverse i) after (inner_changed n ls (object_of_inverse i) held)))

  accessor_leaves : (w : Objects) (l : Level) (ls : List Level) (m : Machine) (id : ℕ)
      (x : Access) → AreHeld w (l ∷ ls) → is_changed_in (l ∷ ls) o ≡ false →
      ChangesItsObject id (l.machine.regs 0) l.owner w.things x → Leaves o w (after_accessor v w l ls m id x)
  accessor_leaves w l ls m id (Refuses cause) h none own = drop_leaves w l ls cause h none
  accessor_leaves w l ls m id (Gives result) h none own =
      result_leaves w l ls m id result (is_lock_due id (l.machine.regs 0) (l ∷ ls)) h none
  accessor_leaves w l ls m id (Changes result i u) h none own =
      change_leaves w l ls m id result i u (is_record_spent w.accounts l ls) h none own.0 own.1

  module _ (images : ImageTable) (p : ℕ) where
    answered_leaves : (w : Objects) (q pt : ℕ) (ks : List Level) (g : Option GraftValue) →
        Leaves o w (ask_answered v images w p q pt ks g)
    answered_leaves w q pt ks None = λ after. same_self o w
    answered_leaves w q pt ks (Some g) = λ after. same_self o w

    ask_leaves : (w : Objects) (l : Level) (ls : List Level) (m : Machine) (id pt : ℕ)
        (x : Option Cause) → AreHeld w (l ∷ ls) → is_changed_in (l ∷ ls) o ≡ false →
        Leaves o w (after_ask v images w p l ls m id pt x)
    ask_leaves w l ls m id pt (Some cause) h none = drop_leaves w l ls cause h none
    ask_leaves w l ls m id pt None h none =
        answered_leaves w l.owner pt
        (touch_outermost (asked_graft id (l.machine.regs 0) l.owner).object
        (with_touched (asked_objects id (l.machine.regs 0) l.owner) (with_machine m l) ∷ ls))
        (w.accounts.graft l.owner pt)

    granted_leaves : (w : Objects) (l : Level) (ls : List Level) (m : Machine) (id : ℕ)
        (ask : Bool) → AreHeld w (l ∷ ls) → is_changed_in (l ∷ ls) o ≡ false →
        Leaves o w (granted_call v images w p l ls m id ask)
    granted_leaves w l ls m id true h none =
        ask_leaves w l ls m id (asked_point id (l.machine.regs 0))
        (ask_refusal w l.owner (asked_point id (l.machine.regs 0)) id (l ∷ ls)) h none
    granted_leaves w l ls m id false h none =
        accessor_leaves w l ls m id (access id (l.machine.regs 0) (l.machine.regs 1)
        (l.machine.regs 2) l.owner w.things) h none
        (changes_are_of_one_object id (l.machine.regs 0) (l.machine.regs 1) (l.machine.regs 2) l.owner w.things)

    call_leaves : (w : Objects) (l : Level) (ls : List Level) (m : Machine) (id : ℕ)
        (x : Option Cause) → AreHeld w (l ∷ ls) → is_changed_in (l ∷ ls) o ≡ false →
        Leaves o w (after_call v images w p l ls m id x)
    call_leaves w l ls m id (Some cause) h none = drop_leaves w l ls cause h none
    call_leaves w l ls m id None h none = granted_leaves w l ls m id (is_ask id) h none

    completed_leaves : (w : Objects) (l : Level) (ls : List Level) → Leaves o w (completed w l ls)
    completed_leaves w l [] = λ after. same_self o w
    completed_leaves w l (asker ∷ rest) = λ after. same_self o w

    keeping_leaves : (w : Objects) (l : Level) (ls : List Level) (spent : Bool) →
        AreHeld w (l ∷ ls) → is_changed_in (l ∷ ls) o ≡ false →
        Leaves o w (after_keeping v w l ls spent)
    keeping_leaves w l ls true h none = drop_leaves w l ls SpentRecords h none
    keeping_leaves w l ls false h none = λ after.
        let a = charge Records l.owner l.point w.accounts in
        let u = set_segment l.owner l.point (Some l.machine.memory) w.things in
        let n = record l { records = found_segment l.owner l.point w.things ∷ l.records } in
        let graft = other_than (l ∷ ls) o (Graft l.owner l.point) none
        (outer_changed (l ∷ ls) (Graft l.owner l.point) h.each.0.graft) in
        let acct = other_than (l ∷ ls) o (Acct l.owner) none (outer_changed (l ∷ ls) (Acct l.owner) h.each.0.acct) in
        same_then o (completed (record { accounts = a; things = u }) n ls).config.now
        (record { accounts = a; things = u }) w
        (completed_leaves (record { accounts = a; things = u }) n ls after)
        (same_parts o a w.accounts u w.things
        (differ_frame l.owner l.point a w.accounts u o (charge_differs Records l.owner l.point w.accounts) graft acct)
        (inverses_change_one_object (record {
          inverse = Segment l.owner l.point;
          bytes = Some l.machine.memory;
        }) o w.things graft))

    answer_leaves : (w : Objects) (l : Level) (ls : List Level) (keeps : Bool) →
        AreHeld w (l ∷ ls) → is_changed_in (l ∷ ls) o ≡ false →
        Leaves o w (after_answer v w l ls keeps)
    answer_leaves w l ls true h none = keeping_leaves w l ls (is_record_spent w.accounts l ls) h none
    answer_leaves w l ls false h none = completed_leaves w l ls

    return_leaves : (w : Objects) (l : Level) (ls : List Level) (b : Bool) → AreHeld w (l ∷ ls) →
        is_changed_in (l ∷ ls) o ≡ false → Leaves o w (after_return v images w l ls b)
    return_leaves w l ls true h none =
        answer_leaves w l ls (keeps_in (image_of images (w.accounts.graft l.owner l.point))) h none
    return_leaves w l ls false h none = drop_leaves w l ls (RefusedAnswer (l.machine.regs 0) (l.machine.regs 1)) h none

    machine_leaves : (w : Objects) (l : Level) (ls : List Level) (x : Done) → AreHeld w (l ∷ ls) →
        is_changed_in (l ∷ ls) o ≡ false →
        Leaves o w (after_machine v images p w l ls x)
    machine_leaves w l ls (Done.Went m) h none = λ after. same_self o w
    machine_leaves w l ls (Called id m) h none =
        call_leaves w l ls m id
        (early_refusal v.callable id (l.machine.regs 0) (l.machine.regs 1) l.owner) h none
    machine_leaves w l ls Returned h none =
        return_leaves w l ls
        (valid w.things l.owner l.point l.args (l.machine.regs 0) (l.machine.regs 1)) h none
    machine_leaves w l ls Done.DividedByZero h none = drop_leaves w l ls Cause.DivideByZero h none
    machine_leaves w l ls (Trapped code) h none = drop_leaves w l ls (Cause.Trap code) h none
    machine_leaves w l ls Outside h none = drop_leaves w l ls Cause.DivideByZero h none
    machine_leaves w l ls PastEnd h none = drop_leaves w l ls Cause.DivideByZero h none

    step_leaves : (w : Objects) (l : Level) (ls : List Level) (spent : Bool) → AreHeld w (l ∷ ls) →
        is_changed_in (l ∷ ls) o ≡ false →
        Leaves o w (charged_step v images p w l ls spent)
    step_leaves w l ls true h none = drop_leaves w l ls SpentSteps h none
    step_leaves w l ls false h none = λ after.
        let u = with_accounts (charge Steps l.owner l.point w.accounts) w in
        let n = record l { count = l.count + 1 } in
        let x = seg_step (code_of images w.accounts l.owner l.point) l.machine in
        let k = held_on u (n ∷ ls) (l ∷ ls) (
          record {
            owner = refl;
            point = refl;
            records = refl;
            kept = refl;
            touched = λ o e. e;
          },
          keep_self ls,
        )
        (charged_held w (l ∷ ls) l.owner l.point Steps h) in
        same_then o (after_machine v images p u n ls x).config.now u w
        (machine_leaves u n ls x k none after) (charge_leaves w l ls Steps h none)

    levels_leave : (w : Objects) (ls : List Level) → AreHeld w ls → is_changed_in ls o ≡ false →
        Leaves o w (micro_on v images p w ls)
    levels_leave w [] h none = λ after. same_self o w
    levels_leave w (l ∷ ls) h none = step_leaves w l ls (is_spent w.accounts l) h none

-- an instruction changes nothing but what some level holds exclusively, before it or after it
pub changes_what_is_held : ChangesWhatIsHeld
changes_what_is_held v images p c o h none after =
    levels_leave v o images p c.now c.levels (sound_held v c h) none after
