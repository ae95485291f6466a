-- What one instruction does is what its effects do, but for the machine, the things, and which level is the innermost.
use Rattle.std.specs.Prelude.{◌≡◌, ℕ, ◌+◌, ◌==◌, ◌&&◌, Bool, true, false, cond, not, List}
use Rattle.std.specs.Prelude.{[], ◌∷◌, length, Option, Some, None, is_some, ⊤, ◌⊎◌}
use Rattle.std.proofs.Common.{arith, refl, sym, ap, ◌∙◌, inl, inr}
use Rattle.std.proofs.lemmas.Bool.Decides.{nat_tests}
use Rattle.kernel_model.specs.declared.Cause.{Cause}
use Rattle.kernel_model.specs.declared.Cause.TheVariants.{SpentSteps, SpentRecords, SpentLocks, RefusedAnswer}
use Rattle.kernel_model.specs.declared.Inverse.{Inverse}
use Rattle.kernel_model.specs.declared.Kind.{Kind}
use Rattle.kernel_model.specs.declared.Kind.TheVariants.{Steps, Records, Locks}
use Rattle.kernel_model.specs.declared.Micro.{Micro}
use Rattle.kernel_model.specs.declared.Object.{Object}
use Rattle.kernel_model.specs.declared.Object.TheVariants.{Graft}
use Rattle.kernel_model.specs.World.{World, ImageTable}
use Rattle.kernel_model.specs.Objects.{Objects, Accounts, Things, GraftValue, with_accounts}
use Rattle.kernel_model.specs.Machine.{Machine, Done, Called, Returned, Trapped, Outside, PastEnd, seg_step}
use Rattle.kernel_model.specs.Policies.{valid, kind_of, default_of, args_by}
use Rattle.kernel_model.specs.Access.{Access, Gives, Changes, Refuses, access, early_refusal}
use Rattle.kernel_model.specs.Access.{is_ask, accessed, asked_point, asked_objects, bare_found}
use Rattle.kernel_model.specs.Access.{found_segment, set_segment}
use Rattle.kernel_model.specs.Charges.{payer_balance, funds, charge, charge_by, charge_account}
use Rattle.kernel_model.specs.Charges.{charge_graft, taken_from, removed, removed_by}
use Rattle.kernel_model.specs.Locks.{Touched, untouched, is_held}
use Rattle.kernel_model.specs.Levels.{Level, Config, Effect, Asked, Charged, Removed, Outcome}
use Rattle.kernel_model.specs.Levels.{with_effect, code_of, new_level, with_machine, with_touched}
use Rattle.kernel_model.specs.Levels.{touch_outermost, outermost_touched, answered}
use Rattle.kernel_model.specs.Levels.{answer_innermost, drop_innermost, image_of, keeps_in}
use Rattle.kernel_model.specs.GraftStep.{after_access, is_lock_due, lock_paid, after_result}
use Rattle.kernel_model.specs.GraftStep.{is_record_spent, after_change, after_accessor}
use Rattle.kernel_model.specs.GraftStep.{ask_refusal, ask_answered, after_ask, granted_call}
use Rattle.kernel_model.specs.GraftStep.{after_call, completed, after_keeping, after_answer}
use Rattle.kernel_model.specs.GraftStep.{after_return, after_machine, is_spent, charged_step}
use Rattle.kernel_model.specs.GraftStep.{micro_on}
use Rattle.graft_laws.proofs.HistoryEffectLemmas.{levels_by, accounts_by, CanBeMade, is_standing, IsOf}
use Rattle.graft_laws.proofs.HistoryEffectLemmas.{touch_inside, touch_here}
use Rattle.graft_laws.proofs.HistoryEffectLemmas.{first_held}
use Rattle.graft_laws.proofs.HoldLemmas.{stronger_with, touch_all_held}
use Rattle.kernel_laws.proofs.ConfigLemmas.{neither}
use Rattle.graft_laws.proofs.PastLemmas.{outermost_after}
use Rattle.kernel_laws.proofs.SettleLemmas.{both_pass}

-- ---- the levels after an instruction

-- what is held by one is held by the other
abbrev pub HoldsMore : Touched → Touched → Type 0
HoldsMore t u = (o : Object) → is_held (u o) ≡ true → is_held (t o) ≡ true

-- the same level is the innermost one
pub record StaysIn (q pt : ℕ) (kept : Things) (t : Touched) (ls : List Level) (c : Config) : Type 0 where
  pub own : Level
  pub levels : c.levels ≡ own ∷ ls
  pub owner : own.owner ≡ q
  pub point : own.point ≡ pt
  pub found : own.kept ≡ kept
  pub more : HoldsMore own.touched t

-- a new level is, of a graft of the same process
pub record GoesDeeper (q pt : ℕ) (kept : Things) (t : Touched) (ls : List Level) (c : Config) : Type 0 where
  pub inner : Level
  pub own : Level
  pub levels : c.levels ≡ inner ∷ own ∷ ls
  pub owner : own.owner ≡ q
  pub point : own.point ≡ pt
  pub found : own.kept ≡ kept
  pub more : HoldsMore own.touched t
  pub inner_owner : inner.owner ≡ q
  pub inner_found : inner.kept ≡ c.now.things
  pub held : is_held (outermost_touched (own ∷ ls) (Graft q inner.point)) ≡ true

-- the asker is
pub record ComesBack (ls : List Level) (c : Config) : Type 0 where
  pub asker : Level
  pub own : Level
  pub rest : List Level
  pub outside : ls ≡ asker ∷ rest
  pub levels : c.levels ≡ own ∷ rest
  pub same : IsOf own asker
  pub more : HoldsMore own.touched asker.touched

-- the level was dropped: the objects are as it found them, and its asker gets the default
pub record WasDropped (v : World) (q pt : ℕ) (kept : Things) (ls : List Level) (d r pu : ℕ) (c : Config) : Type 0 where
  pub level : d ≡ length ls
  pub owner : r ≡ q
  pub point : pu ≡ pt
  pub things : c.now.things ≡ kept
  pub gone : is_some (c.now.accounts.graft q pt) ≡ false
  pub levels : c.levels ≡ answer_innermost pt (default_of v kept q pt).0 (default_of v kept q pt).1 ls

-- by what is said of the instruction, where ls are the levels outside after its effects
abbrev pub Next : World → (q pt : ℕ) → Things → Touched → List Level → Micro → Config → Type 0
Next v q pt kept t ls Micro.Went c = StaysIn q pt kept t ls c ⊎ GoesDeeper q pt kept t ls c ⊎ ComesBack ls c
Next v q pt kept t ls (Micro.Dropped d r pu cause) c = WasDropped v q pt kept ls d r pu c
Next v q pt kept t ls (Micro.Blocked object holder by_user) c = ⊤
Next v q pt kept t ls (Micro.Completed answer) c = ⊤

-- no graft is taken out
abbrev pub NoneRemoved : List Effect → Type 0
NoneRemoved [] = ⊤
NoneRemoved (Asked pt ∷ es) = NoneRemoved es
NoneRemoved (Charged pt k ∷ es) = NoneRemoved es
NoneRemoved (Removed pt ∷ es) = ⊥

-- what holds where the call goes on
abbrev pub WhereGoesOn : Micro → Type 0 → Type 0
WhereGoesOn Micro.Went A = A
WhereGoesOn said A = ⊤

-- where a level was dropped the test passes
abbrev pub WhereDropped : Micro → Bool → Type 0
WhereDropped (Micro.Dropped d q pt cause) b = b ≡ true
WhereDropped said b = ⊤

-- What an instruction of a level of the graft at (q, pt), which found and holds these, does to
-- accounts and to the levels outside.
pub record Acts (v : World) (t : Touched) (q pt : ℕ) (kept : Things) (own : Touched) (a : Accounts)
    (ls : List Level) (r : Outcome) : Type 0 where
  pub accounts : r.config.now.accounts ≡ accounts_by q r.effects a
  pub made : WhereDropped r.said (is_some (a.graft q pt)) → CanBeMade q r.effects a t
  pub next : Next v q pt kept own (levels_by q r.effects ls) r.said r.config
  pub none : WhereGoesOn r.said (NoneRemoved r.effects)

-- ---- charges

-- a graft that can pay stands
paying_stands : (a : Accounts) (q pt : ℕ) (k : Kind) → (funds a q pt k == 0) ≡ false → is_some (a.graft q pt) ≡ true
paying_stands a q pt k h = paying_by (a.graft q pt) h
  where
    paying_by : (g : Option GraftValue) → (payer_balance k (a.acct q) g == 0) ≡ false → is_some g ≡ true
    paying_by None h = absurd cc
    paying_by (Some g) h = refl

-- a graft stands after a charge where it stood
charge_stands : (a : Accounts) (q pt : ℕ) (k : Kind) → is_some (a.graft q pt) ≡ true →
    is_some ((charge k q pt a).graft q pt) ≡ true
charge_stands a q pt k h = stands_by (a.graft q pt)
  where
    changed_place : (b : Bool) (x y : Option GraftValue) → is_some x ≡ true → is_some y ≡ true →
        is_some (cond b x y) ≡ true
    changed_place true x y h k = h
    changed_place false x y h k = k

    stands_if : (billed : Bool) (g : GraftValue) →
        is_some ((elim billed as (λ _. Accounts) [
          | true ↦ charge_account k q a
          | false ↦ charge_graft k q pt g a
        ]).graft q pt) ≡ true
    stands_if true g = h
    stands_if false g = changed_place (q == q && pt == pt) (Some (taken_from k g)) (a.graft q pt) refl h

    stands_by : (g : Option GraftValue) → is_some ((charge_by k q pt g a).graft q pt) ≡ true
    stands_by None = h
    stands_by (Some g) = stands_if g.billed g

-- a graft that was taken out doesn't stand
pub removed_gone : (a : Accounts) (q pt : ℕ) → is_some ((removed q pt a).graft q pt) ≡ false
removed_gone a q pt = gone_by (a.graft q pt) refl
  where
    both_same : (q pt : ℕ) → (q == q && pt == pt) ≡ true
    both_same q pt = grind (arith, nat_tests)

    gone_by : (g : Option GraftValue) → a.graft q pt ≡ g → is_some ((removed_by q pt g a).graft q pt) ≡ false
    gone_by None e = ap is_some e
    gone_by (Some g) e = ap (λ b. is_some (cond b None (a.graft q pt))) (both_same q pt)

-- the same where a level was dropped
dropped_stands : (said : Micro) (a : Accounts) (q pt : ℕ) (k : Kind) →
    WhereDropped said (is_some (a.graft q pt)) →
    WhereDropped said (is_some ((charge k q pt a).graft q pt))
dropped_stands (Micro.Dropped d r pu cause) a q pt k h = charge_stands a q pt k h
dropped_stands Micro.Went a q pt k h = tt
dropped_stands (Micro.Blocked object holder by_user) a q pt k h = tt
dropped_stands (Micro.Completed answer) a q pt k h = tt

-- an outcome after a charge
charged_acts : (v : World) (t : Touched) (q pt : ℕ) (kept : Things) (own : Touched) (a : Accounts)
    (ls : List Level) (k : Kind) (r : Outcome) → is_held (t (Graft q pt)) ≡ true →
    (funds a q pt k == 0) ≡ false → Acts v t q pt kept own (charge k q pt a) ls r →
    Acts v t q pt kept own a ls (with_effect (Charged pt k) r)
charged_acts v t q pt kept own a ls k r held some h =
    record {
      accounts = h.accounts;
      made = λ stands. (
        both_pass (is_standing q pt a t) (not (funds a q pt k == 0)) (both_pass
            (is_some (a.graft q pt)) (is_held (t (Graft q pt))) (paying_stands a q pt k some) held)
            (ap not some),
        h.made (dropped_stands r.said a q pt k stands),
      );
      next = h.next;
      none = h.none;
    }

-- ---- accessors

module _ (v : World) (t : Touched) where
  -- what an instruction of l does
  abbrev pub ActsAs : Level → Accounts → List Level → Outcome → Type 0
  ActsAs l a ls r = Acts v t l.owner l.point l.kept l.touched a ls r

  -- level 0 holds the graft of l
  abbrev pub HoldsGraft : Level → Type 0
  HoldsGraft l = is_held (t (Graft l.owner l.point)) ≡ true

  -- the innermost level is dropped
  drop_acts : (w : Objects) (l : Level) (ls : List Level) (cause : Cause) → HoldsGraft l →
      ActsAs l w.accounts ls (drop_innermost v w l ls cause)
  drop_acts w l ls cause held =
      record {
        accounts = refl;
        made =
            λ stands. (
              both_pass (is_some (w.accounts.graft l.owner l.point))
                  (is_held (t (Graft l.owner l.point))) stands held,
              tt,
            );
        next =
            record {
              level = refl;
              owner = refl;
              point = refl;
              things = refl;
              gone = removed_gone w.accounts l.owner l.point;
              levels = refl;
            };
        none = tt;
      }

  -- the innermost level is changed
  stays_acts : (w : Objects) (l n : Level) (ls : List Level) → n.owner ≡ l.owner →
      n.point ≡ l.point → n.kept ≡ l.kept → HoldsMore n.touched l.touched →
      ActsAs l w.accounts ls (record { said = Micro.Went; config = record { now = w; levels = n ∷ ls }; effects = [] })
  stays_acts w l n ls owner point found more =
      record {
        accounts = refl;
        made = λ stands. tt;
        next = inl (record {
          own = n;
          levels = refl;
          owner = owner;
          point = point;
          found = found;
          more = more;
        });
        none = tt;
      }

  -- an accessor's level holds what it held
  access_more : (l : Level) (m : Machine) (id result : ℕ) → HoldsMore (after_access l m id result).touched l.touched
  access_more l m id result = touch_all_held (accessed id (l.machine.regs 0) l.owner ∷ []) l.touched

  lock_acts : (w : Objects) (l : Level) (ls : List Level) (m : Machine) (id result : ℕ)
      (spent : Bool) → (funds w.accounts l.owner l.point Locks == 0) ≡ spent → HoldsGraft l →
      ActsAs l w.accounts ls (lock_paid v w l ls m id result spent)
  lock_acts w l ls m id result true e held = drop_acts w l ls SpentLocks held
  lock_acts w l ls m id result false e held =
      let u = with_accounts (charge Locks l.owner l.point w.accounts) w in
      charged_acts v t l.owner l.point l.kept l.touched w.accounts ls Locks
      (record {
        said = Micro.Went;
        config = record { now = u; levels = after_access l m id result ∷ ls };
        effects = [];
      }) held e
      (stays_acts u l (after_access l m id result) ls refl refl refl (access_more l m id result))

  result_acts : (w : Objects) (l : Level) (ls : List Level) (m : Machine) (id result : ℕ)
      (due : Bool) → HoldsGraft l → ActsAs l w.accounts ls (after_result v w l ls m id result due)
  result_acts w l ls m id result true held =
      lock_acts w l ls m id result (funds w.accounts l.owner l.point Locks == 0) refl held
  result_acts w l ls m id result false held =
      stays_acts w l (after_access l m id result) ls refl refl refl (access_more l m id result)

  change_acts : (w : Objects) (l : Level) (ls : List Level) (m : Machine) (id result : ℕ)
      (i : Inverse) (u : Things) (spent : Bool) →
      is_record_spent w.accounts l ls ≡ spent → HoldsGraft l →
      ActsAs l w.accounts ls (after_change v w l ls m id result i u spent)
  change_acts w l ls m id result i u true e held = drop_acts w l ls SpentRecords held
  change_acts w l ls m id result i u false e held =
      let x : Objects = record { accounts = charge Records l.owner l.point w.accounts; things = u } in
      let n = record (after_access l m id result) { records = bare_found i ∷ l.records } in
      charged_acts v t l.owner l.point l.kept l.touched w.accounts ls Records (record {
        said = Micro.Went;
        config = record { now = x; levels = n ∷ ls };
        effects = [];
      }) held
      (neither (funds w.accounts l.owner l.point Records == 0) _ e).0
      (stays_acts x l n ls refl refl refl (access_more l m id result))

  accessor_acts : (w : Objects) (l : Level) (ls : List Level) (m : Machine) (id : ℕ) (x : Access) →
      HoldsGraft l → ActsAs l w.accounts ls (after_accessor v w l ls m id x)
  accessor_acts w l ls m id (Refuses cause) held = drop_acts w l ls cause held
  accessor_acts w l ls m id (Gives result) held =
      result_acts w l ls m id result (is_lock_due id (l.machine.regs 0) (l ∷ ls)) held
  accessor_acts w l ls m id (Changes result i u) held =
      change_acts w l ls m id result i u (is_record_spent w.accounts l ls) refl held

  -- ---- asks

  module _ (images : ImageTable) (p : ℕ) where
    -- what comes after an ask, where level 0 has touched the graft of its point
    answered_next : (w : Objects) (l : Level) (ls : List Level) (pt : ℕ) (asker : Level)
        (g : Option GraftValue) → IsOf asker l → HoldsMore asker.touched l.touched →
        let o = Graft l.owner pt in
        let r = ask_answered v images w p l.owner pt (touch_outermost o (asker ∷ ls)) g in
        Next v l.owner l.point l.kept l.touched (touch_outermost o ls) r.said r.config
    answered_next w l ls pt asker None same more =
        let o = Graft l.owner pt in
        let d = default_of v w.things l.owner pt in
        let first = touch_inside o asker ls in
        inl (record {
          own = with_machine (answered (kind_of pt) d.0 d.1 first.0.machine) first.0;
          levels = ap (answer_innermost pt d.0 d.1) first.1;
          owner = first.2.owner ∙ same.owner;
          point = first.2.point ∙ same.point;
          found = first.2.found ∙ same.found;
          more = λ x h. first_held o asker ls first.0 first.1 x (more x h);
        })
    answered_next w l ls pt asker (Some g) same more =
        let o = Graft l.owner pt in
        let xs = touch_outermost o (asker ∷ ls) in
        let first = touch_inside o asker ls in
        let n = new_level images w p (length xs) l.owner pt (args_by (kind_of pt) v w.things l.owner pt) [] untouched in
        inr (inl (record {
          inner = n;
          own = first.0;
          levels = ap (λ ks. n ∷ ks) first.1;
          owner = first.2.owner ∙ same.owner;
          point = first.2.point ∙ same.point;
          found = first.2.found ∙ same.found;
          more = λ x h. first_held o asker ls first.0 first.1 x (more x h);
          inner_owner = refl;
          inner_found = refl;
          held =
              ap (λ ks. is_held (outermost_touched ks o)) (sym first.1)
              ∙ ap (λ (u : Touched). is_held (u o)) (outermost_after o asker ls)
              ∙ touch_here o (outermost_touched (asker ∷ ls));
        }))

    answered_acts : (w : Objects) (l : Level) (ls : List Level) (pt : ℕ) (asker : Level)
        (g : Option GraftValue) → IsOf asker l → HoldsMore asker.touched l.touched →
        ActsAs l w.accounts ls (with_effect (Asked pt) (ask_answered v images w p l.owner pt
        (touch_outermost (Graft l.owner pt) (asker ∷ ls)) g))
    answered_acts w l ls pt asker None same more =
        record {
          accounts = refl;
          made = λ stands. tt;
          next = answered_next w l ls pt asker None same more;
          none = tt;
        }
    answered_acts w l ls pt asker (Some g) same more =
        record {
          accounts = refl;
          made = λ stands. tt;
          next = answered_next w l ls pt asker (Some g) same more;
          none = tt;
        }

    ask_acts : (w : Objects) (l : Level) (ls : List Level) (m : Machine) (id : ℕ) (x : Option Cause) → HoldsGraft l →
        ActsAs l w.accounts ls (after_ask v images w p l ls m id (asked_point id (l.machine.regs 0)) x)
    ask_acts w l ls m id (Some cause) held = drop_acts w l ls cause held
    ask_acts w l ls m id None held =
        let pt = asked_point id (l.machine.regs 0) in
        let asker = with_touched (asked_objects id (l.machine.regs 0) l.owner) (with_machine m l) in
        answered_acts w l ls pt asker (w.accounts.graft l.owner pt)
        (record { owner = refl; point = refl; found = refl })
        (touch_all_held (asked_objects id (l.machine.regs 0) l.owner) l.touched)

    -- ---- calls and answers

    granted_acts : (w : Objects) (l : Level) (ls : List Level) (m : Machine) (id : ℕ) (ask : Bool) →
        HoldsGraft l → ActsAs l w.accounts ls (granted_call v images w p l ls m id ask)
    granted_acts w l ls m id true held =
        ask_acts w l ls m id
        (ask_refusal w l.owner (asked_point id (l.machine.regs 0)) id (l ∷ ls)) held
    granted_acts w l ls m id false held =
        accessor_acts w l ls m id (access id (l.machine.regs 0) (l.machine.regs 1)
        (l.machine.regs 2) l.owner w.things) held

    call_acts : (w : Objects) (l : Level) (ls : List Level) (m : Machine) (id : ℕ) (x : Option
        Cause) → HoldsGraft l → ActsAs l w.accounts ls (after_call v images w p l ls m id x)
    call_acts w l ls m id (Some cause) held = drop_acts w l ls cause held
    call_acts w l ls m id None held = granted_acts w l ls m id (is_ask id) held

    completed_acts : (w : Objects) (l : Level) (ls : List Level) → ActsAs l w.accounts ls (completed w l ls)
    completed_acts w l [] = record { accounts = refl; made = λ stands. tt; next = tt; none = tt }
    completed_acts w l (asker ∷ rest) =
        record {
          accounts = refl;
          made = λ stands. tt;
          next =
              inr (inr (record {
                asker = asker;
                own = _;
                rest = rest;
                outside = refl;
                levels = refl;
                same = record { owner = refl; point = refl; found = refl };
                more = λ o h. stronger_with (l.touched o) (asker.touched o) h;
              }));
          none = tt;
        }

    keeping_acts : (w : Objects) (l : Level) (ls : List Level) (spent : Bool) →
        is_record_spent w.accounts l ls ≡ spent → HoldsGraft l →
        ActsAs l w.accounts ls (after_keeping v w l ls spent)
    keeping_acts w l ls true e held = drop_acts w l ls SpentRecords held
    keeping_acts w l ls false e held =
        let u : Objects = record {
          accounts = charge Records l.owner l.point w.accounts;
          things = set_segment l.owner l.point (Some l.machine.memory) w.things;
        } in
        let n = record l { records = found_segment l.owner l.point w.things ∷ l.records } in
        charged_acts v t l.owner l.point l.kept l.touched w.accounts ls Records (completed u n ls) held
        (neither (funds w.accounts l.owner l.point Records == 0) _ e).0 (completed_acts u n ls)

    answer_acts : (w : Objects) (l : Level) (ls : List Level) (keeps : Bool) → HoldsGraft l →
        ActsAs l w.accounts ls (after_answer v w l ls keeps)
    answer_acts w l ls true held = keeping_acts w l ls (is_record_spent w.accounts l ls) refl held
    answer_acts w l ls false held = completed_acts w l ls

    return_acts : (w : Objects) (l : Level) (ls : List Level) (b : Bool) → HoldsGraft l →
        ActsAs l w.accounts ls (after_return v images w l ls b)
    return_acts w l ls true held =
        answer_acts w l ls (keeps_in (image_of images (w.accounts.graft l.owner l.point))) held
    return_acts w l ls false held = drop_acts w l ls (RefusedAnswer (l.machine.regs 0) (l.machine.regs 1)) held

    -- ---- one instruction

    machine_acts : (w : Objects) (l : Level) (ls : List Level) (x : Done) → HoldsGraft l →
        ActsAs l w.accounts ls (after_machine v images p w l ls x)
    machine_acts w l ls (Done.Went m) held = stays_acts w l (with_machine m l) ls refl refl refl (λ o h. h)
    machine_acts w l ls (Called id m) held =
        call_acts w l ls m id
        (early_refusal v.callable id (l.machine.regs 0) (l.machine.regs 1) l.owner) held
    machine_acts w l ls Returned held =
        return_acts w l ls
        (valid w.things l.owner l.point l.args (l.machine.regs 0) (l.machine.regs 1)) held
    machine_acts w l ls Done.DividedByZero held = drop_acts w l ls Cause.DivideByZero held
    machine_acts w l ls (Trapped code) held = drop_acts w l ls (Cause.Trap code) held
    machine_acts w l ls Outside held = drop_acts w l ls Cause.DivideByZero held
    machine_acts w l ls PastEnd held = drop_acts w l ls Cause.DivideByZero held

    step_acts : (w : Objects) (l : Level) (ls : List Level) (spent : Bool) →
        is_spent w.accounts l ≡ spent → HoldsGraft l →
        ActsAs l w.accounts ls (charged_step v images p w l ls spent)
    step_acts w l ls true e held = drop_acts w l ls SpentSteps held
    step_acts w l ls false e held =
        let u = with_accounts (charge Steps l.owner l.point w.accounts) w in
        let x = seg_step (code_of images w.accounts l.owner l.point) l.machine in
        charged_acts v t l.owner l.point l.kept l.touched w.accounts ls Steps
        (after_machine v images p u (record l { count = l.count + 1 }) ls x) held
        (neither _ (funds w.accounts l.owner l.point Steps == 0) e).1
        (machine_acts u (record l { count = l.count + 1 }) ls x held)

    -- an instruction of the innermost level, whose graft level 0 holds
    pub instruction_acts : (w : Objects) (l : Level) (ls : List Level) → HoldsGraft l →
        ActsAs l w.accounts ls (micro_on v images p w (l ∷ ls))
    instruction_acts w l ls held = step_acts w l ls (is_spent w.accounts l) refl held
