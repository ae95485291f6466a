-- An instruction of two graft calls that are alike comes to the same.
use Rattle.std.specs.Prelude.{◌≡◌, ℕ, suc, ◌+◌, ◌==◌, ◌&&◌, ◌||◌, not, Bool, true, false, cond}
use Rattle.std.specs.Prelude.{List, [], ◌∷◌, ◌++◌, length, Option, Some, None, is_some, ⊤}
use Rattle.std.proofs.Common.{refl, subst, sym, ap, ◌∙◌}
use Rattle.kernel_model.specs.declared.Kind.{Kind}
use Rattle.kernel_model.specs.declared.Kind.TheVariants.{Steps, Records, Locks}
use Rattle.kernel_model.specs.declared.Cause.{Cause}
use Rattle.kernel_model.specs.declared.Cause.TheVariants.{BadArgument, Reentered, TooDeep}
use Rattle.kernel_model.specs.declared.Cause.TheVariants.{SpentSteps, SpentRecords, SpentLocks}
use Rattle.kernel_model.specs.declared.Cause.TheVariants.{RefusedAnswer}
use Rattle.kernel_model.specs.declared.Instr.{Instr}
use Rattle.kernel_model.specs.declared.Inverse.{Inverse}
use Rattle.kernel_model.specs.declared.Inverse.TheVariants.{Segment}
use Rattle.kernel_model.specs.declared.Micro.{Micro}
use Rattle.kernel_model.specs.declared.Object.{Object}
use Rattle.kernel_model.specs.declared.Object.TheVariants.{Graft, Acct, Lock}
use Rattle.kernel_model.specs.World.{World, ImageTable}
use Rattle.kernel_model.specs.Objects.{Objects, Accounts, Things, GraftValue, AcctValue, SameAt}
use Rattle.kernel_model.specs.Objects.{SameThing, with_accounts}
use Rattle.kernel_model.specs.Machine.{Machine, Done, Called, Returned, Trapped, Outside, PastEnd}
use Rattle.kernel_model.specs.Machine.{seg_step, next_call, first_machine, fed}
use Rattle.kernel_model.specs.Policies.{valid, kind_of, default_of, args_by}
use Rattle.kernel_model.specs.Charges.{funds, payer_balance, charge}
use Rattle.kernel_model.specs.Access.{Access, Gives, Changes, Refuses, found_segment, set_segment}
use Rattle.kernel_model.specs.Access.{access, callable, early_refusal, is_ask, accessed}
use Rattle.kernel_model.specs.Access.{asked_point, asked_objects, asked_graft}
use Rattle.kernel_model.specs.Locks.{is_held, joined, untouched}
use Rattle.kernel_model.specs.Levels.{Level, Effect, Asked, Charged, Outcome, image_of, code_in}
use Rattle.kernel_model.specs.Levels.{keeps_in, segment_with, code_of, base_of, limit_in, goes_on}
use Rattle.kernel_model.specs.Levels.{with_effect, new_level, with_machine, with_touched}
use Rattle.kernel_model.specs.Levels.{touch_outermost, answered, answer_innermost, drop_innermost}
use Rattle.kernel_model.specs.GraftStep.{is_lock_due, lock_paid, after_result, record_count}
use Rattle.kernel_model.specs.GraftStep.{is_record_spent, after_change, after_accessor}
use Rattle.kernel_model.specs.GraftStep.{is_vain_ask, is_running, ask_refusal, ask_answered}
use Rattle.kernel_model.specs.GraftStep.{after_ask, granted_call, after_call, completed}
use Rattle.kernel_model.specs.GraftStep.{after_keeping, after_answer, after_return, after_machine}
use Rattle.kernel_model.specs.GraftStep.{is_spent, charged_step, micro_on, call_needs}
use Rattle.kernel_model.specs.GraftStep.{instruction_needs, next_needs}
use Rattle.kernel_model.specs.Alike.{AgreeOn, Keeps, LevelsAlike}
use Rattle.graft_laws.specs.Alike.{point_objects}
use Rattle.graft_laws.proofs.ObjectLemmas.{charge_keeps, remove_keeps, same_thing, same_parts, segment_keeps}
use Rattle.graft_laws.proofs.PointLemmas.{AreSame, default_same, args_same, vain_same, needed_here}
use Rattle.graft_laws.proofs.PointLemmas.{needed_before, needed_last, asked_each}
use Rattle.graft_laws.proofs.AccessSameLemmas.{accessed_object, DoSame, access_same}
use Rattle.graft_laws.proofs.LevelsAlikeLemmas.{length_alike, records_alike, any_alike}
use Rattle.graft_laws.proofs.LevelsAlikeLemmas.{running_alike, answer_alike, touch_alike}
use Rattle.graft_laws.proofs.CalledLemmas.{called_in, step_calls}

-- ---- outcomes

-- two outcomes are the same, what levels found apart, and where the states before agreed, those after agree
pub record AreSameOutcomes (w u : Objects) (o r : Outcome) : Type 0 where
  pub said : o.said ≡ r.said
  pub effects : o.effects ≡ r.effects
  pub levels : LevelsAlike o.config.levels r.config.levels
  pub keeps : Keeps w u o.config.now r.config.now

-- with the same effect before both
effect_same : (e : Effect) (w u : Objects) (o r : Outcome) → AreSameOutcomes w u o r →
    AreSameOutcomes w u (with_effect e o) (with_effect e r)
effect_same e w u o r h =
    record {
      said = h.said;
      effects = ap (λ es. e ∷ es) h.effects;
      levels = h.levels;
      keeps = h.keeps;
    }

-- from states further back
since_same : (w u x y : Objects) (o r : Outcome) → Keeps w u x y → AreSameOutcomes x y o r → AreSameOutcomes w u o r
since_same w u x y o r keeps h =
    record {
      said = h.said;
      effects = h.effects;
      levels = h.levels;
      keeps = λ a k. h.keeps a (keeps a k);
    }

-- a call goes on
goes_same : (w u x y : Objects) (ls ks : List Level) → LevelsAlike ls ks → Keeps w u x y →
    AreSameOutcomes w u (goes_on x ls) (goes_on y ks)
goes_same w u x y ls ks levels keeps = record { said = refl; effects = refl; levels = levels; keeps = keeps }

-- ---- what is alike before

-- where another level asked a point, its default on what was found is the same
abbrev pub DefaultsAlike : World → (kept x : Things) (q pt : ℕ) → List Level → Type 0
DefaultsAlike v kept x q pt [] = ⊤
DefaultsAlike v kept x q pt (l ∷ ls) = default_of v kept q pt ≡ default_of v x q pt

-- The innermost level l of two calls, of which the other found x: its graft, its payer and the
-- levels outside are alike.
pub record IsAlike (v : World) (w u : Objects) (l : Level) (x : Things) (ls ks : List Level) : Type 0 where
  pub levels : LevelsAlike ls ks
  pub graft : w.accounts.graft l.owner l.point ≡ u.accounts.graft l.owner l.point
  pub segment : w.things.segment l.owner l.point ≡ u.things.segment l.owner l.point
  pub acct : w.accounts.acct l.owner ≡ u.accounts.acct l.owner
  pub kept : (o : Object) → SameThing o w.things u.things → SameThing o l.kept x
  pub default : DefaultsAlike v l.kept x l.owner l.point ls

-- the same can be paid
pub funds_same : (a b : Accounts) (q pt : ℕ) (k : Kind) → a.graft q pt ≡ b.graft q pt →
    a.acct q ≡ b.acct q → funds a q pt k ≡ funds b q pt k
funds_same a b q pt k graft acct =
    ap (λ g. payer_balance k (a.acct q) g) graft
    ∙ ap (λ (c : AcctValue). payer_balance k c (b.graft q pt)) acct

-- whether the answer that the machine offers is valid, where it offers one, is the same
abbrev pub IsAnsweredAlike : Done → Objects → Objects → Level → Type 0
IsAnsweredAlike Returned w u l =
    valid w.things l.owner l.point l.args (l.machine.regs 0) (l.machine.regs 1)
    ≡ valid u.things l.owner l.point l.args (l.machine.regs 0) (l.machine.regs 1)
IsAnsweredAlike d w u l = ⊤

module _ (v : World) where
  -- a drop
  pub drop_same : (w u : Objects) (l : Level) (x : Things) (ls ks : List Level) (cause : Cause) →
      IsAlike v w u l x ls ks →
      AreSameOutcomes w u (drop_innermost v w l ls cause) (drop_innermost v u (record l { kept = x }) ks cause)
  drop_same w u l x ls ks cause h =
      record {
        said = ap (λ n. Micro.Dropped n l.owner l.point cause) (length_alike ls ks h.levels);
        effects = refl;
        levels = answered_by ls ks h.levels h.default;
        keeps =
            λ o k. remove_keeps l.owner l.point w.accounts u.accounts w.things u.things l.kept x o
            h.graft h.acct k (h.kept o (same_thing o w u k));
      }
    where
      answered_by : (ls ks : List Level) → LevelsAlike ls ks → DefaultsAlike v l.kept x l.owner l.point ls →
          let d = default_of v l.kept l.owner l.point in
          let e = default_of v x l.owner l.point in
          LevelsAlike (answer_innermost l.point d.0 d.1 ls)
          (answer_innermost l.point e.0 e.1 ks)
      answered_by [] [] levels default = tt
      answered_by (m ∷ ls) (n ∷ ks) levels default =
          let d = default_of v l.kept l.owner l.point in
          subst (λ (e : ℕ × ℕ). LevelsAlike (answer_innermost l.point d.0 d.1 (m ∷ ls))
          (answer_innermost l.point e.0 e.1 (n ∷ ks))) default
          (answer_alike l.point d.0 d.1 (m ∷ ls) (n ∷ ks) levels)
      answered_by [] (n ∷ ks) levels default = absurd levels
      answered_by (m ∷ ls) [] levels default = absurd levels

  -- one of a kind is charged to the innermost level's graft
  pub charged_alike : (k : Kind) (w u : Objects) (l : Level) (x : Things) (ls ks : List Level) →
      IsAlike v w u l x ls ks →
      Keeps w u (with_accounts (charge k l.owner l.point w.accounts) w)
      (with_accounts (charge k l.owner l.point u.accounts) u)
  charged_alike k w u l x ls ks h = λ o e. charge_keeps k l.owner l.point w u o h.graft h.acct e

  -- and that leaves it alike
  charged_still : (k : Kind) (w u : Objects) (l : Level) (x : Things) (ls ks : List Level) → IsAlike v w u l x ls ks →
      IsAlike v (with_accounts (charge k l.owner l.point w.accounts) w)
      (with_accounts (charge k l.owner l.point u.accounts) u) l x ls ks
  charged_still k w u l x ls ks h =
      let keeps = charged_alike k w u l x ls ks h in
      record {
        levels = h.levels;
        graft = (keeps (Graft l.owner l.point) (h.graft, h.segment)).0;
        segment = h.segment;
        acct = keeps (Acct l.owner) h.acct;
        kept = h.kept;
        default = h.default;
      }

  -- ---- accessors

  lock_same : (w u : Objects) (l : Level) (x : Things) (ls ks : List Level) (m : Machine)
      (id result : ℕ) (spent : Bool) → IsAlike v w u l x ls ks →
      AreSameOutcomes w u (lock_paid v w l ls m id result spent)
      (lock_paid v u (record l { kept = x }) ks m id result spent)
  lock_same w u l x ls ks m id result true h = drop_same w u l x ls ks SpentLocks h
  lock_same w u l x ls ks m id result false h =
      record { said = refl; effects = refl; levels = (refl, h.levels); keeps = charged_alike Locks w u l x ls ks h }

  result_same : (w u : Objects) (l : Level) (x : Things) (ls ks : List Level) (m : Machine)
      (id result : ℕ) (due : Bool) → IsAlike v w u l x ls ks →
      AreSameOutcomes w u (after_result v w l ls m id result due)
      (after_result v u (record l { kept = x }) ks m id result due)
  result_same w u l x ls ks m id result true h =
      subst (λ n. AreSameOutcomes w u (after_result v w l ls m id result true)
      (lock_paid v u (record l { kept = x }) ks m id result (n == 0)))
      (funds_same w.accounts u.accounts l.owner l.point Locks h.graft h.acct)
      (lock_same w u l x ls ks m id result (funds w.accounts l.owner l.point Locks == 0) h)
  result_same w u l x ls ks m id result false h =
      record { said = refl; effects = refl; levels = (refl, h.levels); keeps = λ o e. e }

  change_same : (w u : Objects) (l : Level) (x : Things) (ls ks : List Level) (m : Machine)
      (id result : ℕ) (i : Inverse) (y z : Things) (spent : Bool) → IsAlike v w u l x ls ks →
      ((o : Object) → SameThing o w.things u.things → SameThing o y z) →
      AreSameOutcomes w u (after_change v w l ls m id result i y spent)
      (after_change v u (record l { kept = x }) ks m id result i z spent)
  change_same w u l x ls ks m id result i y z true h same = drop_same w u l x ls ks SpentRecords h
  change_same w u l x ls ks m id result i y z false h same =
      record {
        said = refl;
        effects = refl;
        levels = (refl, h.levels);
        keeps =
            λ o e. same_parts o (charge Records l.owner l.point w.accounts)
            (charge Records l.owner l.point u.accounts) w.things u.things y z
            (charged_alike Records w u l x ls ks h o e) (same o (same_thing o w u e));
      }

  -- a record can be made on both sides or on none
  record_same : (w u : Objects) (l : Level) (x : Things) (ls ks : List Level) →
      IsAlike v w u l x ls ks →
      is_record_spent w.accounts l ls ≡ is_record_spent u.accounts (record l { kept = x }) ks
  record_same w u l x ls ks h =
      ap (λ n. n == 0 || record_count (l ∷ ls) == 64)
      (funds_same w.accounts u.accounts l.owner l.point Records h.graft h.acct)
      ∙ ap (λ n. funds u.accounts l.owner l.point Records == 0 || length l.records + n == 64)
      (records_alike ls ks h.levels)

  accessor_same : (w u : Objects) (l : Level) (x : Things) (ls ks : List Level) (m : Machine)
      (id : ℕ) (a b : Access) → IsAlike v w u l x ls ks →
      DoSame w.things u.things a b → AreSameOutcomes w u (after_accessor v w l ls m id a)
      (after_accessor v u (record l { kept = x }) ks m id b)
  accessor_same w u l x ls ks m id (Refuses a) (Refuses b) h same =
      subst (λ c. AreSameOutcomes w u (drop_innermost v w l ls a)
      (drop_innermost v u (record l { kept = x }) ks c)) same (drop_same w u l x ls ks a h)
  accessor_same w u l x ls ks m id (Gives a) (Gives b) h same =
      let due = any_alike (λ (n : Level). is_held (n.touched (Lock (l.machine.regs 0)))) (l ∷ ls)
      (record l { kept = x } ∷ ks) (λ n y. refl) (refl, h.levels) in
      subst (λ c. AreSameOutcomes w u (after_accessor v w l ls m id (Gives a))
      (after_accessor v u (record l { kept = x }) ks m id (Gives c))) same
      (subst (λ c. AreSameOutcomes w u (after_accessor v w l ls m id (Gives a))
      (after_result v u (record l { kept = x }) ks m id a (id == 12 && not c))) due
      (result_same w u l x ls ks m id a (is_lock_due id (l.machine.regs 0) (l ∷ ls)) h))
  accessor_same w u l x ls ks m id (Changes a i y) (Changes b j z) h same =
      let k = record l { kept = x } in
      subst (λ c. AreSameOutcomes w u (after_accessor v w l ls m id (Changes a i y))
      (after_accessor v u k ks m id (Changes c j z))) same.0
      (subst (λ c. AreSameOutcomes w u (after_accessor v w l ls m id (Changes a i y))
      (after_accessor v u k ks m id (Changes a c z))) same.1
      (subst (λ c. AreSameOutcomes w u (after_accessor v w l ls m id (Changes a i y))
      (after_change v u k ks m id a i z c)) (record_same w u l x ls ks h)
      (change_same w u l x ls ks m id a i y z (is_record_spent w.accounts l ls) h same.2)))
  accessor_same w u l x ls ks m id (Refuses a) (Gives b) h same = absurd same
  accessor_same w u l x ls ks m id (Refuses a) (Changes b j z) h same = absurd same
  accessor_same w u l x ls ks m id (Gives a) (Refuses b) h same = absurd same
  accessor_same w u l x ls ks m id (Gives a) (Changes b j z) h same = absurd same
  accessor_same w u l x ls ks m id (Changes a i y) (Refuses b) h same = absurd same
  accessor_same w u l x ls ks m id (Changes a i y) (Gives b) h same = absurd same

  module _ (images : ImageTable) (p : ℕ) where
    -- ---- asks

    -- a new level of the same graft, with the same arguments
    new_same : (w u : Objects) (n q pt : ℕ) (args : List ℕ) → SameAt (Graft q pt) w u →
        record (new_level images w p n q pt args [] untouched) { kept = u.things }
        ≡ new_level images u p n q pt args [] untouched
    new_same w u n q pt args graft =
        ap (λ g. first g (w.things.segment q pt)) graft.0
        ∙ ap (first (u.accounts.graft q pt)) graft.1
      where
        first : Option GraftValue → Option (ℕ → ℕ) → Level
        first g kept = record {
          owner = q;
          point = pt;
          machine =
              first_machine (base_of p n) args
              (fed [] (segment_with (image_of images g) (keeps_in (image_of images g)) kept));
          count = 0;
          touched = untouched;
          args = args;
          records = [];
          kept = u.things;
        }

    answered_same : (w u : Objects) (q pt : ℕ) (ls ks : List Level) (g : Option GraftValue) →
        LevelsAlike ls ks → AreSame (point_objects (kind_of pt) q pt) w.things u.things →
        SameAt (Graft q pt) w u → AreSameOutcomes w u (ask_answered v images w p q pt ls g)
        (ask_answered v images u p q pt ks g)
    answered_same w u q pt ls ks None levels same graft =
        let d = default_of v w.things q pt in
        subst (λ (e : ℕ × ℕ). AreSameOutcomes w u (goes_on w (answer_innermost pt d.0 d.1 ls))
        (goes_on u (answer_innermost pt e.0 e.1 ks)))
        (default_same (kind_of pt) v q pt w.things u.things same)
        (goes_same w u w u (answer_innermost pt d.0 d.1 ls) (answer_innermost pt d.0 d.1 ks)
        (answer_alike pt d.0 d.1 ls ks levels) (λ o e. e))
    answered_same w u q pt ls ks (Some g) levels same graft =
        let args = args_by (kind_of pt) v w.things q pt in
        let l = new_level images w p (length ls) q pt args [] untouched in
        subst (λ n. AreSameOutcomes w u (goes_on w (l ∷ ls)) (goes_on u
        (new_level images u p n q pt (args_by (kind_of pt) v u.things q pt) [] untouched ∷ ks)))
        (length_alike ls ks levels)
        (subst (λ a. AreSameOutcomes w u (goes_on w (l ∷ ls))
        (goes_on u (new_level images u p (length ls) q pt a [] untouched ∷ ks)))
        (args_same (kind_of pt) v q pt w.things u.things same)
        (goes_same w u w u (l ∷ ls) (new_level images u p (length ls) q pt args [] untouched ∷ ks)
        (new_same w u (length ls) q pt args graft, levels) (λ o e. e)))

    ask_same : (w u : Objects) (l : Level) (x : Things) (ls ks : List Level) (m : Machine)
        (id pt : ℕ) (c : Option Cause) → IsAlike v w u l x ls ks →
        AreSame (point_objects (kind_of pt) l.owner pt) w.things u.things → SameAt (Graft l.owner pt) w u →
        AreSameOutcomes w u (after_ask v images w p l ls m id pt c)
        (after_ask v images u p (record l { kept = x }) ks m id pt c)
    ask_same w u l x ls ks m id pt (Some cause) h same graft = drop_same w u l x ls ks cause h
    ask_same w u l x ls ks m id pt None h same graft =
        let o = (asked_graft id (l.machine.regs 0) l.owner).object in
        let k = record l { kept = x } in
        let asker = with_touched (asked_objects id (l.machine.regs 0) l.owner) (with_machine m l) in
        let other = with_touched (asked_objects id (l.machine.regs 0) l.owner) (with_machine m k) in
        let xs = touch_outermost o (asker ∷ ls) in
        let ys = touch_outermost o (other ∷ ks) in
        subst (λ g. AreSameOutcomes w u (after_ask v images w p l ls m id pt None)
        (with_effect (Asked pt) (ask_answered v images u p l.owner pt ys g))) graft.0
        (effect_same (Asked pt) w u
        (ask_answered v images w p l.owner pt xs (w.accounts.graft l.owner pt))
        (ask_answered v images u p l.owner pt ys (w.accounts.graft l.owner pt))
        (answered_same w u l.owner pt xs ys (w.accounts.graft l.owner pt)
        (touch_alike o (asker ∷ ls) (other ∷ ks) (refl, h.levels)) same graft))

    -- the same refusal of an ask
    refusal_same : (w u : Objects) (l : Level) (x : Things) (ls ks : List Level) (pt id : ℕ) → LevelsAlike ls ks →
        AreSame (point_objects (kind_of pt) l.owner pt) w.things u.things →
        w.accounts.graft l.owner pt ≡ u.accounts.graft l.owner pt →
        ask_refusal w l.owner pt id (l ∷ ls) ≡ ask_refusal u l.owner pt id (record l { kept = x } ∷ ks)
    refusal_same w u l x ls ks pt id levels same graft =
        refusal_by (is_vain_ask (kind_of pt) w.things l.owner pt)
        (is_vain_ask (kind_of pt) u.things l.owner pt) (is_running (l ∷ ls) l.owner pt)
        (is_running (record l { kept = x } ∷ ks) l.owner pt)
        (is_some (w.accounts.graft l.owner pt) && length (l ∷ ls) == 4)
        (is_some (u.accounts.graft l.owner pt) && length (record l { kept = x } ∷ ks) == 4)
        (vain_same (kind_of pt) l.owner pt w.things u.things same)
        (running_alike (l ∷ ls) (record l { kept = x } ∷ ks) l.owner pt (refl, levels))
        (ap (λ (g : Option GraftValue). is_some g && length (l ∷ ls) == 4) graft ∙ ap (λ n.
        is_some (u.accounts.graft l.owner pt) && n == 4) (ap suc (length_alike ls ks levels)))
      where
        refusal_by : (a b c d e f : Bool) → a ≡ b → c ≡ d → e ≡ f →
            cond a (Some (BadArgument id)) (cond c (Some Reentered) (cond e (Some TooDeep) None))
            ≡ cond b (Some (BadArgument id))
            (cond d (Some Reentered) (cond f (Some TooDeep) None))
        refusal_by a b c d e f h k j =
            ap (λ y. cond y (Some (BadArgument id)) (cond c (Some Reentered) (cond e (Some TooDeep) None))) h
            ∙ ap (λ y. cond b (Some (BadArgument id)) (cond y (Some Reentered) (cond e (Some TooDeep) None))) k
            ∙ ap (λ y. cond b (Some (BadArgument id)) (cond d (Some Reentered) (cond y (Some TooDeep) None))) j

    -- ---- calls and answers

    granted_same : (w u : Objects) (l : Level) (x : Things) (ls ks : List Level) (m : Machine)
        (id : ℕ) (ask : Bool) → is_ask id ≡ ask → IsAlike v w u l x ls ks →
        early_refusal v.callable id (l.machine.regs 0) (l.machine.regs 1) l.owner ≡ None →
        AgreeOn (cond ask (asked_objects id (l.machine.regs 0) l.owner ++ asked_graft id
        (l.machine.regs 0) l.owner ∷ []) (accessed id (l.machine.regs 0) l.owner ∷ [])) w u →
        AreSameOutcomes w u (granted_call v images w p l ls m id ask)
        (granted_call v images u p (record l { kept = x }) ks m id ask)
    granted_same w u l x ls ks m id true e h early agree =
        let r0 = l.machine.regs 0 in
        let pt = asked_point id r0 in
        let g = asked_graft id r0 l.owner in
        let objects = asked_objects id r0 l.owner in
        let same =
        asked_each (λ o. SameThing o w.things u.things) v.callable id r0 (l.machine.regs 1)
        l.owner early (λ o k. same_thing o w u (agree o (needed_before o objects g k))) in
        let graft = agree g.object (needed_last objects g) in
        subst (λ c. AreSameOutcomes w u (granted_call v images w p l ls m id true)
        (after_ask v images u p (record l { kept = x }) ks m id pt c))
        (refusal_same w u l x ls ks pt id h.levels same graft.0)
        (ask_same w u l x ls ks m id pt (ask_refusal w l.owner pt id (l ∷ ls)) h same graft)
    granted_same w u l x ls ks m id false e h early agree =
        let r0 = l.machine.regs 0 in
        let n = accessed id r0 l.owner in
        accessor_same w u l x ls ks m id (access id r0 (l.machine.regs 1) (l.machine.regs 2) l.owner
        w.things) (access id r0 (l.machine.regs 1) (l.machine.regs 2) l.owner u.things) h
        (access_same w.things u.things (callable id) id r0 (l.machine.regs 1) (l.machine.regs 2) l.owner
        (subst (λ o. SameThing o w.things u.things) (accessed_object id r0 l.owner)
        (same_thing n.object w u (agree n.object (needed_here n [])))))

    call_same : (w u : Objects) (l : Level) (x : Things) (ls ks : List Level) (m : Machine) (id : ℕ)
        (c : Option Cause) → IsAlike v w u l x ls ks →
        early_refusal v.callable id (l.machine.regs 0) (l.machine.regs 1) l.owner ≡ c →
        AgreeOn (call_needs v l id c) w u →
        AreSameOutcomes w u (after_call v images w p l ls m id c)
        (after_call v images u p (record l { kept = x }) ks m id c)
    call_same w u l x ls ks m id (Some cause) h early agree = drop_same w u l x ls ks cause h
    call_same w u l x ls ks m id None h early agree = granted_same w u l x ls ks m id (is_ask id) refl h early agree

    completed_same : (w u : Objects) (l : Level) (x : Things) (ls ks : List Level) →
        LevelsAlike ls ks →
        AreSameOutcomes w u (completed w l ls) (completed u (record l { kept = x }) ks)
    completed_same w u l x [] [] levels = record { said = refl; effects = refl; levels = tt; keeps = λ o e. e }
    completed_same w u l x (a ∷ ls) (b ∷ ks) levels =
        record {
          said = refl;
          effects = refl;
          levels = (
            ap (λ (n : Level). record n {
              machine = answered (kind_of l.point) (l.machine.regs 0) (l.machine.regs 1) n.machine;
              touched = joined l.touched n.touched;
              records = l.records ++ n.records;
            }) levels.0,
            levels.1,
          );
          keeps = λ o e. e;
        }
    completed_same w u l x [] (b ∷ ks) levels = absurd levels
    completed_same w u l x (a ∷ ls) [] levels = absurd levels

    -- the segment is kept, or no record can be made
    keeping_same : (w u : Objects) (l : Level) (x : Things) (ls ks : List Level) (spent : Bool) →
        IsAlike v w u l x ls ks →
        AreSameOutcomes w u (after_keeping v w l ls spent) (after_keeping v u (record l { kept = x }) ks spent)
    keeping_same w u l x ls ks true h = drop_same w u l x ls ks SpentRecords h
    keeping_same w u l x ls ks false h =
        let q = l.owner in
        let pt = l.point in
        let bytes = Some l.machine.memory in
        let y : Objects = record {
          accounts = charge Records q pt w.accounts;
          things = set_segment q pt bytes w.things;
        } in
        let z : Objects = record {
          accounts = charge Records q pt u.accounts;
          things = set_segment q pt bytes u.things;
        } in
        let n = record l { records = found_segment q pt w.things ∷ l.records } in
        let k = record n { kept = x } in
        let first = completed y n ls in
        subst (λ (b : Option (ℕ → ℕ)). AreSameOutcomes w u (with_effect (Charged pt Records) first)
        (with_effect (Charged pt Records) (completed z
        (record k { records = record { inverse = Segment q pt; bytes = b } ∷ l.records }) ks)))
        h.segment
        (effect_same (Charged pt Records) w u first (completed z k ks)
        (since_same w u y z first (completed z k ks)
        (λ o e. same_parts o y.accounts z.accounts w.things u.things y.things z.things
        (charged_alike Records w u l x ls ks h o e)
        (segment_keeps q pt bytes o w.things u.things (same_thing o w u e)))
        (completed_same y z n x ls ks h.levels)))

    -- an answer that the point accepts
    answer_same : (w u : Objects) (l : Level) (x : Things) (ls ks : List Level) (keeps : Bool) →
        IsAlike v w u l x ls ks →
        AreSameOutcomes w u (after_answer v w l ls keeps) (after_answer v u (record l { kept = x }) ks keeps)
    answer_same w u l x ls ks true h =
        subst (λ b. AreSameOutcomes w u (after_answer v w l ls true)
        (after_keeping v u (record l { kept = x }) ks b)) (record_same w u l x ls ks h)
        (keeping_same w u l x ls ks (is_record_spent w.accounts l ls) h)
    answer_same w u l x ls ks false h = completed_same w u l x ls ks h.levels

    return_same : (w u : Objects) (l : Level) (x : Things) (ls ks : List Level) (b : Bool) → IsAlike v w u l x ls ks →
        AreSameOutcomes w u (after_return v images w l ls b) (after_return v images u (record l { kept = x }) ks b)
    return_same w u l x ls ks true h =
        subst (λ (g : Option GraftValue). AreSameOutcomes w u (after_return v images w l ls true)
        (after_answer v u (record l { kept = x }) ks (keeps_in (image_of images g)))) h.graft
        (answer_same w u l x ls ks (keeps_in (image_of images (w.accounts.graft l.owner l.point))) h)
    return_same w u l x ls ks false h = drop_same w u l x ls ks (RefusedAnswer (l.machine.regs 0) (l.machine.regs 1)) h

    -- ---- one instruction

    machine_same : (w u : Objects) (l : Level) (x : Things) (ls ks : List Level) (d : Done) → IsAlike v w u l x ls ks →
        AgreeOn (instruction_needs v l (called_in d)) w u → IsAnsweredAlike d w u l →
        AreSameOutcomes w u (after_machine v images p w l ls d)
        (after_machine v images p u (record l { kept = x }) ks d)
    machine_same w u l x ls ks (Done.Went m) h agree answer =
        record { said = refl; effects = refl; levels = (refl, h.levels); keeps = λ o e. e }
    machine_same w u l x ls ks (Called id m) h agree answer =
        call_same w u l x ls ks m id
        (early_refusal v.callable id (l.machine.regs 0) (l.machine.regs 1) l.owner) h refl agree
    machine_same w u l x ls ks Returned h agree answer =
        subst (λ b. AreSameOutcomes w u (after_machine v images p w l ls Returned)
        (after_return v images u (record l { kept = x }) ks b)) answer
        (return_same w u l x ls ks (valid w.things l.owner l.point l.args (l.machine.regs 0) (l.machine.regs 1)) h)
    machine_same w u l x ls ks Done.DividedByZero h agree answer = drop_same w u l x ls ks Cause.DivideByZero h
    machine_same w u l x ls ks (Trapped code) h agree answer = drop_same w u l x ls ks (Cause.Trap code) h
    machine_same w u l x ls ks Outside h agree answer = drop_same w u l x ls ks Cause.DivideByZero h
    machine_same w u l x ls ks PastEnd h agree answer = drop_same w u l x ls ks Cause.DivideByZero h

    step_same : (w u : Objects) (l : Level) (x : Things) (ls ks : List Level) (spent : Bool) → IsAlike v w u l x ls ks →
        AgreeOn (cond spent [] (instruction_needs v l
        (next_call (code_of images w.accounts l.owner l.point) l.machine))) w u →
        IsAnsweredAlike (seg_step (code_of images w.accounts l.owner l.point) l.machine) w u l →
        AreSameOutcomes w u (charged_step v images p w l ls spent)
        (charged_step v images p u (record l { kept = x }) ks spent)
    step_same w u l x ls ks true h agree answer = drop_same w u l x ls ks SpentSteps h
    step_same w u l x ls ks false h agree answer =
        let y = with_accounts (charge Steps l.owner l.point w.accounts) w in
        let z = with_accounts (charge Steps l.owner l.point u.accounts) u in
        let n = record l { count = l.count + 1 } in
        let k = record n { kept = x } in
        let code = code_of images w.accounts l.owner l.point in
        let d = seg_step code l.machine in
        let keeps = charged_alike Steps w u l x ls ks h in
        let still = charged_still Steps w u l x ls ks h in
        subst (λ (c : List Instr). AreSameOutcomes w u (charged_step v images p w l ls false)
        (with_effect (Charged l.point Steps)
        (after_machine v images p z k ks (seg_step c l.machine))))
        (ap (λ (g : Option GraftValue). code_in (image_of images g)) h.graft)
        (effect_same (Charged l.point Steps) w u (after_machine v images p y n ls d) (after_machine v images p z k ks d)
        (since_same w u y z (after_machine v images p y n ls d) (after_machine v images p z k ks d) keeps
        (machine_same y z n x ls ks d (record {
          levels = still.levels;
          graft = still.graft;
          segment = still.segment;
          acct = still.acct;
          kept = still.kept;
          default = still.default;
        })
        (subst (λ c. AgreeOn (instruction_needs v n c) y z) (sym (step_calls code l.machine))
        (λ o e. keeps o (agree o e))) (answered_still d answer))))
      where
        answered_still : (d : Done) → IsAnsweredAlike d w u l →
            IsAnsweredAlike d (with_accounts (charge Steps l.owner l.point w.accounts) w)
            (with_accounts (charge Steps l.owner l.point u.accounts) u)
            (record l { count = l.count + 1 })
        answered_still Returned h = h
        answered_still (Done.Went m) h = tt
        answered_still (Called id m) h = tt
        answered_still Done.DividedByZero h = tt
        answered_still (Trapped code) h = tt
        answered_still Outside h = tt
        answered_still PastEnd h = tt

    -- the instruction of an innermost level that is alike
    pub levels_same : (w u : Objects) (l : Level) (x : Things) (ls ks : List Level) →
        IsAlike v w u l x ls ks → AgreeOn (next_needs v images w.accounts (l ∷ ls)) w u →
        IsAnsweredAlike (seg_step (code_of images w.accounts l.owner l.point) l.machine) w u l →
        AreSameOutcomes w u (micro_on v images p w (l ∷ ls)) (micro_on v images p u (record l { kept = x } ∷ ks))
    levels_same w u l x ls ks h agree answer =
        let limit = ap (λ (g : Option GraftValue). l.count == limit_in g
        || funds w.accounts l.owner l.point Steps == 0) h.graft in
        let payer = ap (λ n. l.count == limit_in (u.accounts.graft l.owner l.point) || n == 0)
        (funds_same w.accounts u.accounts l.owner l.point Steps h.graft h.acct) in
        subst (λ b. AreSameOutcomes w u (micro_on v images p w (l ∷ ls))
        (charged_step v images p u (record l { kept = x }) ks b)) (limit ∙ payer)
        (step_same w u l x ls ks (is_spent w.accounts l) h agree answer)
