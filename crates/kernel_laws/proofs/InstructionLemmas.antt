-- An instruction of a graft call that works on a state leaves one.
use Rattle.std.specs.Prelude.{◌≡◌, ℕ, suc, ◌+◌, ◌<◌, ◌≤◌, ◌==◌, Bool, true, false, List, []}
use Rattle.std.specs.Prelude.{◌∷◌, ◌++◌, length, Option, Some, None}
use Rattle.std.proofs.Common.{arith, refl, subst, sym, ap, ◌∙◌}
use Rattle.std.proofs.lemmas.Bool.Decides.{nat_tests}
use Rattle.kernel_model.specs.declared.Kind.{Kind}
use Rattle.kernel_model.specs.declared.Kind.TheVariants.{Steps, Records, Locks}
use Rattle.kernel_model.specs.declared.Cause.{Cause}
use Rattle.kernel_model.specs.declared.Cause.TheVariants.{SpentSteps, SpentRecords, SpentLocks, RefusedAnswer}
use Rattle.kernel_model.specs.declared.Inverse.{Inverse}
use Rattle.kernel_model.specs.declared.Point.{Point}
use Rattle.kernel_model.specs.declared.Object.{Object}
use Rattle.kernel_model.specs.World.{World, ImageTable}
use Rattle.kernel_model.specs.Objects.{Objects, Things, GraftValue, with_accounts}
use Rattle.kernel_model.specs.Machine.{Machine, Done, Called, Returned, Trapped, Outside, PastEnd, seg_step}
use Rattle.kernel_model.specs.Policies.{PointKind, Ahead, Victim, Next, Serve, Stream, lives}
use Rattle.kernel_model.specs.Policies.{valid, valid_by, kind_of, default_of, args_by}
use Rattle.kernel_model.specs.Charges.{payer_balance, funds, charge, removed}
use Rattle.kernel_model.specs.Access.{bare_found, found_segment, set_segment, Access, Gives}
use Rattle.kernel_model.specs.Access.{Changes, Refuses, access, callable, early_refusal, is_ask}
use Rattle.kernel_model.specs.Access.{asked_point, asked_objects, asked_graft}
use Rattle.kernel_model.specs.Locks.{joined, untouched}
use Rattle.kernel_model.specs.Levels.{Level, Outcome, goes_on, code_of, image_of, keeps_in}
use Rattle.kernel_model.specs.Levels.{limit_in, new_level, with_machine, with_touched}
use Rattle.kernel_model.specs.Levels.{touch_outermost, answered, answer_innermost, drop_innermost}
use Rattle.kernel_model.specs.GraftStep.{after_access, is_lock_due, lock_paid, after_result}
use Rattle.kernel_model.specs.GraftStep.{record_count, is_record_spent, after_change}
use Rattle.kernel_model.specs.GraftStep.{after_accessor, ask_refusal, ask_answered, after_ask}
use Rattle.kernel_model.specs.GraftStep.{granted_call, after_call, completed, after_keeping}
use Rattle.kernel_model.specs.GraftStep.{after_answer, after_return, after_machine, is_spent}
use Rattle.kernel_model.specs.GraftStep.{charged_step, micro_on}
use Rattle.kernel_model.specs.Sound.{IsSoundStore}
use Rattle.kernel_laws.specs.Soundness.{IsGraftsWork, AreGraftsWork, found_by, IsAskedAt, WorksOn}
use Rattle.kernel_laws.specs.Soundness.{AnswersRightly, InstructionsWork}
use Rattle.kernel_laws.proofs.StoreLemmas.{charge_work, remove_work}
use Rattle.kernel_laws.proofs.AccessLemmas.{LeavesWork, access_work, segment_work}
use Rattle.kernel_laws.proofs.ConfigLemmas.{neither}

-- ---- levels that found the same, and were asked at the same point

-- the installer, point and arguments of level 0, and what each level found, are the same
pub record AreSameLevels (ls ks : List Level) : Type 0 where
  pub found : found_by ls ≡ found_by ks
  pub asked : (a : Point) → IsAskedAt a ks → IsAskedAt a ls

-- an innermost level with another machine, count, touched objects or records
same_level : (l k : Level) (ls : List Level) → l.owner ≡ k.owner → l.point ≡ k.point →
    l.args ≡ k.args → l.kept ≡ k.kept → AreSameLevels (l ∷ ls) (k ∷ ls)
same_level l k [] owner point args kept =
    record { found = ap (λ w. w ∷ []) kept; asked = λ a h. (owner ∙ h.0, point ∙ h.1, args ∙ h.2) }
same_level l k (x ∷ ls) owner point args kept =
    record { found = ap (λ w. w ∷ found_by (x ∷ ls)) kept; asked = λ a h. h }

-- level 0 touches another object
pub touch_same : (o : Object) (ls : List Level) → AreSameLevels (touch_outermost o ls) ls
touch_same o [] = record { found = refl; asked = λ a h. h }
touch_same o (l ∷ []) = record { found = refl; asked = λ a h. h }
touch_same o (l ∷ k ∷ ls) =
    let h = touch_same o (k ∷ ls) in
    record {
      found = ap (λ ws. l.kept ∷ ws) h.found;
      asked =
          λ a e. one_more a l (touch_outermost o (k ∷ ls)) (k ∷ ls) (touched_some o k ls) h.asked e;
    }
  where
    touched_some : (o : Object) (k : Level) (ls : List Level) → length (touch_outermost o (k ∷ ls)) ≡ suc (length ls)
    touched_some o k [] = refl
    touched_some o k (l ∷ ls) = ap suc (touched_some o l ls)

    one_more : (a : Point) (l : Level) (xs ys : List Level) → length xs ≡ length ys →
        ((b : Point) → IsAskedAt b ys → IsAskedAt b xs) → IsAskedAt a (l ∷ ys) →
        IsAskedAt a (l ∷ xs)
    one_more a l [] [] n h e = e
    one_more a l (x ∷ xs) (y ∷ ys) n h e = h a e
    one_more a l [] (y ∷ ys) n h e = absurd (none_some (length ys) n)
      where
        none_some : (n : ℕ) → 0 ≡ suc n → ⊥
        none_some n e = omega arith
    one_more a l (x ∷ xs) [] n h e = absurd (some_none (length xs) n)
      where
        some_none : (n : ℕ) → suc n ≡ 0 → ⊥
        some_none n e = omega arith

-- level 0 touches no level away
pub touched_length : (o : Object) (ls : List Level) → length (touch_outermost o ls) ≡ length ls
touched_length o [] = refl
touched_length o (l ∷ []) = refl
touched_length o (l ∷ k ∷ ls) = ap suc (touched_length o (k ∷ ls))

-- one and then another
same_then : (xs ys zs : List Level) → AreSameLevels xs ys → AreSameLevels ys zs → AreSameLevels xs zs
same_then xs ys zs h k = record { found = h.found ∙ k.found; asked = λ a e. h.asked a (k.asked a e) }

-- the innermost level gets an answer
pub answer_same : (pt r0 r1 : ℕ) (ls : List Level) → AreSameLevels (answer_innermost pt r0 r1 ls) ls
answer_same pt r0 r1 [] = record { found = refl; asked = λ a h. h }
answer_same pt r0 r1 (l ∷ ls) =
    same_level (with_machine (answered (kind_of pt) r0 r1 l.machine) l) l ls refl refl refl refl

-- a new innermost level
asked_inside : (a : Point) (l : Level) (ls : List Level) → 1 ≤ length ls → IsAskedAt a ls → IsAskedAt a (l ∷ ls)
asked_inside a l [] some h = absurd (none_some some)
  where
    none_some : 1 ≤ 0 → ⊥
    none_some h = omega arith
asked_inside a l (k ∷ ls) some h = h

-- the levels outside the innermost one
pub asked_outside : (a : Point) (l : Level) (ls : List Level) → IsAskedAt a (l ∷ ls) → IsAskedAt a ls
asked_outside a l [] h = tt
asked_outside a l (k ∷ ls) h = h

-- ---- what an outcome leaves

-- an outcome's config works on the state, and an answer is right
abbrev pub IsWork : World → Objects → Point → Outcome → Type 0
IsWork v s a o = WorksOn v s a o.config × AnswersRightly a o.config.now.things o.said

-- the place of a graft that can pay
payer_place : (v : World) (w : Objects) (q pt : ℕ) (k : Kind) (g : Option GraftValue) →
    w.accounts.graft q pt ≡ g → IsSoundStore v w →
    (payer_balance k (w.accounts.acct q) g == 0) ≡ false → (q < 16) × (pt < 16)
payer_place v w q pt k None e h some = absurd (zero_is_zero some)
  where
    zero_is_zero : (0 == 0) ≡ false → ⊥
    zero_is_zero h = cc
payer_place v w q pt k (Some g) e h some = let stands = h.grafts q pt g e in (h.numbers q stands.1, stands.0)

-- an answer is as valid whatever is kept
valid_kept : (k : PointKind) (q pt : ℕ) (bytes : Option (ℕ → ℕ)) (w : Things) (r : ℕ) (args : List ℕ) (r0 r1 : ℕ) →
    valid_by k (set_segment q pt bytes w) r args r0 r1 ≡ valid_by k w r args r0 r1
valid_kept Ahead q pt bytes w r args r0 r1 = refl
valid_kept Victim q pt bytes w r args r0 r1 = refl
valid_kept Next q pt bytes w r args r0 r1 = refl
valid_kept Serve q pt bytes w r args r0 r1 = refl
valid_kept Stream q pt bytes w r args r0 r1 = refl

-- whose graft can pay lives
payer_lives : (v : World) (w : Objects) (q pt : ℕ) (k : Kind) (g : Option GraftValue) →
    w.accounts.graft q pt ≡ g → IsSoundStore v w →
    (payer_balance k (w.accounts.acct q) g == 0) ≡ false → lives w.things.queue q ≡ true
payer_lives v w q pt k None e h some = absurd (zero_is_zero some)
  where
    zero_is_zero : (0 == 0) ≡ false → ⊥
    zero_is_zero h = cc
payer_lives v w q pt k (Some g) e h some = (h.grafts q pt g e).1

module _ (v : World) (s : Objects) (a : Point) where
  -- a call goes on with the same levels
  on_same : (w : Objects) (ls ks : List Level) → AreSameLevels ls ks →
      WorksOn v s a (record { now = w; levels = ks }) → IsWork v s a (goes_on w ls)
  on_same w ls ks same h = (
    record {
      works = subst (λ ws. AreGraftsWork v s w.accounts (s.things ∷ w.things ∷ ws)) (sym same.found) h.works;
      asked = same.asked a h.asked;
    },
    tt,
  )

  -- the innermost level is dropped
  pub drop_work : (w : Objects) (l : Level) (ls : List Level) (cause : Cause) →
      WorksOn v s a (record { now = w; levels = l ∷ ls }) →
      IsWork v s a (drop_innermost v w l ls cause)
  drop_work w l ls cause h =
      let d = default_of v l.kept l.owner l.point in
      let same = answer_same l.point d.0 d.1 ls in
      let work = remove_work v s w.accounts l.owner l.point (s.things ∷ w.things ∷ l.kept ∷ found_by ls) h.works in (
        record {
          works =
              subst (λ ws. AreGraftsWork v s (removed l.owner l.point w.accounts)
              (s.things ∷ l.kept ∷ ws)) (sym same.found) (work.0, work.1.1);
          asked = same.asked a (asked_outside a l ls h.asked);
        },
        tt,
      )

  -- with one of a kind charged
  charged_work : (w : Objects) (ls : List Level) (q pt : ℕ) (k : Kind) → (funds w.accounts q pt k == 0) ≡ false →
      WorksOn v s a (record { now = w; levels = ls }) →
      WorksOn v s a (record { now = with_accounts (charge k q pt w.accounts) w; levels = ls })
  charged_work w ls q pt k e h =
      record {
        works = charge_work v s w.accounts q pt k (s.things ∷ w.things ∷ found_by ls)
            (some_funds (funds w.accounts q pt k) e) h.works;
        asked = h.asked;
      }
    where
      some_funds : (n : ℕ) → (n == 0) ≡ false → 1 ≤ n
      some_funds n e = grind (arith, nat_tests)

  -- ---- accessors

  lock_work : (w : Objects) (l : Level) (ls : List Level) (m : Machine) (id result : ℕ)
      (spent : Bool) → (funds w.accounts l.owner l.point Locks == 0) ≡ spent →
      WorksOn v s a (record { now = w; levels = l ∷ ls }) → IsWork v s a (lock_paid v w l ls m id result spent)
  lock_work w l ls m id result true e h = drop_work w l ls SpentLocks h
  lock_work w l ls m id result false e h =
      let u = with_accounts (charge Locks l.owner l.point w.accounts) w in
      on_same u (after_access l m id result ∷ ls) (l ∷ ls) (same_level (after_access l m id result)
      l ls refl refl refl refl) (charged_work w (l ∷ ls) l.owner l.point Locks e h)

  result_work : (w : Objects) (l : Level) (ls : List Level) (m : Machine) (id result : ℕ) (due : Bool) →
      WorksOn v s a (record { now = w; levels = l ∷ ls }) → IsWork v s a (after_result v w l ls m id result due)
  result_work w l ls m id result true h =
      lock_work w l ls m id result (funds w.accounts l.owner l.point Locks == 0) refl h
  result_work w l ls m id result false h =
      on_same w (after_access l m id result ∷ ls) (l ∷ ls)
      (same_level (after_access l m id result) l ls refl refl refl refl) h

  change_work : (w : Objects) (l : Level) (ls : List Level) (m : Machine) (id result : ℕ)
      (i : Inverse) (things : Things) (spent : Bool) →
      is_record_spent w.accounts l ls ≡ spent →
      WorksOn v s a (record { now = w; levels = l ∷ ls }) → IsGraftsWork v s w.accounts things →
      IsWork v s a (after_change v w l ls m id result i things spent)
  change_work w l ls m id result i things true e h new = drop_work w l ls SpentRecords h
  change_work w l ls m id result i things false e h new =
      let changed : WorksOn v s a
      (record { now = record { accounts = w.accounts; things = things }; levels = l ∷ ls }) =
      record { works = (h.works.0, (new, h.works.1.1)); asked = h.asked } in
      let k = charged_work (record { accounts = w.accounts; things = things }) (l ∷ ls) l.owner
      l.point Records (neither (funds w.accounts l.owner l.point Records == 0)
      (record_count (l ∷ ls) == 64) e).0 changed in
      on_same (record { accounts = charge Records l.owner l.point w.accounts; things = things })
      (record (after_access l m id result) { records = bare_found i ∷ l.records } ∷ ls) (l ∷ ls)
      (same_level (record (after_access l m id result) { records = bare_found i ∷ l.records }) l ls
      refl refl refl refl) k

  -- what a plain accessor comes to
  accessor_work : (w : Objects) (l : Level) (ls : List Level) (m : Machine) (id : ℕ) (x : Access) →
      WorksOn v s a (record { now = w; levels = l ∷ ls }) →
      LeavesWork v s w.accounts x → IsWork v s a (after_accessor v w l ls m id x)
  accessor_work w l ls m id (Refuses cause) h leaves = drop_work w l ls cause h
  accessor_work w l ls m id (Gives result) h leaves =
      result_work w l ls m id result (is_lock_due id (l.machine.regs 0) (l ∷ ls)) h
  accessor_work w l ls m id (Changes result i things) h leaves =
      change_work w l ls m id result i things (is_record_spent w.accounts l ls) refl h leaves

  -- ---- asks

  -- an ask that isn't refused
  answered_work : (images : ImageTable) (w : Objects) (p q pt : ℕ) (ls : List Level)
      (g : Option GraftValue) → 1 ≤ length ls →
      WorksOn v s a (record { now = w; levels = ls }) → IsWork v s a (ask_answered v images w p q pt ls g)
  answered_work images w p q pt ls None some h =
      let d = default_of v w.things q pt in
      on_same w (answer_innermost pt d.0 d.1 ls) ls (answer_same pt d.0 d.1 ls) h
  answered_work images w p q pt ls (Some g) some h = (
    record {
      works = (h.works.0, (h.works.1.0, (h.works.1.0, h.works.1.1)));
      asked =
          asked_inside a (new_level images w p (length ls) q pt
          (args_by (kind_of pt) v w.things q pt) [] untouched) ls some h.asked;
    },
    tt,
  )

  ask_work : (images : ImageTable) (p : ℕ) (w : Objects) (l : Level) (ls : List Level) (m : Machine)
      (id pt : ℕ) (x : Option Cause) →
      WorksOn v s a (record { now = w; levels = l ∷ ls }) → IsWork v s a (after_ask v images w p l ls m id pt x)
  ask_work images p w l ls m id pt (Some cause) h = drop_work w l ls cause h
  ask_work images p w l ls m id pt None h =
      let asker = with_touched (asked_objects id (l.machine.regs 0) l.owner) (with_machine m l) in
      let o = (asked_graft id (l.machine.regs 0) l.owner).object in
      let touched = touch_outermost o (asker ∷ ls) in
      let same = same_then touched (asker ∷ ls) (l ∷ ls) (touch_same o (asker ∷ ls))
      (same_level asker l ls refl refl refl refl) in
      answered_work images w p l.owner pt touched (w.accounts.graft l.owner pt)
      (subst (λ n. 1 ≤ n) (sym (touched_length o (asker ∷ ls))) (some_more (length ls)))
      (on_same w touched (l ∷ ls) same h).0
    where
      some_more : (n : ℕ) → 1 ≤ suc n
      some_more n = omega arith

  -- ---- calls and answers

  granted_work : (images : ImageTable) (p : ℕ) (w : Objects) (l : Level) (ls : List Level)
      (m : Machine) (id : ℕ) (ask : Bool) →
      WorksOn v s a (record { now = w; levels = l ∷ ls }) → lives w.things.queue l.owner ≡ true →
      early_refusal v.callable id (l.machine.regs 0) (l.machine.regs 1) l.owner ≡ None →
      IsWork v s a (granted_call v images w p l ls m id ask)
  granted_work images p w l ls m id true h alive early =
      let pt = asked_point id (l.machine.regs 0) in
      ask_work images p w l ls m id pt (ask_refusal w l.owner pt id (l ∷ ls)) h
  granted_work images p w l ls m id false h alive early =
      let x = access id (l.machine.regs 0) (l.machine.regs 1) (l.machine.regs 2) l.owner w.things in
      accessor_work w l ls m id x h
      (access_work v s w.accounts (callable id) v.callable id (l.machine.regs 0) (l.machine.regs 1)
      (l.machine.regs 2) l.owner w.things refl h.works.1.0 alive early)

  call_work : (images : ImageTable) (p : ℕ) (w : Objects) (l : Level) (ls : List Level)
      (m : Machine) (id : ℕ) (x : Option Cause) →
      WorksOn v s a (record { now = w; levels = l ∷ ls }) → lives w.things.queue l.owner ≡ true →
      early_refusal v.callable id (l.machine.regs 0) (l.machine.regs 1) l.owner ≡ x →
      IsWork v s a (after_call v images w p l ls m id x)
  call_work images p w l ls m id (Some cause) h alive early = drop_work w l ls cause h
  call_work images p w l ls m id None h alive early = granted_work images p w l ls m id (is_ask id) h alive early

  completed_work : (w : Objects) (l : Level) (ls : List Level) → WorksOn v s a (record { now = w; levels = l ∷ ls }) →
      valid w.things l.owner l.point l.args (l.machine.regs 0) (l.machine.regs 1) ≡ true →
      IsWork v s a (completed w l ls)
  completed_work w l [] h right = (
    record { works = (h.works.0, (h.works.1.0, tt)); asked = tt },
    ap (λ q. valid w.things q a.point a.args (l.machine.regs 0) (l.machine.regs 1)) (sym h.asked.0)
        ∙ ap (λ pt. valid w.things l.owner pt a.args (l.machine.regs 0) (l.machine.regs 1)) (sym h.asked.1)
        ∙ ap (λ args. valid w.things l.owner l.point args (l.machine.regs 0) (l.machine.regs 1))
        (sym h.asked.2) ∙ right,
  )
  completed_work w l (asker ∷ rest) h right =
      let after = record asker {
        machine = answered (kind_of l.point) (l.machine.regs 0) (l.machine.regs 1) asker.machine;
        touched = joined l.touched asker.touched;
        records = l.records ++ asker.records;
      } in
      on_same w (after ∷ rest) (asker ∷ rest) (same_level after asker rest refl refl refl refl)
      (record { works = (h.works.0, (h.works.1.0, h.works.1.1.1)); asked = asked_outside a l (asker ∷ rest) h.asked })

  -- the segment is kept, where a record can be made
  keeping_work : (w : Objects) (l : Level) (ls : List Level) (spent : Bool) →
      is_record_spent w.accounts l ls ≡ spent →
      WorksOn v s a (record { now = w; levels = l ∷ ls }) →
      valid w.things l.owner l.point l.args (l.machine.regs 0) (l.machine.regs 1) ≡ true →
      IsWork v s a (after_keeping v w l ls spent)
  keeping_work w l ls true e h right = drop_work w l ls SpentRecords h
  keeping_work w l ls false e h right =
      let u = set_segment l.owner l.point (Some l.machine.memory) w.things in
      let some = (neither (funds w.accounts l.owner l.point Records == 0) (record_count (l ∷ ls) == 64) e).0 in
      let place = payer_place v w l.owner l.point Records (w.accounts.graft l.owner l.point) refl
      h.works.1.0.store some in
      let new = segment_work v s w.accounts l.owner l.point (Some l.machine.memory) w.things
      h.works.1.0 place.0 place.1 in
      let changed : WorksOn v s a (record { now = record { accounts = w.accounts; things = u }; levels = l ∷ ls }) =
      record { works = (h.works.0, (new, h.works.1.1)); asked = h.asked } in
      let k = charged_work (record { accounts = w.accounts; things = u }) (l ∷ ls) l.owner l.point
      Records some changed in
      let n = record l { records = found_segment l.owner l.point w.things ∷ l.records } in
      let c : Objects = record { accounts = charge Records l.owner l.point w.accounts; things = u } in
      completed_work c n ls (on_same c (n ∷ ls) (l ∷ ls) (same_level n l ls refl refl refl refl) k).0
      (valid_kept (kind_of l.point) l.owner l.point (Some l.machine.memory) w.things l.owner l.args
      (l.machine.regs 0) (l.machine.regs 1) ∙ right)

  answer_work : (w : Objects) (l : Level) (ls : List Level) (keeps : Bool) →
      WorksOn v s a (record { now = w; levels = l ∷ ls }) →
      valid w.things l.owner l.point l.args (l.machine.regs 0) (l.machine.regs 1) ≡ true →
      IsWork v s a (after_answer v w l ls keeps)
  answer_work w l ls true h right = keeping_work w l ls (is_record_spent w.accounts l ls) refl h right
  answer_work w l ls false h right = completed_work w l ls h right

  return_work : (images : ImageTable) (w : Objects) (l : Level) (ls : List Level) (b : Bool) →
      WorksOn v s a (record { now = w; levels = l ∷ ls }) →
      valid w.things l.owner l.point l.args (l.machine.regs 0) (l.machine.regs 1) ≡ b →
      IsWork v s a (after_return v images w l ls b)
  return_work images w l ls true h e =
      answer_work w l ls (keeps_in (image_of images (w.accounts.graft l.owner l.point))) h e
  return_work images w l ls false h e = drop_work w l ls (RefusedAnswer (l.machine.regs 0) (l.machine.regs 1)) h

  -- ---- one instruction

  machine_work : (images : ImageTable) (p : ℕ) (w : Objects) (l : Level) (ls : List Level)
      (x : Done) → WorksOn v s a (record { now = w; levels = l ∷ ls }) →
      lives w.things.queue l.owner ≡ true → IsWork v s a (after_machine v images p w l ls x)
  machine_work images p w l ls (Done.Went m) h alive =
      on_same w
      (with_machine m l ∷ ls) (l ∷ ls) (same_level (with_machine m l) l ls refl refl refl refl) h
  machine_work images p w l ls (Called id m) h alive =
      call_work images p w l ls m id
      (early_refusal v.callable id (l.machine.regs 0) (l.machine.regs 1) l.owner) h alive refl
  machine_work images p w l ls Returned h alive =
      return_work images w l ls (valid w.things l.owner l.point l.args (l.machine.regs 0) (l.machine.regs 1)) h refl
  machine_work images p w l ls Done.DividedByZero h alive = drop_work w l ls Cause.DivideByZero h
  machine_work images p w l ls (Trapped code) h alive = drop_work w l ls (Cause.Trap code) h
  machine_work images p w l ls Outside h alive = drop_work w l ls Cause.DivideByZero h
  machine_work images p w l ls PastEnd h alive = drop_work w l ls Cause.DivideByZero h

  step_work : (images : ImageTable) (p : ℕ) (w : Objects) (l : Level) (ls : List Level)
      (spent : Bool) → is_spent w.accounts l ≡ spent →
      WorksOn v s a (record { now = w; levels = l ∷ ls }) → IsWork v s a (charged_step v images p w l ls spent)
  step_work images p w l ls true e h = drop_work w l ls SpentSteps h
  step_work images p w l ls false e h =
      let some = (neither (l.count == limit_in (w.accounts.graft l.owner l.point))
      (funds w.accounts l.owner l.point Steps == 0) e).1 in
      let u = with_accounts (charge Steps l.owner l.point w.accounts) w in
      let n = record l { count = l.count + 1 } in
      machine_work images p u n ls (seg_step (code_of images w.accounts l.owner l.point) l.machine)
      (on_same u (n ∷ ls) (l ∷ ls) (same_level n l ls refl refl refl refl)
      (charged_work w (l ∷ ls) l.owner l.point Steps some h)).0
      (payer_lives v w l.owner l.point Steps (w.accounts.graft l.owner l.point) refl h.works.1.0.store some)

  on_levels : (images : ImageTable) (p : ℕ) (w : Objects) (ls : List Level) →
      WorksOn v s a (record { now = w; levels = ls }) → IsWork v s a (micro_on v images p w ls)
  on_levels images p w [] h = (h, tt)
  on_levels images p w (l ∷ ls) h = step_work images p w l ls (is_spent w.accounts l) refl h

-- an instruction of a graft call that works on a state leaves one
pub instructions_work : InstructionsWork
instructions_work v images p s a c h = on_levels v s a images p c.now c.levels h
