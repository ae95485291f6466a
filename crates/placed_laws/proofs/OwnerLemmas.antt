-- The levels of a graft call, and their records, are of one owner.
use Rattle.std.specs.Prelude.{◌≡◌, ℕ, ◌+◌, ◌==◌, Bool, true, false, cond, List, [], ◌∷◌, ◌++◌}
use Rattle.std.specs.Prelude.{length, slice_get, Option, Some, None, ⊤}
use Rattle.std.proofs.Common.{refl, subst, sym, ◌∙◌}
use Rattle.kernel_model.specs.declared.Cause.{Cause}
use Rattle.kernel_model.specs.declared.Cause.TheVariants.{BadArgument, NotYours, SpentSteps}
use Rattle.kernel_model.specs.declared.Cause.TheVariants.{SpentRecords, SpentLocks, RefusedAnswer}
use Rattle.kernel_model.specs.declared.Inverse.{Inverse}
use Rattle.kernel_model.specs.declared.Inverse.TheVariants.{Mark}
use Rattle.kernel_model.specs.declared.Kind.TheVariants.{Steps, Records, Locks}
use Rattle.kernel_model.specs.declared.Object.TheVariants.{Graft}
use Rattle.kernel_model.specs.declared.OpenRow.{OpenRow}
use Rattle.kernel_model.specs.World.{World, ImageTable}
use Rattle.kernel_model.specs.Objects.{Objects, Things, FrameValue, GraftValue, with_accounts}
use Rattle.kernel_model.specs.Machine.{Machine, Done, Called, Returned, Trapped, Outside, PastEnd, seg_step}
use Rattle.kernel_model.specs.Policies.{valid, default_of, frames_of}
use Rattle.kernel_model.specs.Charges.{funds, charge}
use Rattle.kernel_model.specs.Access.{Access, Gives, Changes, Refuses, Callable, CellGet, CellSet}
use Rattle.kernel_model.specs.Access.{NiceGet, NiceSet, WindowGet, WindowSet, FramesMine, FrameAt}
use Rattle.kernel_model.specs.Access.{FrameBlock, FrameMark, TuneGet, TuneSet, TakeLock, callable}
use Rattle.kernel_model.specs.Access.{access, access_by, early_refusal, is_ask, asked_point}
use Rattle.kernel_model.specs.Access.{asked_objects, set_mark, own_frame, window_change}
use Rattle.kernel_model.specs.Access.{tune_change, param_top, in_range, chosen_param, Found}
use Rattle.kernel_model.specs.Access.{found_segment, set_segment}
use Rattle.kernel_model.specs.Levels.{Level, Outcome, code_of, image_of, keeps_in, with_machine}
use Rattle.kernel_model.specs.Levels.{with_touched, touch_outermost, answer_innermost}
use Rattle.kernel_model.specs.Levels.{drop_innermost, drop_level}
use Rattle.kernel_model.specs.GraftStep.{is_lock_due, lock_paid, after_result, is_record_spent}
use Rattle.kernel_model.specs.GraftStep.{after_change, after_accessor, ask_refusal, ask_answered}
use Rattle.kernel_model.specs.GraftStep.{after_ask, granted_call, after_call, completed}
use Rattle.kernel_model.specs.GraftStep.{after_keeping, after_answer, after_return, after_machine}
use Rattle.kernel_model.specs.GraftStep.{is_spent, charged_step, micro_on}
use Rattle.kernel_laws.proofs.LevelLemmas.{KeepOn, keep_touch, keep_answer}
use Rattle.placed_laws.specs.Owners.{IsOwn, AreOwn, AreOfOwner, OwnersStay}

-- ---- records and levels

-- records of two levels
both_own : (q : ℕ) (is js : List Found) → AreOwn q is → AreOwn q js → AreOwn q (is ++ js)
both_own q [] js h k = k
both_own q (i ∷ is) js h k = (h.0, both_own q is js h.1 k)

-- levels that keep their owners and records
owner_on : (q : ℕ) (ls ks : List Level) → KeepOn ls ks → AreOfOwner q ks → AreOfOwner q ls
owner_on q [] [] keep h = tt
owner_on q (l ∷ ls) (k ∷ ks) keep h =
    (keep.0.owner ∙ h.0, subst (AreOwn q) (sym keep.0.records) h.1, owner_on q ls ks keep.1 h.2)
owner_on q [] (k ∷ ks) keep h = absurd keep
owner_on q (l ∷ ls) [] keep h = absurd keep

-- ---- accessors

-- the record of a change, if there is one
abbrev HasOwn : ℕ → Access → Type 0
HasOwn q (Gives result) = ⊤
HasOwn q (Changes result i w) = IsOwn q i
HasOwn q (Refuses cause) = ⊤

window_gives : (q id : ℕ) (o : Option OpenRow) →
    HasOwn q (elim o as (λ _. Access) [ None ↦ Refuses (BadArgument id) | Some r ↦ Gives r.window ])
window_gives q id None = tt
window_gives q id (Some r) = tt

window_changes : (q id fd x : ℕ) (o : Option OpenRow) (w : Things) → HasOwn q (window_change id fd x q o w)
window_changes q id fd x None w = tt
window_changes q id fd x (Some o) w = refl

frame_gives : (q id : ℕ) (f : Option ℕ) →
    HasOwn q (elim f as (λ _. Access) [ None ↦ Refuses (BadArgument id) | Some x ↦ Gives x ])
frame_gives q id None = tt
frame_gives q id (Some x) = tt

block_gives : (q id : ℕ) (o : Option FrameValue) → HasOwn q (own_frame id q o (λ f. Gives f.block))
block_gives q id None = tt
block_gives q id (Some f) = gives_by (f.owner == q)
  where
    gives_by : (b : Bool) → HasOwn q (cond b (Gives f.block) (Refuses (NotYours id)))
    gives_by true = tt
    gives_by false = tt

mark_changes : (q id f n : ℕ) (o : Option FrameValue) (w : Things) →
    HasOwn q (own_frame id q o (λ x. Changes x.mark (Mark f x.mark) (set_mark f n w)))
mark_changes q id f n None w = tt
mark_changes q id f n (Some x) w = changes_by (x.owner == q)
  where
    changes_by : (b : Bool) →
        HasOwn q (cond b (Changes x.mark (Mark f x.mark) (set_mark f n w)) (Refuses (NotYours id)))
    changes_by true = tt
    changes_by false = tt

param_gives : (q id x : ℕ) (b : Bool) → HasOwn q (cond b (Gives x) (Refuses (BadArgument id)))
param_gives q id x true = tt
param_gives q id x false = tt

param_changes : (q id kind k n x : ℕ) (w : Things) (b : Bool) →
    HasOwn q (cond b (tune_change kind k n x w) (Refuses (BadArgument id)))
param_changes q id kind k n x w true = tt
param_changes q id kind k n x w false = tt

-- each accessor of a process records what is the process's own
access_own : (c : Callable) (id r0 r1 r2 q : ℕ) (w : Things) → HasOwn q (access_by c id r0 r1 r2 q w)
access_own CellGet id r0 r1 r2 q w = tt
access_own CellSet id r0 r1 r2 q w = refl
access_own NiceGet id r0 r1 r2 q w = tt
access_own NiceSet id r0 r1 r2 q w = refl
access_own WindowGet id r0 r1 r2 q w = window_gives q id (w.file q r0)
access_own WindowSet id r0 r1 r2 q w = window_changes q id r0 r1 (w.file q r0) w
access_own FramesMine id r0 r1 r2 q w = tt
access_own FrameAt id r0 r1 r2 q w = frame_gives q id (slice_get (frames_of w.cache q) r0)
access_own FrameBlock id r0 r1 r2 q w = block_gives q id (w.cache.frame r0)
access_own FrameMark id r0 r1 r2 q w = mark_changes q id r0 r1 (w.cache.frame r0) w
access_own TuneGet id r0 r1 r2 q w =
    param_gives q id (chosen_param (w.pol r0)) (in_range (param_top r0 (w.pol r0).chosen) r1 0)
access_own TuneSet id r0 r1 r2 q w =
    param_changes q id r0 r1 r2 (chosen_param (w.pol r0)) w (in_range (param_top r0 (w.pol r0).chosen) r1 r2)
access_own TakeLock id r0 r1 r2 q w = tt

-- ---- outcomes

-- the levels of an outcome's config
abbrev OwnedAfter : ℕ → Outcome → Type 0
OwnedAfter q o = AreOfOwner q o.config.levels

module _ (v : World) (images : ImageTable) (p q : ℕ) where
  -- the innermost level is dropped
  drop_owned : (w : Objects) (l : Level) (ls : List Level) (cause : Cause) → AreOfOwner q (l ∷ ls) →
      OwnedAfter q (drop_innermost v w l ls cause)
  drop_owned w l ls cause h =
      let d = default_of v l.kept l.owner l.point in
      owner_on q (answer_innermost l.point d.0 d.1 ls) ls (keep_answer l.point d.0 d.1 ls) h.2

  -- ---- accessors

  lock_owned : (w : Objects) (l : Level) (ls : List Level) (m : Machine) (id result : ℕ)
      (spent : Bool) → AreOfOwner q (l ∷ ls) →
      OwnedAfter q (lock_paid v w l ls m id result spent)
  lock_owned w l ls m id result true h = drop_owned w l ls SpentLocks h
  lock_owned w l ls m id result false h = h

  result_owned : (w : Objects) (l : Level) (ls : List Level) (m : Machine) (id result : ℕ)
      (due : Bool) → AreOfOwner q (l ∷ ls) →
      OwnedAfter q (after_result v w l ls m id result due)
  result_owned w l ls m id result true h = lock_owned w l ls m id result (funds w.accounts l.owner l.point Locks == 0) h
  result_owned w l ls m id result false h = h

  change_owned : (w : Objects) (l : Level) (ls : List Level) (m : Machine) (id result : ℕ)
      (i : Inverse) (u : Things) (spent : Bool) → AreOfOwner q (l ∷ ls) →
      IsOwn q i → OwnedAfter q (after_change v w l ls m id result i u spent)
  change_owned w l ls m id result i u true h own = drop_owned w l ls SpentRecords h
  change_owned w l ls m id result i u false h own = (h.0, (own, h.1), h.2)

  accessor_owned : (w : Objects) (l : Level) (ls : List Level) (m : Machine) (id : ℕ) (x : Access) →
      AreOfOwner q (l ∷ ls) → HasOwn q x →
      OwnedAfter q (after_accessor v w l ls m id x)
  accessor_owned w l ls m id (Refuses cause) h own = drop_owned w l ls cause h
  accessor_owned w l ls m id (Gives result) h own =
      result_owned w l ls m id result (is_lock_due id (l.machine.regs 0) (l ∷ ls)) h
  accessor_owned w l ls m id (Changes result i u) h own =
      change_owned w l ls m id result i u (is_record_spent w.accounts l ls) h own

  -- ---- asks

  -- a point of this owner is asked
  answered_owned : (w : Objects) (r pt : ℕ) (ks : List Level) (g : Option GraftValue) → r ≡ q → AreOfOwner q ks →
      OwnedAfter q (ask_answered v images w p r pt ks g)
  answered_owned w r pt ks None own h =
      let d = default_of v w.things r pt in
      owner_on q (answer_innermost pt d.0 d.1 ks) ks (keep_answer pt d.0 d.1 ks) h
  answered_owned w r pt ks (Some g) own h = (own, tt, h)

  ask_owned : (w : Objects) (l : Level) (ls : List Level) (m : Machine) (id pt : ℕ)
      (x : Option Cause) → AreOfOwner q (l ∷ ls) →
      OwnedAfter q (after_ask v images w p l ls m id pt x)
  ask_owned w l ls m id pt (Some cause) h = drop_owned w l ls cause h
  ask_owned w l ls m id pt None h =
      let asker = with_touched (asked_objects id (l.machine.regs 0) l.owner) (with_machine m l) in
      let o = Graft l.owner (asked_point id (l.machine.regs 0)) in
      answered_owned w l.owner pt (touch_outermost o (asker ∷ ls)) (w.accounts.graft l.owner pt) h.0
      (owner_on q (touch_outermost o (asker ∷ ls)) (asker ∷ ls) (keep_touch o (asker ∷ ls)) h)

  -- ---- calls and answers

  granted_owned : (w : Objects) (l : Level) (ls : List Level) (m : Machine) (id : ℕ) (ask : Bool) →
      AreOfOwner q (l ∷ ls) →
      OwnedAfter q (granted_call v images w p l ls m id ask)
  granted_owned w l ls m id true h =
      let pt = asked_point id (l.machine.regs 0) in ask_owned w l ls m id pt (ask_refusal w l.owner pt id (l ∷ ls)) h
  granted_owned w l ls m id false h =
      let r0 = l.machine.regs 0 in
      let r1 = l.machine.regs 1 in
      let r2 = l.machine.regs 2 in
      let x = access id r0 r1 r2 l.owner w.things in
      accessor_owned w l ls m id x h
      (subst (λ r. HasOwn r x) h.0 (access_own (callable id) id r0 r1 r2 l.owner w.things))

  call_owned : (w : Objects) (l : Level) (ls : List Level) (m : Machine) (id : ℕ)
      (x : Option Cause) → AreOfOwner q (l ∷ ls) →
      OwnedAfter q (after_call v images w p l ls m id x)
  call_owned w l ls m id (Some cause) h = drop_owned w l ls cause h
  call_owned w l ls m id None h = granted_owned w l ls m id (is_ask id) h

  -- the innermost level's records go to its asker, which is of the same owner
  completed_owned : (w : Objects) (l : Level) (ls : List Level) → AreOfOwner q (l ∷ ls) →
      OwnedAfter q (completed w l ls)
  completed_owned w l [] h = tt
  completed_owned w l (asker ∷ rest) h = (h.2.0, both_own q l.records asker.records h.1 h.2.1, h.2.2)

  -- the segment that is kept is of the level's own graft
  keeping_owned : (w : Objects) (l : Level) (ls : List Level) (spent : Bool) →
      AreOfOwner q (l ∷ ls) → OwnedAfter q (after_keeping v w l ls spent)
  keeping_owned w l ls true h = drop_owned w l ls SpentRecords h
  keeping_owned w l ls false h =
      let u : Objects = record {
        accounts = charge Records l.owner l.point w.accounts;
        things = set_segment l.owner l.point (Some l.machine.memory) w.things;
      } in
      completed_owned u (record l { records = found_segment l.owner l.point w.things ∷ l.records })
      ls (h.0, (h.0, h.1), h.2)

  answer_owned : (w : Objects) (l : Level) (ls : List Level) (keeps : Bool) →
      AreOfOwner q (l ∷ ls) → OwnedAfter q (after_answer v w l ls keeps)
  answer_owned w l ls true h = keeping_owned w l ls (is_record_spent w.accounts l ls) h
  answer_owned w l ls false h = completed_owned w l ls h

  return_owned : (w : Objects) (l : Level) (ls : List Level) (b : Bool) → AreOfOwner q (l ∷ ls) →
      OwnedAfter q (after_return v images w l ls b)
  return_owned w l ls true h = answer_owned w l ls (keeps_in (image_of images (w.accounts.graft l.owner l.point))) h
  return_owned w l ls false h = drop_owned w l ls (RefusedAnswer (l.machine.regs 0) (l.machine.regs 1)) h

  -- ---- one instruction

  machine_owned : (w : Objects) (l : Level) (ls : List Level) (x : Done) → AreOfOwner q (l ∷ ls) →
      OwnedAfter q (after_machine v images p w l ls x)
  machine_owned w l ls (Done.Went m) h = h
  machine_owned w l ls (Called id m) h =
      call_owned w l ls m id
      (early_refusal v.callable id (l.machine.regs 0) (l.machine.regs 1) l.owner) h
  machine_owned w l ls Returned h =
      return_owned w l ls
      (valid w.things l.owner l.point l.args (l.machine.regs 0) (l.machine.regs 1)) h
  machine_owned w l ls Done.DividedByZero h = drop_owned w l ls Cause.DivideByZero h
  machine_owned w l ls (Trapped code) h = drop_owned w l ls (Cause.Trap code) h
  machine_owned w l ls Outside h = drop_owned w l ls Cause.DivideByZero h
  machine_owned w l ls PastEnd h = drop_owned w l ls Cause.DivideByZero h

  step_owned : (w : Objects) (l : Level) (ls : List Level) (spent : Bool) → AreOfOwner q (l ∷ ls) →
      OwnedAfter q (charged_step v images p w l ls spent)
  step_owned w l ls true h = drop_owned w l ls SpentSteps h
  step_owned w l ls false h =
      machine_owned (with_accounts (charge Steps l.owner l.point w.accounts) w) (record l { count = l.count + 1 }) ls
      (seg_step (code_of images w.accounts l.owner l.point) l.machine) h

  instruction_owned : (w : Objects) (ls : List Level) → AreOfOwner q ls → OwnedAfter q (micro_on v images p w ls)
  instruction_owned w [] h = h
  instruction_owned w (l ∷ ls) h = step_owned w l ls (is_spent w.accounts l) h

  -- ---- the drop of any level

  level_owned : (w : Objects) (ls : List Level) (d : ℕ) (cause : Cause) → AreOfOwner q ls →
      OwnedAfter q (drop_level v w ls d cause)
  level_owned w [] d cause h = h
  level_owned w (l ∷ ls) d cause h = drops_by (length ls == d) (level_owned w ls d cause h.2)
    where
      drops_by : (b : Bool) → OwnedAfter q (drop_level v w ls d cause) →
          OwnedAfter q (elim b as (λ _. Outcome) [
            | true ↦ drop_innermost v w l ls cause
            | false ↦ drop_level v w ls d cause
          ])
      drops_by true further = drop_owned w l ls cause h
      drops_by false further = further

-- ---- the law

pub owners_stay : OwnersStay
owners_stay =
    record {
      begins = λ images s p needs feed a. (refl, tt, tt);
      instructions = λ v images p q c h. instruction_owned v images p q c.now c.levels h;
      drops = λ v w ls d q cause h. level_owned v (λ slot. None) 0 q w ls d cause h;
    }
