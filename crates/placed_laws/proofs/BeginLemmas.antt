-- Wherever a history leads, the outermost level found what was committed when the call began.
use Rattle.std.specs.Prelude.{◌≡◌, ℕ, suc, ◌+◌, ◌==◌, ◌&&◌, Bool, true, false, not, List, [], ◌∷◌}
use Rattle.std.specs.Prelude.{length, Option, Some, None, ⊤}
use Rattle.std.proofs.Common.{refl, ◌∙◌}
use Rattle.kernel_model.specs.declared.Cause.{Cause}
use Rattle.kernel_model.specs.declared.Cause.TheVariants.{SpentSteps, SpentRecords, SpentLocks, RefusedAnswer}
use Rattle.kernel_model.specs.declared.Inverse.{Inverse}
use Rattle.kernel_model.specs.declared.Kind.TheVariants.{Steps, Locks}
use Rattle.kernel_model.specs.declared.Object.{Object}
use Rattle.kernel_model.specs.World.{World, ImageTable}
use Rattle.kernel_model.specs.Objects.{Objects, Things, GraftValue, with_accounts}
use Rattle.kernel_model.specs.Machine.{Machine, Done, Called, Returned, Trapped, Outside, PastEnd, seg_step}
use Rattle.kernel_model.specs.Policies.{valid, default_of}
use Rattle.kernel_model.specs.Access.{Access, Gives, Changes, Refuses, access, early_refusal}
use Rattle.kernel_model.specs.Access.{is_ask, asked_point, asked_objects, asked_graft}
use Rattle.kernel_model.specs.Charges.{funds, charge, removed}
use Rattle.kernel_model.specs.Levels.{Level, Config, Outcome, image_of, keeps_in, code_of}
use Rattle.kernel_model.specs.Levels.{with_machine, with_touched, touch_outermost}
use Rattle.kernel_model.specs.Levels.{answer_innermost, drop_innermost}
use Rattle.kernel_model.specs.GraftStep.{is_lock_due, lock_paid, after_result, is_record_spent}
use Rattle.kernel_model.specs.GraftStep.{after_change, after_accessor, ask_refusal, ask_answered}
use Rattle.kernel_model.specs.GraftStep.{after_ask, granted_call, after_call, completed}
use Rattle.kernel_model.specs.GraftStep.{after_keeping, after_answer, after_return, after_machine}
use Rattle.kernel_model.specs.GraftStep.{is_spent, charged_step, micro_on, micro}
use Rattle.kernel_model.specs.declared.Need.{Need}
use Rattle.kernel_model.specs.declared.Object.TheVariants.{Graft}
use Rattle.kernel_model.specs.declared.Point.{Point}
use Rattle.kernel_model.specs.Meaning.{Meaning}
use Rattle.kernel_model.specs.Levels.{Effect, Asked, Charged, Removed, is_going_on}
use Rattle.kernel_model.specs.GraftStep.{micro}
use Rattle.kernel_model.specs.History.{Mark, Stepped, Fell, Trace, begin_with, begin_at}
use Rattle.kernel_model.specs.History.{first_trace, trace_after, stepped, is_found}
use Rattle.kernel_model.specs.History.{with_accounts_of, config_if, effect, effects_on, level_ends}
use Rattle.kernel_model.specs.History.{owner_among, fallen_if, fell_on, mark_on, marks_on}
use Rattle.kernel_model.specs.Kernel.{Call, Kernel}
use Rattle.kernel_model.specs.Blocking.{config_in, config_of, trace_of}

-- the outermost level found these things, if there is a level
abbrev pub BeganWith : Things → List Level → Type 0
BeganWith w [] = ⊤
BeganWith w (l ∷ []) = l.kept ≡ w
BeganWith w (l ∷ k ∷ ls) = BeganWith w (k ∷ ls)

-- a config, if there is one, began so, and so did that of a trace
abbrev pub ConfigBegan : Things → Option Config → Type 0
ConfigBegan w None = ⊤
ConfigBegan w (Some c) = BeganWith w c.levels

abbrev TraceBegan : Things → Option Trace → Type 0
TraceBegan w None = ⊤
TraceBegan w (Some t) = BeganWith w t.config.levels

-- ---- levels

-- another level in the place of the innermost, which found the same
swapped : (w : Things) (l n : Level) (ls : List Level) → n.kept ≡ l.kept → BeganWith w (l ∷ ls) → BeganWith w (n ∷ ls)
swapped w l n [] e h = e ∙ h
swapped w l n (k ∷ ls) e h = h

-- the levels outside the innermost
outside : (w : Things) (l : Level) (ls : List Level) → BeganWith w (l ∷ ls) → BeganWith w ls
outside w l [] h = tt
outside w l (k ∷ ls) h = h

touched : (w : Things) (o : Object) (ls : List Level) → BeganWith w ls → BeganWith w (touch_outermost o ls)
touched w o [] h = tt
touched w o (l ∷ []) h = h
touched w o (l ∷ k ∷ []) h = h
touched w o (l ∷ k ∷ j ∷ ls) h = touched w o (k ∷ j ∷ ls) h

answered : (w : Things) (pt r0 r1 : ℕ) (ls : List Level) → BeganWith w ls → BeganWith w (answer_innermost pt r0 r1 ls)
answered w pt r0 r1 [] h = tt
answered w pt r0 r1 (l ∷ []) h = h
answered w pt r0 r1 (l ∷ k ∷ ls) h = h

-- ---- one instruction

module _ (v : World) (images : ImageTable) (p : ℕ) (base : Things) where
  -- what an outcome leaves is so
  abbrev OutcomeBegan : Outcome → Type 0
  OutcomeBegan o = BeganWith base o.config.levels

  drop_began : (w : Objects) (l : Level) (ls : List Level) (cause : Cause) → BeganWith base (l ∷ ls) →
      OutcomeBegan (drop_innermost v w l ls cause)
  drop_began w l ls cause h =
      let d = default_of v l.kept l.owner l.point in answered base l.point d.0 d.1 ls (outside base l ls h)

  lock_began : (w : Objects) (l : Level) (ls : List Level) (m : Machine) (id result : ℕ) (spent : Bool) →
      BeganWith base (l ∷ ls) → OutcomeBegan (lock_paid v w l ls m id result spent)
  lock_began w l ls m id result true h = drop_began w l ls SpentLocks h
  lock_began w l [] m id result false h = h
  lock_began w l (k ∷ ls) m id result false h = h

  result_began : (w : Objects) (l : Level) (ls : List Level) (m : Machine) (id result : ℕ) (due : Bool) →
      BeganWith base (l ∷ ls) → OutcomeBegan (after_result v w l ls m id result due)
  result_began w l ls m id result true h = lock_began w l ls m id result (funds w.accounts l.owner l.point Locks == 0) h
  result_began w l [] m id result false h = h
  result_began w l (k ∷ ls) m id result false h = h

  change_began : (w : Objects) (l : Level) (ls : List Level) (m : Machine) (id result : ℕ) (i : Inverse)
      (things : Things) (spent : Bool) → BeganWith base (l ∷ ls) →
      OutcomeBegan (after_change v w l ls m id result i things spent)
  change_began w l ls m id result i things true h = drop_began w l ls SpentRecords h
  change_began w l [] m id result i things false h = h
  change_began w l (k ∷ ls) m id result i things false h = h

  accessor_began : (w : Objects) (l : Level) (ls : List Level) (m : Machine) (id : ℕ) (x : Access) →
      BeganWith base (l ∷ ls) → OutcomeBegan (after_accessor v w l ls m id x)
  accessor_began w l ls m id (Refuses cause) h = drop_began w l ls cause h
  accessor_began w l ls m id (Gives result) h =
      result_began w l ls m id result (is_lock_due id (l.machine.regs 0) (l ∷ ls)) h
  accessor_began w l ls m id (Changes result i things) h =
      change_began w l ls m id result i things (is_record_spent w.accounts l ls) h

  asked_began : (w : Objects) (q pt : ℕ) (l : Level) (ls : List Level) (o : Object) (g : Option GraftValue) →
      BeganWith base (touch_outermost o (l ∷ ls)) →
      OutcomeBegan (ask_answered v images w p q pt (touch_outermost o (l ∷ ls)) g)
  asked_began w q pt l ls o None h =
      let d = default_of v w.things q pt in answered base pt d.0 d.1 (touch_outermost o (l ∷ ls)) h
  asked_began w q pt l [] o (Some g) h = h
  asked_began w q pt l (k ∷ ls) o (Some g) h = h

  ask_began : (w : Objects) (l : Level) (ls : List Level) (m : Machine) (id pt : ℕ) (refusal : Option Cause) →
      BeganWith base (l ∷ ls) → OutcomeBegan (after_ask v images w p l ls m id pt refusal)
  ask_began w l ls m id pt (Some cause) h = drop_began w l ls cause h
  ask_began w l ls m id pt None h =
      let asker = with_touched (asked_objects id (l.machine.regs 0) l.owner) (with_machine m l) in
      let o = (asked_graft id (l.machine.regs 0) l.owner).object in
      asked_began w l.owner pt asker ls o (w.accounts.graft l.owner pt)
      (touched base o (asker ∷ ls) (swapped base l asker ls refl h))

  granted_began : (w : Objects) (l : Level) (ls : List Level) (m : Machine) (id : ℕ) (ask : Bool) →
      BeganWith base (l ∷ ls) → OutcomeBegan (granted_call v images w p l ls m id ask)
  granted_began w l ls m id true h =
      let pt = asked_point id (l.machine.regs 0) in ask_began w l ls m id pt (ask_refusal w l.owner pt id (l ∷ ls)) h
  granted_began w l ls m id false h =
      accessor_began w l ls m id (access id (l.machine.regs 0) (l.machine.regs 1) (l.machine.regs 2) l.owner w.things) h

  call_began : (w : Objects) (l : Level) (ls : List Level) (m : Machine) (id : ℕ) (refusal : Option Cause) →
      BeganWith base (l ∷ ls) → OutcomeBegan (after_call v images w p l ls m id refusal)
  call_began w l ls m id (Some cause) h = drop_began w l ls cause h
  call_began w l ls m id None h = granted_began w l ls m id (is_ask id) h

  completed_began : (w : Objects) (l : Level) (ls : List Level) → BeganWith base (l ∷ ls) →
      OutcomeBegan (completed w l ls)
  completed_began w l [] h = tt
  completed_began w l (k ∷ []) h = h
  completed_began w l (k ∷ j ∷ ls) h = h

  keeping_began : (w : Objects) (l : Level) (ls : List Level) (spent : Bool) → BeganWith base (l ∷ ls) →
      OutcomeBegan (after_keeping v w l ls spent)
  keeping_began w l ls true h = drop_began w l ls SpentRecords h
  keeping_began w l [] false h = tt
  keeping_began w l (k ∷ []) false h = h
  keeping_began w l (k ∷ j ∷ ls) false h = h

  answer_began : (w : Objects) (l : Level) (ls : List Level) (keeps : Bool) → BeganWith base (l ∷ ls) →
      OutcomeBegan (after_answer v w l ls keeps)
  answer_began w l ls true h = keeping_began w l ls (is_record_spent w.accounts l ls) h
  answer_began w l ls false h = completed_began w l ls h

  return_began : (w : Objects) (l : Level) (ls : List Level) (is_valid : Bool) → BeganWith base (l ∷ ls) →
      OutcomeBegan (after_return v images w l ls is_valid)
  return_began w l ls true h = answer_began w l ls (keeps_in (image_of images (w.accounts.graft l.owner l.point))) h
  return_began w l ls false h = drop_began w l ls (RefusedAnswer (l.machine.regs 0) (l.machine.regs 1)) h

  machine_began : (w : Objects) (l : Level) (ls : List Level) (d : Done) → BeganWith base (l ∷ ls) →
      OutcomeBegan (after_machine v images p w l ls d)
  machine_began w l [] (Done.Went m) h = h
  machine_began w l (k ∷ ls) (Done.Went m) h = h
  machine_began w l ls (Called id m) h =
      call_began w l ls m id (early_refusal v.callable id (l.machine.regs 0) (l.machine.regs 1) l.owner) h
  machine_began w l ls Returned h =
      return_began w l ls (valid w.things l.owner l.point l.args (l.machine.regs 0) (l.machine.regs 1)) h
  machine_began w l ls Done.DividedByZero h = drop_began w l ls Cause.DivideByZero h
  machine_began w l ls (Trapped code) h = drop_began w l ls (Cause.Trap code) h
  machine_began w l ls Outside h = drop_began w l ls Cause.DivideByZero h
  machine_began w l ls PastEnd h = drop_began w l ls Cause.DivideByZero h

  step_began : (w : Objects) (l : Level) (ls : List Level) (spent : Bool) → BeganWith base (l ∷ ls) →
      OutcomeBegan (charged_step v images p w l ls spent)
  step_began w l ls true h = drop_began w l ls SpentSteps h
  step_began w l ls false h =
      let n = record l { count = l.count + 1 } in
      machine_began (with_accounts (charge Steps l.owner l.point w.accounts) w) n ls
      (seg_step (code_of images w.accounts l.owner l.point) l.machine) (swapped base l n ls refl h)

  micro_began : (w : Objects) (ls : List Level) → BeganWith base ls → OutcomeBegan (micro_on v images p w ls)
  micro_began w [] h = tt
  micro_began w (l ∷ ls) h = step_began w l ls (is_spent w.accounts l) h

  -- ---- a fallen level

  config_if_began : (b : Bool) (c : Config) → BeganWith base c.levels → ConfigBegan base (config_if b c)
  config_if_began true c h = h
  config_if_began false c h = tt

  effect_began : (q : ℕ) (e : Effect) (c : Config) → BeganWith base c.levels → ConfigBegan base (effect q e c)
  effect_began q (Asked pt) c h = touched base (Graft q pt) c.levels h
  effect_began q (Charged pt k) c h =
      config_if_began (is_found q pt c && not (funds c.now.accounts q pt k == 0))
      (with_accounts_of (charge k q pt c.now.accounts) c) h
  effect_began q (Removed pt) c h =
      config_if_began (is_found q pt c) (with_accounts_of (removed q pt c.now.accounts) c) h

  effects_by : (q : ℕ) (es : List Effect) (x : Option Config) →
      ((c : Config) → BeganWith base c.levels → ConfigBegan base (effects_on q es c)) → ConfigBegan base x →
      ConfigBegan base (elim x as (λ _. Option Config) [ None ↦ None | Some u ↦ effects_on q es u ])
  effects_by q es None h began = tt
  effects_by q es (Some c) h began = h c began

  effects_began : (q : ℕ) (es : List Effect) (c : Config) → BeganWith base c.levels →
      ConfigBegan base (effects_on q es c)
  effects_began q [] c h = h
  effects_began q (e ∷ es) c h = effects_by q es (effect q e c) (effects_began q es) (effect_began q e c h)

  ends_began : (w : Objects) (ls : List Level) → BeganWith base ls → BeganWith base (level_ends v w ls).levels
  ends_began w [] h = tt
  ends_began w (l ∷ ls) h =
      let d = default_of v w.things l.owner l.point in answered base l.point d.0 d.1 ls (outside base l ls h)

  fallen_began : (es : List Effect) (u : Trace) (x : Option Config) → ConfigBegan base x →
      TraceBegan base (fallen_if v es u x)
  fallen_began es u None h = tt
  fallen_began es u (Some c) h = ends_began c.now c.levels h

  fell_by : (es : List Effect) (u : Trace) (b : Bool) → BeganWith base u.config.levels →
      TraceBegan base (elim b as (λ _. Option Trace) [
        | true ↦ fallen_if v es u (effects_on (owner_among u.config.levels) es u.config)
        | false ↦ None
      ])
  fell_by es u true h =
      fallen_began es u (effects_on (owner_among u.config.levels) es u.config)
      (effects_began (owner_among u.config.levels) es u.config h)
  fell_by es u false h = tt

  fell_began : (es : List Effect) (n : ℕ) (x : Option Trace) → TraceBegan base x →
      TraceBegan base (elim x as (λ _. Option Trace) [ None ↦ None | Some u ↦ fell_on v es n u ])
  fell_began es n None h = tt
  fell_began es n (Some u) h = fell_by es u (length u.config.levels == suc n) h

  -- ---- marks

  stepped_by : (t : Trace) (r : Outcome) (b : Bool) → BeganWith base r.config.levels →
      TraceBegan base (elim b as (λ _. Option Trace) [ true ↦ Some (trace_after t r) | false ↦ None ])
  stepped_by t r true h = h
  stepped_by t r false h = tt

  stepped_began : (t : Trace) → BeganWith base t.config.levels →
      TraceBegan base (stepped t (micro v images p t.config))
  stepped_began t h =
      let r = micro v images p t.config in
      stepped_by t r (is_going_on r.said) (micro_began t.config.now t.config.levels h)

  mark_began : (k : Mark) (t : Trace) → BeganWith base t.config.levels → TraceBegan base (mark_on v images p k t)
  mark_began Stepped t h = stepped_began t h
  mark_began (Fell es) t h =
      fell_began es (length t.config.levels) (stepped t (micro v images p t.config)) (stepped_began t h)

  marks_by : (ks : List Mark) (x : Option Trace) →
      ((t : Trace) → BeganWith base t.config.levels → TraceBegan base (marks_on v images p ks t)) →
      TraceBegan base x →
      TraceBegan base (elim x as (λ _. Option Trace) [ None ↦ None | Some u ↦ marks_on v images p ks u ])
  marks_by ks None h began = tt
  marks_by ks (Some t) h began = h t began

  marks_began : (ks : List Mark) (t : Trace) → BeganWith base t.config.levels →
      TraceBegan base (marks_on v images p ks t)
  marks_began [] t h = h
  marks_began (k ∷ ks) t h = marks_by ks (mark_on v images p k t) (marks_began ks) (mark_began k t h)

-- ---- the calls of a kernel

-- by the point that is asked
replay_began : (v : World) (images : ImageTable) (s : Objects) (p : ℕ) (ks : List Mark) (base : List Need)
    (feed : List ℕ) (ask : Option Point) →
    TraceBegan s.things (elim (begin_with images s p base feed ask) as
    (λ _. Option Trace) [ None ↦ None | Some c ↦ marks_on v images p ks (first_trace c) ])
replay_began v images s p ks base feed None = tt
replay_began v images s p ks base feed (Some a) =
    marks_began v images p s.things ks (first_trace (begin_at images s p base feed a)) refl

call_began_with : (m : Meaning) (k : Kernel) (p : ℕ) (call : Option Call) →
    TraceBegan k.objects.things (trace_of m k p call)
call_began_with m k p None = tt
call_began_with m k p (Some c) = by_marks c.marks
  where
    by_marks : (ks : Option (List Mark)) → TraceBegan k.objects.things (elim ks as (λ _. Option Trace) [
      | None ↦ None
      | Some ks ↦ elim (begin_with k.images k.objects p (m.need k.world k.objects p c.stage) (m.feed c.stage)
          (m.asks k.world k.objects p c.stage)) as (λ _. Option Trace)
          [ None ↦ None | Some f ↦ marks_on k.world k.images p ks (first_trace f) ]
    ])
    by_marks None = tt
    by_marks (Some ks) =
        replay_began k.world k.images k.objects p ks (m.need k.world k.objects p c.stage) (m.feed c.stage)
        (m.asks k.world k.objects p c.stage)

config_began : (w : Things) (x : Option Trace) → TraceBegan w x → ConfigBegan w (config_in x)
config_began w None h = tt
config_began w (Some t) h = h

-- the outermost level of each call found what is committed
pub calls_began : (m : Meaning) (k : Kernel) (p : ℕ) → ConfigBegan k.objects.things (config_of m k p)
calls_began m k p = config_began k.objects.things (trace_of m k p (k.call p)) (call_began_with m k p (k.call p))
