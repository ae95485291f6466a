-- An instruction with which the number of levels stays changes how they hold an object only where it needs that.
use Rattle.std.specs.Prelude.{◌≡◌, ℕ, suc, ◌+◌, ◌==◌, ◌||◌, Bool, true, false, cond, List, [], ◌∷◌}
use Rattle.std.specs.Prelude.{◌++◌, length, Option, Some, None}
use Rattle.std.proofs.Common.{arith, refl, sym, ap, ◌∙◌}
use Rattle.kernel_model.specs.declared.Cause.{Cause}
use Rattle.kernel_model.specs.declared.Cause.TheVariants.{RefusedAnswer, SpentSteps, SpentRecords, SpentLocks}
use Rattle.kernel_model.specs.declared.Instr.{Instr}
use Rattle.kernel_model.specs.declared.Mode.{Mode}
use Rattle.kernel_model.specs.declared.Kind.TheVariants.{Steps, Records, Locks}
use Rattle.kernel_model.specs.declared.Need.{Need}
use Rattle.kernel_model.specs.declared.Object.{Object}
use Rattle.kernel_model.specs.World.{World, ImageTable}
use Rattle.kernel_model.specs.Objects.{Objects, GraftValue, same_object, with_accounts}
use Rattle.kernel_model.specs.Machine.{Machine, Done, Called, Returned, Trapped, Outside, PastEnd, seg_step, next_call}
use Rattle.kernel_model.specs.Access.{Access, Gives, Changes, Refuses, access, early_refusal}
use Rattle.kernel_model.specs.Access.{is_ask, accessed, asked_point, asked_objects, asked_graft}
use Rattle.kernel_model.specs.Access.{bare_found, found_segment, set_segment}
use Rattle.kernel_model.specs.Policies.{kind_of, default_of, valid}
use Rattle.kernel_model.specs.Locks.{Touched, stronger, held_as, touch, touch_all}
use Rattle.kernel_model.specs.Charges.{charge, funds}
use Rattle.kernel_model.specs.Levels.{Level, Config, answered, level_at, touched_in, touched_at}
use Rattle.kernel_model.specs.Levels.{with_machine, with_touched, touch_outermost}
use Rattle.kernel_model.specs.Levels.{answer_innermost, code_of, image_of, keeps_in}
use Rattle.kernel_model.specs.Levels.{drop_innermost}
use Rattle.kernel_model.specs.GraftStep.{after_access, lock_paid, is_lock_due, after_result}
use Rattle.kernel_model.specs.GraftStep.{is_record_spent, after_change, after_accessor}
use Rattle.kernel_model.specs.GraftStep.{ask_refusal, ask_answered, after_ask, granted_call}
use Rattle.kernel_model.specs.GraftStep.{after_call, completed, after_keeping, after_answer}
use Rattle.kernel_model.specs.GraftStep.{after_return, after_machine, is_spent, charged_step}
use Rattle.kernel_model.specs.GraftStep.{micro, micro_on, call_needs, instruction_needs}
use Rattle.kernel_model.specs.GraftStep.{next_needs}
use Rattle.kernel_model.specs.Alike.{is_needed}
use Rattle.graft_laws.proofs.HistoryHoldLemmas.{called_next}
use Rattle.graft_laws.proofs.RecordLemmas.{answer_many}
use Rattle.kernel_laws.proofs.ConfigLemmas.{neither}
use Rattle.kernel_laws.proofs.InstructionLemmas.{touched_length}

-- ---- levels that hold alike

pub cons_same : (l k : Level) (ks ls : List Level) (o : Object) → l.touched o ≡ k.touched o →
    length ks ≡ length ls → ((d : ℕ) → touched_at ks d o ≡ touched_at ls d o) →
    (d : ℕ) → touched_at (l ∷ ks) d o ≡ touched_at (k ∷ ls) d o
cons_same l k ks ls o h e tail d =
    ap (λ n. touched_in
    (elim (n == d) as (λ _. Option Level) [ true ↦ Some l | false ↦ level_at d ks ]) o) e
    ∙ by_place (length ls == d)
  where
    by_place : (b : Bool) →
        touched_in (elim b as (λ _. Option Level) [ true ↦ Some l | false ↦ level_at d ks ]) o
        ≡ touched_in (elim b as (λ _. Option Level) [ true ↦ Some k | false ↦ level_at d ls ]) o
    by_place true = h
    by_place false = tail d

-- the innermost alone is another
first_same : (l k : Level) (ls : List Level) (o : Object) → l.touched o ≡ k.touched o → (d : ℕ) →
    touched_at (l ∷ ls) d o ≡ touched_at (k ∷ ls) d o
first_same l k ls o h = cons_same l k ls ls o h refl (λ d. refl)

-- ---- what is touched

touch_other : (n : Need) (t : Touched) (o : Object) → same_object o n.object ≡ false → touch n.object n.mode t o ≡ t o
touch_other n t o h = ap (λ b. cond b (stronger (t o) (held_as n.mode)) (t o)) h

touch_all_other : (ns : List Need) (t : Touched) (o : Object) → is_needed o ns ≡ false → touch_all ns t o ≡ t o
touch_all_other [] t o h = refl
touch_all_other (n ∷ ns) t o h =
    let both = neither (same_object o n.object) (is_needed o ns) h in
    touch_all_other ns (touch n.object n.mode t) o both.1 ∙ touch_other n t o both.0

outermost_other : (n : Need) (ls : List Level) (o : Object) → same_object o n.object ≡ false →
    (d : ℕ) → touched_at (touch_outermost n.object ls) d o ≡ touched_at ls d o
outermost_other n [] o h d = refl
outermost_other n (l ∷ []) o h d =
    first_same (record l { touched = touch n.object Mode.Exclusive l.touched }) l [] o
    (touch_other (record n { mode = Mode.Exclusive }) l.touched o h) d
outermost_other n (l ∷ k ∷ ls) o h d =
    cons_same l l (touch_outermost n.object (k ∷ ls)) (k ∷ ls) o refl
    (touched_length n.object (k ∷ ls)) (outermost_other n (k ∷ ls) o h) d

answered_same : (pt a b : ℕ) (ls : List Level) (o : Object) (d : ℕ) →
    touched_at (answer_innermost pt a b ls) d o ≡ touched_at ls d o
answered_same pt a b [] o d = refl
answered_same pt a b (l ∷ ls) o d = first_same (with_machine (answered (kind_of pt) a b l.machine) l) l ls o refl d

-- the needs of an ask
asked_apart : (o : Object) (ns : List Need) (n : Need) → is_needed o (ns ++ n ∷ []) ≡ false →
    (is_needed o ns ≡ false) × (same_object o n.object ≡ false)
asked_apart o [] n h = let both = neither (same_object o n.object) false h in (refl, both.0)
asked_apart o (x ∷ ns) n h =
    let both = neither (same_object o x.object) (is_needed o (ns ++ n ∷ [])) h in
    let rest = asked_apart o ns n both.1 in
    (ap (λ b. b || is_needed o ns) both.0 ∙ rest.0, rest.1)

-- ---- an instruction

-- as many levels hold an object alike
abbrev HoldAlike : Object → List Level → List Level → Type 0
HoldAlike o ks ls = length ks ≡ length ls → (d : ℕ) → touched_at ks d o ≡ touched_at ls d o

-- a dropped level is gone
fewer : (v : World) (w : Objects) (l k : Level) (ls : List Level) (cause : Cause) (o : Object) →
    HoldAlike o (drop_innermost v w l ls cause).config.levels (k ∷ ls)
fewer v w l k ls cause o same d =
    absurd (no_less (length ls) (sym (answer_many l.point
    (default_of v l.kept l.owner l.point).0 (default_of v l.kept l.owner l.point).1 ls) ∙ same))
  where
    no_less : (n : ℕ) → n ≡ suc n → ⊥
    no_less n h = omega arith

module _ (v : World) (images : ImageTable) (p : ℕ) (o : Object) where
  accessed_alike : (w : Objects) (l : Level) (ls : List Level) (m : Machine) (id : ℕ) (a : Access) →
      is_needed o (accessed id (l.machine.regs 0) l.owner ∷ []) ≡ false →
      HoldAlike o (after_accessor v w l ls m id a).config.levels (l ∷ ls)
  accessed_alike w l ls m id (Refuses cause) h = fewer v w l l ls cause o
  accessed_alike w l ls m id (Gives result) h = by_due (is_lock_due id (l.machine.regs 0) (l ∷ ls))
    where
      by_spent : (b : Bool) → HoldAlike o (lock_paid v w l ls m id result b).config.levels (l ∷ ls)
      by_spent true = fewer v w l l ls SpentLocks o
      by_spent false =
          λ e. first_same (after_access l m id result) l ls o
          (touch_all_other (accessed id (l.machine.regs 0) l.owner ∷ []) l.touched o h)

      by_due : (b : Bool) → HoldAlike o (after_result v w l ls m id result b).config.levels (l ∷ ls)
      by_due true = by_spent (funds w.accounts l.owner l.point Locks == 0)
      by_due false =
          λ e. first_same (after_access l m id result) l ls o
          (touch_all_other (accessed id (l.machine.regs 0) l.owner ∷ []) l.touched o h)
  accessed_alike w l ls m id (Changes result inv things) h = by_spent (is_record_spent w.accounts l ls)
    where
      by_spent : (b : Bool) → HoldAlike o (after_change v w l ls m id result inv things b).config.levels (l ∷ ls)
      by_spent true = fewer v w l l ls SpentRecords o
      by_spent false =
          λ e.
          first_same (record (after_access l m id result) { records = bare_found inv ∷ l.records })
          l ls o (touch_all_other (accessed id (l.machine.regs 0) l.owner ∷ []) l.touched o h)

  -- an ask, whose asker touches some objects and level 0 another
  module _ (w : Objects) (l : Level) (ls : List Level) (m : Machine) (pt : ℕ) (ns : List Need)
      (graft : Need) (apart : (is_needed o ns ≡ false) × (same_object o graft.object ≡ false)) where
    abbrev asker : Level
    asker = with_touched ns (with_machine m l)

    abbrev touched : List Level
    touched = touch_outermost graft.object (asker ∷ ls)

    answered_alike : (g : Option GraftValue) →
        HoldAlike o (ask_answered v images w p l.owner pt touched g).config.levels (l ∷ ls)
    answered_alike (Some g) e d =
        absurd (no_more (length touched) (length ls) (touched_length graft.object (asker ∷ ls)) e)
      where
        no_more : (n k : ℕ) → n ≡ suc k → suc n ≡ suc k → ⊥
        no_more n k e f = omega (arith, e, f)
    answered_alike None e d =
        answered_same pt (default_of v w.things l.owner pt).0 (default_of v w.things l.owner pt).1 touched o d
        ∙ outermost_other graft (asker ∷ ls) o apart.1 d
        ∙ first_same asker l ls o (touch_all_other ns l.touched o apart.0) d

  asked_alike : (w : Objects) (l : Level) (ls : List Level) (m : Machine) (id : ℕ) →
      is_needed o (asked_objects id (l.machine.regs 0) l.owner ++ asked_graft id (l.machine.regs 0)
      l.owner ∷ []) ≡ false →
      (x : Option Cause) → HoldAlike o (after_ask v images w p l ls m id
      (asked_point id (l.machine.regs 0)) x).config.levels (l ∷ ls)
  asked_alike w l ls m id h (Some cause) = fewer v w l l ls cause o
  asked_alike w l ls m id h None =
      let pt = asked_point id (l.machine.regs 0) in
      let ns = asked_objects id (l.machine.regs 0) l.owner in
      let graft = asked_graft id (l.machine.regs 0) l.owner in
      answered_alike w l ls m pt ns graft (asked_apart o ns graft h) (w.accounts.graft l.owner pt)

  called_alike : (w : Objects) (l : Level) (ls : List Level) (m : Machine) (id : ℕ)
      (x : Option Cause) → is_needed o (call_needs v l id x) ≡ false →
      HoldAlike o (after_call v images w p l ls m id x).config.levels (l ∷ ls)
  called_alike w l ls m id (Some cause) h = fewer v w l l ls cause o
  called_alike w l ls m id None h = by_ask (is_ask id) h
    where
      by_ask : (b : Bool) →
          is_needed o (cond b (asked_objects id (l.machine.regs 0) l.owner ++ asked_graft id
          (l.machine.regs 0) l.owner ∷ []) (accessed id (l.machine.regs 0) l.owner ∷ [])) ≡ false →
          HoldAlike o (granted_call v images w p l ls m id b).config.levels (l ∷ ls)
      by_ask true h = asked_alike w l ls m id h (ask_refusal w l.owner (asked_point id (l.machine.regs 0)) id (l ∷ ls))
      by_ask false h =
          accessed_alike w l ls m id
          (access id (l.machine.regs 0) (l.machine.regs 1) (l.machine.regs 2) l.owner w.things) h

  -- a level that ends is gone
  completed_alike : (w : Objects) (n l : Level) (ls : List Level) →
      HoldAlike o (completed w n ls).config.levels (l ∷ ls)
  completed_alike w n l [] = λ e. absurd (no_less 0 e)
    where
      no_less : (n : ℕ) → n ≡ suc n → ⊥
      no_less n h = omega arith
  completed_alike w n l (k ∷ ks) = λ e. absurd (no_less (suc (length ks)) e)
    where
      no_less : (n : ℕ) → n ≡ suc n → ⊥
      no_less n h = omega arith

  returned_alike : (w : Objects) (l : Level) (ls : List Level) (b : Bool) →
      HoldAlike o (after_return v images w l ls b).config.levels (l ∷ ls)
  returned_alike w l ls false = fewer v w l l ls (RefusedAnswer (l.machine.regs 0) (l.machine.regs 1)) o
  returned_alike w l ls true = by_keeps (keeps_in (image_of images (w.accounts.graft l.owner l.point)))
    where
      by_spent : (b : Bool) → HoldAlike o (after_keeping v w l ls b).config.levels (l ∷ ls)
      by_spent true = fewer v w l l ls SpentRecords o
      by_spent false =
          completed_alike (record {
            accounts = charge Records l.owner l.point w.accounts;
            things = set_segment l.owner l.point (Some l.machine.memory) w.things;
          })
          (record l { records = found_segment l.owner l.point w.things ∷ l.records }) l ls

      by_keeps : (b : Bool) → HoldAlike o (after_answer v w l ls b).config.levels (l ∷ ls)
      by_keeps true = by_spent (is_record_spent w.accounts l ls)
      by_keeps false = completed_alike w l l ls

  done_alike : (w : Objects) (l : Level) (ls : List Level) (code : List Instr) (x : Done) →
      seg_step code l.machine ≡ x →
      is_needed o (instruction_needs v l (next_call code l.machine)) ≡ false →
      HoldAlike o (after_machine v images p w l ls x).config.levels (l ∷ ls)
  done_alike w l ls code (Done.Went m) e h = λ same. first_same (with_machine m l) l ls o refl
  done_alike w l ls code (Called id m) e h =
      called_alike w l ls m id (early_refusal v.callable id (l.machine.regs 0) (l.machine.regs 1) l.owner)
      (sym (ap (λ x. is_needed o (instruction_needs v l x)) (called_next code l.machine m id e)) ∙ h)
  done_alike w l ls code Returned e h =
      returned_alike w l ls
      (valid w.things l.owner l.point l.args (l.machine.regs 0) (l.machine.regs 1))
  done_alike w l ls code Done.DividedByZero e h = fewer v w l l ls Cause.DivideByZero o
  done_alike w l ls code (Trapped n) e h = fewer v w l l ls (Cause.Trap n) o
  done_alike w l ls code Outside e h = fewer v w l l ls Cause.DivideByZero o
  done_alike w l ls code PastEnd e h = fewer v w l l ls Cause.DivideByZero o

  -- an instruction leaves how the levels hold what it doesn't need
  levels_alike : (w : Objects) (ls : List Level) →
      is_needed o (next_needs v images w.accounts ls) ≡ false →
      HoldAlike o (micro_on v images p w ls).config.levels ls
  levels_alike w [] h = λ e d. refl
  levels_alike w (l ∷ ls) h = by_spent (is_spent w.accounts l) h
    where
      by_spent : (b : Bool) → is_needed o (cond b [] (instruction_needs v l
          (next_call (code_of images w.accounts l.owner l.point) l.machine))) ≡ false →
          HoldAlike o (charged_step v images p w l ls b).config.levels (l ∷ ls)
      by_spent true h = fewer v w l l ls SpentSteps o
      by_spent false h = λ e d.
          done_alike (with_accounts (charge Steps l.owner l.point w.accounts) w)
          (record l { count = l.count + 1 }) ls (code_of images w.accounts l.owner l.point)
          (seg_step (code_of images w.accounts l.owner l.point) l.machine) refl h e d
          ∙ first_same (record l { count = l.count + 1 }) l ls o refl d

  pub instruction_alike : (c : Config) →
      is_needed o (next_needs v images c.now.accounts c.levels) ≡ false →
      HoldAlike o (micro v images p c).config.levels c.levels
  instruction_alike c h = levels_alike c.now c.levels h
