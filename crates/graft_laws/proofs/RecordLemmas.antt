-- What a level found is what undoing its records gives, and it or a level outside it holds
-- exclusively what they changed.
use Rattle.std.specs.Prelude.{◌≡◌, ℕ, suc, ◌+◌, ◌≤◌, ◌==◌, ◌||◌, Bool, true, false, List, []}
use Rattle.std.specs.Prelude.{◌∷◌, length, Option, Some, None, ⊤}
use Rattle.std.proofs.Common.{arith, refl, subst, sym, ap, ◌∙◌, inl, inr}
use Rattle.std.proofs.lemmas.Bool.{cases_Bool}
use Rattle.kernel_model.specs.declared.Cause.{Cause}
use Rattle.kernel_model.specs.declared.Held.{Held}
use Rattle.kernel_model.specs.declared.Inverse.{Inverse}
use Rattle.kernel_model.specs.declared.Kind.TheVariants.{Steps, Records, Locks}
use Rattle.kernel_model.specs.declared.Micro.{Micro}
use Rattle.kernel_model.specs.declared.Mode.{Mode}
use Rattle.kernel_model.specs.declared.Need.{Need}
use Rattle.kernel_model.specs.declared.Object.{Object}
use Rattle.kernel_model.specs.declared.Object.TheVariants.{Graft}
use Rattle.kernel_model.specs.World.{World, ImageTable}
use Rattle.kernel_model.specs.Objects.{Objects, Things, GraftValue, with_accounts}
use Rattle.kernel_model.specs.Machine.{Machine, Done, Called, Returned, Trapped, Outside, PastEnd, seg_step}
use Rattle.kernel_model.specs.Policies.{valid, default_of}
use Rattle.kernel_model.specs.Access.{Access, Gives, Changes, Refuses, access, early_refusal}
use Rattle.kernel_model.specs.Access.{is_ask, accessed, needed, asked_point, asked_objects, undo}
use Rattle.kernel_model.specs.Access.{bare_found, found_segment, set_segment}
use Rattle.kernel_model.specs.Access.{object_of_inverse}
use Rattle.kernel_model.specs.Charges.{funds, charge}
use Rattle.kernel_model.specs.Locks.{touch, joined, is_held_exclusively}
use Rattle.kernel_model.specs.Levels.{Level, Config, Effect, Asked, Charged, Removed, Outcome}
use Rattle.kernel_model.specs.Levels.{code_of, with_machine, with_touched, touch_outermost}
use Rattle.kernel_model.specs.Levels.{answer_innermost, image_of, keeps_in}
use Rattle.kernel_model.specs.GraftStep.{after_access, is_lock_due, lock_paid, after_result}
use Rattle.kernel_model.specs.GraftStep.{is_record_spent, after_change, after_accessor}
use Rattle.kernel_model.specs.GraftStep.{ask_refusal, ask_answered, after_ask, granted_call}
use Rattle.kernel_model.specs.GraftStep.{after_call, completed, after_keeping, after_answer}
use Rattle.kernel_model.specs.GraftStep.{after_return, after_machine, is_spent, charged_step}
use Rattle.kernel_model.specs.GraftStep.{micro_on}
use Rattle.kernel_model.specs.UndoLog.{undo_all}
use Rattle.kernel_model.specs.InPlace.{is_changed_in}
use Rattle.kernel_model.specs.Sound.{count_of, in_queue}
use Rattle.kernel_laws.specs.Undoing.{IsOnceIn, LeadsBack, InversesUndo, ChangesItsObject, ChangesAreOfOneObject}
use Rattle.kernel_laws.proofs.LevelLemmas.{held_so, inner_changed, outside_changed, HoldsOn}
use Rattle.kernel_laws.proofs.UndoingLemmas.{undo_count, segment_back}
use Rattle.graft_laws.proofs.HoldLemmas.{touch_outermost_takes}
use Rattle.graft_laws.proofs.HistoryEffectLemmas.{levels_by, IsOf}
use Rattle.graft_laws.proofs.InverseLemmas.{AllPass, pass_both, pass_more}
use Rattle.kernel_laws.proofs.InstructionLemmas.{touched_length}
use Rattle.kernel_laws.proofs.LevelLemmas.{stronger_left, stronger_right, touch_holds, touch_here}
use Rattle.kernel_laws.proofs.LevelLemmas.{touch_all_holds}
use Rattle.kernel_laws.proofs.ConfigLemmas.{undo_both}

-- ---- holds

-- ---- what undoing tells

-- some of these levels holds exclusively what some of those does
abbrev pub ChangesOn : List Level → List Level → Type 0
ChangesOn ls ks = (o : Object) → is_changed_in ks o ≡ true → is_changed_in ls o ≡ true

-- each level found what undoing its records, and those further inward, gives, and it or a level
-- outside it holds their objects exclusively
abbrev pub FoundByUndoing : Things → List Level → Type 0
FoundByUndoing w [] = ⊤
FoundByUndoing w (l ∷ ls) =
    (l.kept ≡ undo_all l.records w) × AllPass (is_changed_in (l ∷ ls)) l.records
    × FoundByUndoing l.kept ls

-- each level or one outside it holds the level's graft exclusively
abbrev pub HoldGrafts : List Level → Type 0
HoldGrafts [] = ⊤
HoldGrafts (l ∷ ls) = (is_changed_in (l ∷ ls) (Graft l.owner l.point) ≡ true) × HoldGrafts ls

-- the innermost level found these things
abbrev pub StartsAt : Things → List Level → Type 0
StartsAt w [] = ⊤
StartsAt w (l ∷ ls) = l.kept ≡ w

-- the same, where their grafts are held and a process stands in the queue at most once
pub record CanBeUndone (w : Things) (ls : List Level) : Type 0 where
  pub found : FoundByUndoing w ls
  pub grafts : HoldGrafts ls
  pub once : (q : ℕ) → IsOnceIn q w.queue

-- a call that had so many levels can be undone, and where it has one more this has just begun
pub record CanBeUndoneAfter (n : ℕ) (c : Config) : Type 0 where
  pub can : CanBeUndone c.now.things c.levels
  pub begins : length c.levels ≡ suc n → StartsAt c.now.things c.levels

-- the same where the call goes on
abbrev pub WhereWent : ℕ → Micro → Config → Type 0
WhereWent n Micro.Went c = CanBeUndoneAfter n c
WhereWent n said c = ⊤

-- ---- levels that keep what they have

-- a level that holds on, and those outside it
changed_first : (n l : Level) (ls ks : List Level) → HoldsOn n.touched l.touched → ChangesOn ls ks →
    ChangesOn (n ∷ ls) (l ∷ ks)
changed_first n l ls ks more outside o h = elim (cases_Bool (is_held_exclusively (l.touched o))) [
  | inl own ↦ inner_changed n ls o (more o (held_so (l.touched o) own))
  | inr other ↦ outside_changed n ls o (outside o (sym (ap (λ b. b || is_changed_in ks o) other) ∙ h))
]

-- a level that ends leaves what it holds to its asker
changed_joined : (n l k : Level) (ls : List Level) → HoldsOn n.touched l.touched →
    HoldsOn n.touched k.touched → ChangesOn (n ∷ ls) (l ∷ k ∷ ls)
changed_joined n l k ls own asker o h = elim (cases_Bool (is_held_exclusively (l.touched o))) [
  | inl held ↦ inner_changed n ls o (own o (held_so (l.touched o) held))
  | inr other ↦ changed_first n k ls ls asker (λ x e. e) o (sym (ap (λ b. b || is_changed_in (k ∷ ls) o) other) ∙ h)
]

changed_touch : (o : Object) (ls : List Level) → ChangesOn (touch_outermost o ls) ls
changed_touch o [] x h = h
changed_touch o (l ∷ []) x h =
    changed_first (record l { touched = touch o Mode.Exclusive l.touched })
    l [] [] (touch_holds o Mode.Exclusive l.touched) (λ y e. e) x h
changed_touch o (l ∷ k ∷ ls) x h =
    changed_first l l
    (touch_outermost o (k ∷ ls)) (k ∷ ls) (λ y e. e) (changed_touch o (k ∷ ls)) x h

found_touch : (o : Object) (w : Things) (ls : List Level) → FoundByUndoing w ls →
    FoundByUndoing w (touch_outermost o ls)
found_touch o w [] h = tt
found_touch o w (l ∷ []) h = (
  h.0,
  pass_more (is_changed_in (l ∷ [])) (is_changed_in (touch_outermost o (l ∷ []))) l.records
      (changed_touch o (l ∷ [])) h.1,
  tt,
)
found_touch o w (l ∷ k ∷ ls) h = (
  h.0,
  pass_more (is_changed_in (l ∷ k ∷ ls)) (is_changed_in (touch_outermost o (l ∷ k ∷ ls))) l.records
      (changed_touch o (l ∷ k ∷ ls)) h.1,
  found_touch o l.kept (k ∷ ls) h.2,
)

grafts_touch : (o : Object) (ls : List Level) → HoldGrafts ls → HoldGrafts (touch_outermost o ls)
grafts_touch o [] h = tt
grafts_touch o (l ∷ []) h = (changed_touch o (l ∷ []) (Graft l.owner l.point) h.0, tt)
grafts_touch o (l ∷ k ∷ ls) h = (changed_touch o (l ∷ k ∷ ls) (Graft l.owner l.point) h.0, grafts_touch o (k ∷ ls) h.1)

pub found_answer : (pt r0 r1 : ℕ) (w : Things) (ls : List Level) → FoundByUndoing w ls →
    FoundByUndoing w (answer_innermost pt r0 r1 ls)
found_answer pt r0 r1 w [] h = tt
found_answer pt r0 r1 w (l ∷ ls) h = h

pub grafts_answer : (pt r0 r1 : ℕ) (ls : List Level) → HoldGrafts ls → HoldGrafts (answer_innermost pt r0 r1 ls)
grafts_answer pt r0 r1 [] h = tt
grafts_answer pt r0 r1 (l ∷ ls) h = h

pub found_effects : (q : ℕ) (es : List Effect) (w : Things) (ls : List Level) →
    FoundByUndoing w ls → FoundByUndoing w (levels_by q es ls)
found_effects q [] w ls h = h
found_effects q (Asked pt ∷ es) w ls h =
    found_effects q es w (touch_outermost (Graft q pt) ls) (found_touch (Graft q pt) w ls h)
found_effects q (Charged pt k ∷ es) w ls h = found_effects q es w ls h
found_effects q (Removed pt ∷ es) w ls h = found_effects q es w ls h

pub grafts_effects : (q : ℕ) (es : List Effect) (ls : List Level) → HoldGrafts ls → HoldGrafts (levels_by q es ls)
grafts_effects q [] ls h = h
grafts_effects q (Asked pt ∷ es) ls h =
    grafts_effects q es (touch_outermost (Graft q pt) ls) (grafts_touch (Graft q pt) ls h)
grafts_effects q (Charged pt k ∷ es) ls h = grafts_effects q es ls h
grafts_effects q (Removed pt ∷ es) ls h = grafts_effects q es ls h

pub answer_many : (pt r0 r1 : ℕ) (ls : List Level) → length (answer_innermost pt r0 r1 ls) ≡ length ls
answer_many pt r0 r1 [] = refl
answer_many pt r0 r1 (l ∷ ls) = refl

-- ---- one instruction

-- another number
not_one_more : (n m : ℕ) → n ≡ m → n ≡ suc m → ⊥
not_one_more n m e f = omega arith

module _ (undoes : InversesUndo) (own : ChangesAreOfOneObject) (v : World) where
  -- an outcome of a call that had n levels
  abbrev IsWell : ℕ → Outcome → Type 0
  IsWell n r = WhereWent n r.said r.config

  -- the same level goes on with what it has
  stays_well : (w : Objects) (l n : Level) (ls : List Level) → CanBeUndone w.things (l ∷ ls) →
      IsOf n l → n.records ≡ l.records → HoldsOn n.touched l.touched →
      CanBeUndoneAfter (suc (length ls)) (record { now = w; levels = n ∷ ls })
  stays_well w l n ls h same records more =
      record {
        can = record {
          found = (
            same.found ∙ h.found.0 ∙ ap (λ is. undo_all is w.things) (sym records),
            pass_more (is_changed_in (l ∷ ls)) (is_changed_in (n ∷ ls)) n.records holds
                (subst (AllPass (is_changed_in (l ∷ ls))) (sym records) h.found.1),
            subst (λ x. FoundByUndoing x ls) (sym same.found) h.found.2,
          );
          grafts = (
            ap (λ q. is_changed_in (n ∷ ls) (Graft q n.point)) same.owner
                ∙ ap (λ pt. is_changed_in (n ∷ ls) (Graft l.owner pt)) same.point
                ∙ holds (Graft l.owner l.point) h.grafts.0,
            h.grafts.1,
          );
          once = h.once;
        };
        begins = λ e. absurd (not_one_more (suc (length ls)) (suc (length ls)) refl e);
      }
    where
      holds : ChangesOn (n ∷ ls) (l ∷ ls)
      holds = changed_first n l ls ls more (λ o e. e)

  access_well : (w : Objects) (l : Level) (ls : List Level) (m : Machine) (id result : ℕ) →
      CanBeUndone w.things (l ∷ ls) →
      CanBeUndoneAfter (suc (length ls)) (record { now = w; levels = after_access l m id result ∷ ls })
  access_well w l ls m id result h =
      stays_well w l (after_access l m id result) ls h
      (record { owner = refl; point = refl; found = refl }) refl
      (touch_all_holds (accessed id (l.machine.regs 0) l.owner ∷ []) l.touched)

  lock_well : (w : Objects) (l : Level) (ls : List Level) (m : Machine) (id result : ℕ)
      (spent : Bool) → CanBeUndone w.things (l ∷ ls) →
      IsWell (suc (length ls)) (lock_paid v w l ls m id result spent)
  lock_well w l ls m id result true h = tt
  lock_well w l ls m id result false h =
      access_well (with_accounts (charge Locks l.owner l.point w.accounts) w) l ls m id result h

  result_well : (w : Objects) (l : Level) (ls : List Level) (m : Machine) (id result : ℕ)
      (due : Bool) → CanBeUndone w.things (l ∷ ls) →
      IsWell (suc (length ls)) (after_result v w l ls m id result due)
  result_well w l ls m id result true h = lock_well w l ls m id result (funds w.accounts l.owner l.point Locks == 0) h
  result_well w l ls m id result false h = access_well w l ls m id result h

  change_well : (w : Objects) (l : Level) (ls : List Level) (m : Machine) (id result : ℕ)
      (i : Inverse) (u : Things) (spent : Bool) → CanBeUndone w.things (l ∷ ls) →
      undo (bare_found i) u ≡ w.things →
      accessed id (l.machine.regs 0) l.owner ≡ needed (object_of_inverse i) Mode.Exclusive →
      IsWell (suc (length ls)) (after_change v w l ls m id result i u spent)
  change_well w l ls m id result i u true h leads needs = tt
  change_well w l ls m id result i u false h leads needs =
      let n = after_access l m id result in
      let holds : ChangesOn (n ∷ ls) (l ∷ ls) = changed_first n l ls ls
      (touch_all_holds (accessed id (l.machine.regs 0) l.owner ∷ []) l.touched) (λ o e. e) in
      record {
        can = record {
          found = (
            h.found.0 ∙ ap (undo_all l.records) (sym leads),
            (
              inner_changed n ls (object_of_inverse i)
                  (subst (λ (x : Need). touch x.object x.mode l.touched (object_of_inverse i)
                  ≡ Held.Exclusive) (sym needs) (touch_here (object_of_inverse i) l.touched)),
              pass_more (is_changed_in (l ∷ ls)) (is_changed_in (n ∷ ls)) l.records holds h.found.1,
            ),
            h.found.2,
          );
          grafts = (holds (Graft l.owner l.point) h.grafts.0, h.grafts.1);
          once =
              λ q. subst (λ k. k ≤ 1) (ap (λ (x : Things). count_of q (in_queue x.queue))
              (sym leads) ∙ undo_count (bare_found i) q u) (h.once q);
        };
        begins = λ e. absurd (not_one_more (suc (length ls)) (suc (length ls)) refl e);
      }

  accessor_well : (w : Objects) (l : Level) (ls : List Level) (m : Machine) (id : ℕ) (x : Access) →
      CanBeUndone w.things (l ∷ ls) → LeadsBack w.things x →
      ChangesItsObject id (l.machine.regs 0) l.owner w.things x →
      IsWell (suc (length ls)) (after_accessor v w l ls m id x)
  accessor_well w l ls m id (Refuses cause) h leads changes = tt
  accessor_well w l ls m id (Gives result) h leads changes =
      result_well w l ls m id result (is_lock_due id (l.machine.regs 0) (l ∷ ls)) h
  accessor_well w l ls m id (Changes result i u) h leads changes =
      change_well w l ls m id result i u (is_record_spent w.accounts l ls) h leads changes.0

  module _ (images : ImageTable) (p : ℕ) where
    -- ---- asks

    -- by whether a graft stands at the point
    answered_well : (w : Objects) (n q pt : ℕ) (ks : List Level) (g : Option GraftValue) →
        length ks ≡ n → is_changed_in ks (Graft q pt) ≡ true →
        CanBeUndone w.things ks → IsWell n (ask_answered v images w p q pt ks g)
    answered_well w n q pt ks None many held h =
        let d = default_of v w.things q pt in
        record {
          can =
              record {
                found = found_answer pt d.0 d.1 w.things ks h.found;
                grafts = grafts_answer pt d.0 d.1 ks h.grafts;
                once = h.once;
              };
          begins =
              λ e. absurd (not_one_more (length (answer_innermost pt d.0 d.1 ks)) n
              (answer_many pt d.0 d.1 ks ∙ many) e);
        }
    answered_well w n q pt ks (Some g) many held h =
        record {
          can = record { found = (refl, tt, h.found); grafts = (held, h.grafts); once = h.once };
          begins = λ e. refl;
        }

    ask_well : (w : Objects) (l : Level) (ls : List Level) (m : Machine) (id : ℕ)
        (x : Option Cause) → CanBeUndone w.things (l ∷ ls) →
        IsWell (suc (length ls)) (after_ask v images w p l ls m id (asked_point id (l.machine.regs 0)) x)
    ask_well w l ls m id (Some cause) h = tt
    ask_well w l ls m id None h =
        let pt = asked_point id (l.machine.regs 0) in
        let asker = with_touched (asked_objects id (l.machine.regs 0) l.owner) (with_machine m l) in
        let o = Graft l.owner pt in
        let holds : ChangesOn (asker ∷ ls) (l ∷ ls) = changed_first asker l ls ls
        (touch_all_holds (asked_objects id (l.machine.regs 0) l.owner) l.touched) (λ x e. e) in
        let held = pass_more (is_changed_in (l ∷ ls)) (is_changed_in (asker ∷ ls)) l.records holds h.found.1 in
        answered_well w (suc (length ls)) l.owner pt
        (touch_outermost o (asker ∷ ls)) (w.accounts.graft l.owner pt)
        (touched_length o (asker ∷ ls)) (touch_outermost_takes o asker ls)
        (record {
          found = found_touch o w.things (asker ∷ ls) (h.found.0, held, h.found.2);
          grafts = grafts_touch o (asker ∷ ls) (holds (Graft l.owner l.point) h.grafts.0, h.grafts.1);
          once = h.once;
        })

    -- ---- calls and answers

    granted_well : (w : Objects) (l : Level) (ls : List Level) (m : Machine) (id : ℕ) (ask : Bool) →
        CanBeUndone w.things (l ∷ ls) →
        IsWell (suc (length ls)) (granted_call v images w p l ls m id ask)
    granted_well w l ls m id true h =
        ask_well w l ls m id
        (ask_refusal w l.owner (asked_point id (l.machine.regs 0)) id (l ∷ ls)) h
    granted_well w l ls m id false h =
        accessor_well w l ls m id
        (access id (l.machine.regs 0) (l.machine.regs 1) (l.machine.regs 2) l.owner w.things) h
        (undoes id (l.machine.regs 0) (l.machine.regs 1) (l.machine.regs 2) l.owner w.things (h.once l.owner))
        (own id (l.machine.regs 0) (l.machine.regs 1) (l.machine.regs 2) l.owner w.things)

    call_well : (w : Objects) (l : Level) (ls : List Level) (m : Machine) (id : ℕ)
        (x : Option Cause) → CanBeUndone w.things (l ∷ ls) →
        IsWell (suc (length ls)) (after_call v images w p l ls m id x)
    call_well w l ls m id (Some cause) h = tt
    call_well w l ls m id None h = granted_well w l ls m id (is_ask id) h

    -- the innermost level's records go to its asker
    completed_well : (w : Objects) (l : Level) (ls : List Level) → CanBeUndone w.things (l ∷ ls) →
        IsWell (suc (length ls)) (completed w l ls)
    completed_well w l [] h = tt
    completed_well w l (asker ∷ rest) h =
        let n : Level = record asker { touched = joined l.touched asker.touched } in
        let asks : HoldsOn n.touched asker.touched = λ o e. stronger_right (l.touched o) (asker.touched o) e in
        let all : ChangesOn (n ∷ rest) (l ∷ asker ∷ rest) = changed_joined n l asker rest
        (λ o e. stronger_left (l.touched o) (asker.touched o) e) asks in
        let outer : ChangesOn (n ∷ rest) (asker ∷ rest) = changed_first n asker rest rest asks (λ o e. e) in
        record {
          can = record {
            found = (
              h.found.2.0 ∙ ap (undo_all asker.records) h.found.0 ∙ sym (undo_both l.records asker.records w.things),
              pass_both (is_changed_in (n ∷ rest)) l.records asker.records
                  (pass_more (is_changed_in (l ∷ asker ∷ rest)) (is_changed_in (n ∷ rest)) l.records all h.found.1)
                  (pass_more (is_changed_in (asker ∷ rest)) (is_changed_in (n ∷ rest)) asker.records outer h.found.2.1),
              h.found.2.2,
            );
            grafts = (outer (Graft asker.owner asker.point) h.grafts.1.0, h.grafts.1.1);
            once = h.once;
          };
          begins = λ e. absurd (fewer (length rest) e);
        }
      where
        fewer : (n : ℕ) → suc n ≡ suc (suc (suc n)) → ⊥
        fewer n e = omega arith

    -- what was kept is recorded, of a graft that is held
    keeping_well : (w : Objects) (l : Level) (ls : List Level) (spent : Bool) →
        CanBeUndone w.things (l ∷ ls) → IsWell (suc (length ls)) (after_keeping v w l ls spent)
    keeping_well w l ls true h = tt
    keeping_well w l ls false h =
        let bytes = Some l.machine.memory in
        let u : Objects = record {
          accounts = charge Records l.owner l.point w.accounts;
          things = set_segment l.owner l.point bytes w.things;
        } in
        completed_well u (record l { records = found_segment l.owner l.point w.things ∷ l.records }) ls
        (record {
          found = (
            h.found.0 ∙ ap (undo_all l.records) (sym
                (segment_back l.owner l.point bytes w.things)),
            (h.grafts.0, h.found.1),
            h.found.2,
          );
          grafts = h.grafts;
          once = h.once;
        })

    answer_well : (w : Objects) (l : Level) (ls : List Level) (keeps : Bool) →
        CanBeUndone w.things (l ∷ ls) → IsWell (suc (length ls)) (after_answer v w l ls keeps)
    answer_well w l ls true h = keeping_well w l ls (is_record_spent w.accounts l ls) h
    answer_well w l ls false h = completed_well w l ls h

    return_well : (w : Objects) (l : Level) (ls : List Level) (b : Bool) →
        CanBeUndone w.things (l ∷ ls) → IsWell (suc (length ls)) (after_return v images w l ls b)
    return_well w l ls true h = answer_well w l ls (keeps_in (image_of images (w.accounts.graft l.owner l.point))) h
    return_well w l ls false h = tt

    -- ---- one instruction

    machine_well : (w : Objects) (l : Level) (ls : List Level) (x : Done) →
        CanBeUndone w.things (l ∷ ls) → IsWell (suc (length ls)) (after_machine v images p w l ls x)
    machine_well w l ls (Done.Went m) h =
        stays_well w l (with_machine m l) ls h (record { owner = refl; point = refl; found = refl })
        refl (λ o e. e)
    machine_well w l ls (Called id m) h =
        call_well w l ls m id
        (early_refusal v.callable id (l.machine.regs 0) (l.machine.regs 1) l.owner) h
    machine_well w l ls Returned h =
        return_well w l ls
        (valid w.things l.owner l.point l.args (l.machine.regs 0) (l.machine.regs 1)) h
    machine_well w l ls Done.DividedByZero h = tt
    machine_well w l ls (Trapped code) h = tt
    machine_well w l ls Outside h = tt
    machine_well w l ls PastEnd h = tt

    step_well : (w : Objects) (l : Level) (ls : List Level) (spent : Bool) →
        CanBeUndone w.things (l ∷ ls) →
        IsWell (suc (length ls)) (charged_step v images p w l ls spent)
    step_well w l ls true h = tt
    step_well w l ls false h =
        machine_well (with_accounts (charge Steps l.owner l.point w.accounts) w) (record l { count = l.count + 1 }) ls
        (seg_step (code_of images w.accounts l.owner l.point) l.machine)
        (record { found = h.found; grafts = h.grafts; once = h.once })

    -- an instruction of a call that can be undone leaves one
    pub instruction_well : (w : Objects) (ls : List Level) → CanBeUndone w.things ls →
        IsWell (length ls) (micro_on v images p w ls)
    instruction_well w [] h = record { can = h; begins = λ e. tt }
    instruction_well w (l ∷ ls) h = step_well w l ls (is_spent w.accounts l) h
