-- What one instruction makes of the levels.
use Rattle.std.specs.Prelude.{◌≡◌, ℕ, ◌+◌, ◌==◌, Bool, true, false, cond, List, [], ◌∷◌, ◌++◌}
use Rattle.std.specs.Prelude.{length, Option, Some, None}
use Rattle.std.proofs.Common.{refl, subst, sym, inl, inr}
use Rattle.kernel_model.specs.declared.Held.{Held}
use Rattle.kernel_model.specs.declared.Kind.TheVariants.{Steps, Records, Locks}
use Rattle.kernel_model.specs.declared.Cause.{Cause}
use Rattle.kernel_model.specs.declared.Cause.TheVariants.{SpentSteps, SpentRecords, SpentLocks, RefusedAnswer}
use Rattle.kernel_model.specs.declared.Inverse.{Inverse}
use Rattle.kernel_model.specs.declared.Need.{Need}
use Rattle.kernel_model.specs.declared.Object.{Object}
use Rattle.kernel_model.specs.declared.Object.TheVariants.{Graft}
use Rattle.kernel_model.specs.World.{World, ImageTable}
use Rattle.kernel_model.specs.Objects.{Objects, Things, GraftValue, with_accounts}
use Rattle.kernel_model.specs.SameObject.{same_object_is}
use Rattle.kernel_model.specs.Machine.{Machine, Done, Called, Returned, Trapped, Outside, PastEnd, seg_step, next_call}
use Rattle.kernel_model.specs.Policies.{valid, kind_of, default_of, args_by}
use Rattle.kernel_model.specs.Charges.{funds, charge}
use Rattle.kernel_model.specs.Access.{Found, bare_found, found_segment, set_segment, Access, Gives}
use Rattle.kernel_model.specs.Access.{Changes, Refuses, access, early_refusal, is_ask, accessed}
use Rattle.kernel_model.specs.Access.{asked_point, asked_objects, asked_graft}
use Rattle.kernel_model.specs.Locks.{is_held_exclusively, Touched, is_held, joined, untouched}
use Rattle.kernel_model.specs.Levels.{Level, Asked, Charged, is_going_on, image_of, keeps_in}
use Rattle.kernel_model.specs.Levels.{code_of, goes_on, new_level, with_machine, with_touched}
use Rattle.kernel_model.specs.Levels.{touch_outermost, outermost_touched, answered}
use Rattle.kernel_model.specs.Levels.{answer_innermost, drop_innermost}
use Rattle.kernel_model.specs.GraftStep.{after_access, is_lock_due, lock_paid, after_result}
use Rattle.kernel_model.specs.GraftStep.{is_record_spent, after_change, after_accessor}
use Rattle.kernel_model.specs.GraftStep.{ask_refusal, ask_answered, after_ask, granted_call}
use Rattle.kernel_model.specs.GraftStep.{after_call, completed, after_keeping, after_answer}
use Rattle.kernel_model.specs.GraftStep.{after_return, after_machine, is_spent, charged_step}
use Rattle.kernel_model.specs.GraftStep.{micro_on, call_needs, instruction_needs, next_needs}
use Rattle.kernel_model.specs.InPlace.{is_changed_in}
use Rattle.kernel_model.specs.Alike.{is_needed, is_needed_exclusively, is_held_in}
use Rattle.kernel_laws.proofs.LevelLemmas.{stronger_left, stronger_right}
use Rattle.graft_laws.specs.Alike.{point_objects, AreHeldBy}
use Rattle.graft_laws.proofs.PointLemmas.{or_left, or_right, needed_before, needed_last}
use Rattle.graft_laws.proofs.PointLemmas.{taken_before, taken_last, needed_cases, asked_each}
use Rattle.graft_laws.proofs.HoldLemmas.{stronger_held, stronger_with, stronger_from}
use Rattle.graft_laws.proofs.HoldLemmas.{touch_all_gives, stronger_changed, touch_all_from}
use Rattle.graft_laws.proofs.HoldLemmas.{touch_all_changed, touch_outermost_from}
use Rattle.graft_laws.proofs.HoldLemmas.{touch_outermost_changed, touch_outermost_takes}
use Rattle.graft_laws.proofs.HoldLemmas.{touch_outermost_outer, outermost_inside, changed_held}
use Rattle.graft_laws.proofs.GrownLemmas.{GrowsFrom, AreGrown, holds_self, grown_self, grown_then}
use Rattle.graft_laws.proofs.GrownLemmas.{grown_answer, grown_touch, grown_held, grown_outermost}
use Rattle.graft_laws.proofs.RangeLemmas.{no_graft, no_graft_asked}
use Rattle.graft_laws.proofs.CalledLemmas.{called_in, step_calls}
use Rattle.graft_laws.proofs.TurnParts.{Shape, Goes, Begins, Joins, Ends, Falls, IsHeldFrom}
use Rattle.graft_laws.proofs.TurnParts.{IsChangedFrom, StandsFrom, Turn, charged_stood}
use Rattle.graft_laws.proofs.TurnParts.{removed_stood, effect_turn, charged_turn, goes_turn}
use Rattle.graft_laws.proofs.TurnParts.{not_going, touches, touched_from}
use Rattle.call_laws.specs.NeedGrafts.{or_cases}

module _ (v : World) where
  drop_turn : (w : Objects) (l : Level) (ls : List Level) (ns : List Need) (cause : Cause) →
      Turn w l ls ns (drop_innermost v w l ls cause)
  drop_turn w l ls ns cause =
      let d = default_of v l.kept l.owner l.point in
      record {
        shape = Falls refl (grown_answer l.point d.0 d.1 ls);
        held = λ o h. inl (or_right (is_held (l.touched o)) (is_held_in ls o) (answered_held l.point d.0 d.1 ls o h));
        stands = removed_stood l.owner l.point w.accounts;
        gets = λ e. not_going e;
        changed =
            λ o h. inl (or_right (is_held_exclusively (l.touched o)) (is_changed_in ls o)
            (answered_changed l.point d.0 d.1 ls o h));
        outer = λ e. not_going e;
        ends = (refl, grown_answer l.point d.0 d.1 ls);
      }
    where
      answered_changed : (pt r0 r1 : ℕ) (ls : List Level) (o : Object) →
          is_changed_in (answer_innermost pt r0 r1 ls) o ≡ true → is_changed_in ls o ≡ true
      answered_changed pt r0 r1 [] o h = h
      answered_changed pt r0 r1 (k ∷ ls) o h = h

      answered_held : (pt r0 r1 : ℕ) (ls : List Level) (o : Object) →
          is_held_in (answer_innermost pt r0 r1 ls) o ≡ true → is_held_in ls o ≡ true
      answered_held pt r0 r1 [] o h = h
      answered_held pt r0 r1 (k ∷ ls) o h = h

  -- ---- accessors

  -- the level after an accessor, with these records
  access_turn : (w x : Objects) (l : Level) (ls : List Level) (m : Machine) (id result : ℕ)
      (is : List Found) → StandsFrom w.accounts x.accounts →
      Turn w l ls (accessed id (l.machine.regs 0) l.owner ∷ [])
      (goes_on x (record (after_access l m id result) { records = is } ∷ ls))
  access_turn w x l ls m id result is stands =
      let ns = accessed id (l.machine.regs 0) l.owner ∷ [] in
      let n = record (after_access l m id result) { records = is } in
      goes_turn w x l n ls ns (touches l n ns refl refl refl refl refl) (λ o h. touch_all_from ns l.touched o h) stands
      (λ o h. touch_all_gives ns l.touched o h) (λ o h. touched_from ns l n o refl h)
      (λ q pt h. no_graft id (l.machine.regs 0) l.owner q pt h)

  lock_turn : (w : Objects) (l : Level) (ls : List Level) (m : Machine) (id result : ℕ) (spent : Bool) →
      Turn w l ls (accessed id (l.machine.regs 0) l.owner ∷ []) (lock_paid v w l ls m id result spent)
  lock_turn w l ls m id result true = drop_turn w l ls (accessed id (l.machine.regs 0) l.owner ∷ []) SpentLocks
  lock_turn w l ls m id result false =
      let x = with_accounts (charge Locks l.owner l.point w.accounts) w in
      effect_turn (Charged l.point Locks) w l ls (accessed id (l.machine.regs 0) l.owner ∷ [])
      (goes_on x (after_access l m id result ∷ ls))
      (access_turn w x l ls m id result l.records (charged_stood Locks l.owner l.point w.accounts))

  result_turn : (w : Objects) (l : Level) (ls : List Level) (m : Machine) (id result : ℕ) (due : Bool) →
      Turn w l ls (accessed id (l.machine.regs 0) l.owner ∷ []) (after_result v w l ls m id result due)
  result_turn w l ls m id result true = lock_turn w l ls m id result (funds w.accounts l.owner l.point Locks == 0)
  result_turn w l ls m id result false = access_turn w w l ls m id result l.records (λ q pt h. h)

  change_turn : (w : Objects) (l : Level) (ls : List Level) (m : Machine) (id result : ℕ)
      (i : Inverse) (y : Things) (spent : Bool) →
      Turn w l ls (accessed id (l.machine.regs 0) l.owner ∷ []) (after_change v w l ls m id result i y spent)
  change_turn w l ls m id result i y true = drop_turn w l ls (accessed id (l.machine.regs 0) l.owner ∷ []) SpentRecords
  change_turn w l ls m id result i y false =
      let x : Objects = record { accounts = charge Records l.owner l.point w.accounts; things = y } in
      effect_turn (Charged l.point Records) w l ls
      (accessed id (l.machine.regs 0) l.owner ∷ []) (goes_on x
      (record (after_access l m id result) { records = bare_found i ∷ l.records } ∷ ls))
      (access_turn w x l ls m id result (bare_found i ∷ l.records) (charged_stood Records l.owner l.point w.accounts))

  accessor_turn : (w : Objects) (l : Level) (ls : List Level) (m : Machine) (id : ℕ) (a : Access) →
      Turn w l ls (accessed id (l.machine.regs 0) l.owner ∷ []) (after_accessor v w l ls m id a)
  accessor_turn w l ls m id (Refuses cause) = drop_turn w l ls (accessed id (l.machine.regs 0) l.owner ∷ []) cause
  accessor_turn w l ls m id (Gives result) = result_turn w l ls m id result (is_lock_due id (l.machine.regs 0) (l ∷ ls))
  accessor_turn w l ls m id (Changes result i y) = change_turn w l ls m id result i y (is_record_spent w.accounts l ls)

  module _ (images : ImageTable) (p : ℕ) where
    -- ---- asks

    answered_turn : (w : Objects) (l : Level) (ls ks : List Level) (ns : List Need) (q pt : ℕ)
        (g : Option GraftValue) → AreGrown ks (l ∷ ls) → IsHeldFrom ns (l ∷ ls) ks →
        AreHeldBy ks (point_objects (kind_of pt) q pt) →
        ((o : Object) → is_needed o ns ≡ true → is_held_in ks o ≡ true) →
        IsChangedFrom ns (l ∷ ls) ks → ((r pu : ℕ) → is_needed (Graft r pu) ns ≡ true →
        outermost_touched ks (Graft r pu) ≡ Held.Exclusive) →
        Turn w l ls ns (ask_answered v images w p q pt ks g)
    answered_turn w l ls ks ns q pt None grown from held gets changed outer =
        let d = default_of v w.things q pt in
        record {
          shape =
              Goes refl (grown_then (answer_innermost pt d.0 d.1 ks) ks
              (l ∷ ls) (grown_answer pt d.0 d.1 ks) grown);
          held = λ o h. from o (answered_held pt d.0 d.1 ks o h);
          stands = λ r pu h. h;
          gets = λ e o h. grown_held (answer_innermost pt d.0 d.1 ks) ks o (grown_answer pt d.0 d.1 ks) (gets o h);
          changed = λ o h. changed o (answered_changed pt d.0 d.1 ks o h);
          outer =
              λ e r pu h. grown_outermost (answer_innermost pt d.0 d.1 ks) ks (Graft r pu)
              (grown_answer pt d.0 d.1 ks) (outer r pu h);
          ends = tt;
        }
      where
        answered_changed : (pt r0 r1 : ℕ) (ls : List Level) (o : Object) →
            is_changed_in (answer_innermost pt r0 r1 ls) o ≡ true → is_changed_in ls o ≡ true
        answered_changed pt r0 r1 [] o h = h
        answered_changed pt r0 r1 (k ∷ ls) o h = h

        answered_held : (pt r0 r1 : ℕ) (ls : List Level) (o : Object) →
            is_held_in (answer_innermost pt r0 r1 ls) o ≡ true → is_held_in ls o ≡ true
        answered_held pt r0 r1 [] o h = h
        answered_held pt r0 r1 (k ∷ ls) o h = h
    answered_turn w l ls ks ns q pt (Some g) grown from held gets changed outer =
        record {
          shape =
              Begins (new_level images w p (length ks) q pt
              (args_by (kind_of pt) v w.things q pt) [] untouched) ks refl refl grown
              (record { touched = refl; records = refl; kept = refl }) held;
          held = λ o h. from o h;
          stands = λ r pu h. h;
          gets = λ e o h. gets o h;
          changed = λ o h. changed o h;
          outer =
              λ e r pu h. outermost_inside (new_level images w p (length ks) q pt
              (args_by (kind_of pt) v w.things q pt) [] untouched) ks (Graft r pu) (outer r pu h);
          ends = tt;
        }

    ask_turn : (w : Objects) (l : Level) (ls : List Level) (m : Machine) (id : ℕ) (c : Option Cause) →
        early_refusal v.callable id (l.machine.regs 0) (l.machine.regs 1) l.owner ≡ None →
        Turn w l ls (asked_objects id (l.machine.regs 0) l.owner ++ asked_graft id (l.machine.regs 0) l.owner ∷ [])
        (after_ask v images w p l ls m id (asked_point id (l.machine.regs 0)) c)
    ask_turn w l ls m id (Some cause) early =
        drop_turn w l ls (asked_objects id (l.machine.regs 0) l.owner ++ asked_graft id
        (l.machine.regs 0) l.owner ∷ []) cause
    ask_turn w l ls m id None early =
        let r0 = l.machine.regs 0 in
        let objects = asked_objects id r0 l.owner in
        let g = asked_graft id r0 l.owner in
        let ns = objects ++ g ∷ [] in
        let pt = asked_point id r0 in
        let asker = with_touched objects (with_machine m l) in
        let ks = touch_outermost g.object (asker ∷ ls) in
        let grows = touches l asker objects refl refl refl refl refl in
        effect_turn (Asked pt) w l ls ns (ask_answered v images w p l.owner pt ks (w.accounts.graft l.owner pt))
        (answered_turn w l ls ks ns l.owner pt (w.accounts.graft l.owner pt)
        (grown_then ks (asker ∷ ls) (l ∷ ls) (grown_touch g.object (asker ∷ ls)) (grows, grown_self ls))
        (λ o h. elim (touch_outermost_from g.object (asker ∷ ls) o h) [
          | inl before ↦ elim (or_cases (is_held (asker.touched o)) (is_held_in ls o) before) [
            | inl here ↦ elim (touch_all_from objects l.touched o here) [
              | inl own ↦ inl (or_left (is_held (l.touched o)) (is_held_in ls o) own)
              | inr needs ↦ inr (needed_before o objects g needs)
            ]
            | inr outer ↦ inl (or_right (is_held (l.touched o)) (is_held_in ls o) outer)
          ]
          | inr same ↦ inr (subst (λ a. is_needed a ns ≡ true)
              (sym (same_object_is o g.object same)) (needed_last objects g))
        ])
        (asked_each (λ o. is_held_in ks o ≡ true) v.callable id r0 (l.machine.regs 1) l.owner early (λ o needs.
        grown_held ks (asker ∷ ls) o
        (grown_touch g.object (asker ∷ ls)) (or_left (is_held (asker.touched o))
        (is_held_in ls o) (touch_all_gives objects l.touched o needs))))
        (λ o h. elim (needed_cases o objects g h) [
          | inl needs ↦ grown_held ks (asker ∷ ls) o
              (grown_touch g.object (asker ∷ ls)) (or_left (is_held (asker.touched o))
              (is_held_in ls o) (touch_all_gives objects l.touched o needs))
          | inr same ↦ subst (λ a. is_held_in ks a ≡ true) (sym (same_object_is o g.object same))
              (changed_held ks g.object (touch_outermost_takes g.object asker ls))
        ])
        (λ o h. elim (touch_outermost_changed g.object (asker ∷ ls) o h) [
          | inl before ↦ elim (or_cases (is_held_exclusively (asker.touched o)) (is_changed_in ls o) before) [
            | inl here ↦ elim (touch_all_changed objects l.touched o here) [
              | inl own ↦ inl (or_left (is_held_exclusively (l.touched o)) (is_changed_in ls o) own)
              | inr needs ↦ inr (taken_before o objects g needs)
            ]
            | inr outer ↦ inl (or_right (is_held_exclusively (l.touched o)) (is_changed_in ls o) outer)
          ]
          | inr same ↦ inr (subst (λ a. is_needed_exclusively a ns ≡ true)
              (sym (same_object_is o g.object same)) (taken_last objects g refl))
        ])
        (λ r pu h. elim (needed_cases (Graft r pu) objects g h) [
          | inl needs ↦ absurd (no_graft_asked id r0 l.owner r pu needs)
          | inr same ↦ subst (λ a. outermost_touched ks a ≡ Held.Exclusive) (sym
              (same_object_is (Graft r pu) g.object same)) (touch_outermost_outer g.object asker ls)
        ]))

    -- ---- calls and answers

    granted_turn : (w : Objects) (l : Level) (ls : List Level) (m : Machine) (id : ℕ) (ask : Bool) →
        early_refusal v.callable id (l.machine.regs 0) (l.machine.regs 1) l.owner ≡ None →
        Turn w l ls (cond ask (asked_objects id (l.machine.regs 0) l.owner ++ asked_graft id
        (l.machine.regs 0) l.owner ∷ []) (accessed id (l.machine.regs 0) l.owner ∷ []))
        (granted_call v images w p l ls m id ask)
    granted_turn w l ls m id true early =
        ask_turn w l ls m id
        (ask_refusal w l.owner (asked_point id (l.machine.regs 0)) id (l ∷ ls)) early
    granted_turn w l ls m id false early =
        accessor_turn w l ls m id
        (access id (l.machine.regs 0) (l.machine.regs 1) (l.machine.regs 2) l.owner w.things)

    call_turn : (w : Objects) (l : Level) (ls : List Level) (m : Machine) (id : ℕ) (c : Option Cause) →
        early_refusal v.callable id (l.machine.regs 0) (l.machine.regs 1) l.owner ≡ c →
        Turn w l ls (call_needs v l id c) (after_call v images w p l ls m id c)
    call_turn w l ls m id (Some cause) early = drop_turn w l ls [] cause
    call_turn w l ls m id None early = granted_turn w l ls m id (is_ask id) early

    completed_turn : (w : Objects) (l : Level) (ls : List Level) → Turn w l ls [] (completed w l ls)
    completed_turn w l [] =
        record {
          shape = Ends refl refl;
          held = λ o h. absurd cc;
          stands = λ q pt h. h;
          changed = λ o h. absurd cc;
          gets = λ e. not_going e;
          outer = λ e. not_going e;
          ends = refl;
        }
    completed_turn w l (a ∷ rest) =
        let b = record a {
          machine = answered (kind_of l.point) (l.machine.regs 0) (l.machine.regs 1) a.machine;
          touched = joined l.touched a.touched;
          records = l.records ++ a.records;
        } in
        record {
          shape = Joins a b rest refl refl refl
              (record {
                owner = refl;
                point = refl;
                args = refl;
                kept = refl;
                holds =
                    record {
                      held = λ o h. stronger_with (l.touched o) (a.touched o) h;
                      exclusive = λ o h. stronger_right (l.touched o) (a.touched o) h;
                    };
              })
              (record {
                held = λ o h. stronger_held (l.touched o) (a.touched o) h;
                exclusive = λ o h. stronger_left (l.touched o) (a.touched o) h;
              });
          held = λ o h. elim (or_cases (is_held (joined l.touched a.touched o)) (is_held_in rest o) h) [
            | inl here ↦ elim (stronger_from (l.touched o) (a.touched o) here) [
              | inl own ↦ inl (or_left (is_held (l.touched o)) (is_held_in (a ∷ rest) o) own)
              | inr asker ↦ inl (or_right (is_held (l.touched o)) (is_held_in (a ∷ rest) o)
                  (or_left (is_held (a.touched o)) (is_held_in rest o) asker))
            ]
            | inr outer ↦ inl (or_right (is_held (l.touched o)) (is_held_in (a ∷ rest) o)
                (or_right (is_held (a.touched o)) (is_held_in rest o) outer))
          ];
          stands = λ q pt h. h;
          changed =
              λ o h. elim (or_cases (is_held_exclusively (joined l.touched a.touched o))
              (is_changed_in rest o) h) [
                | inl here ↦ elim (stronger_changed (l.touched o) (a.touched o) here) [
                  | inl own ↦ inl (or_left (is_held_exclusively (l.touched o)) (is_changed_in (a ∷ rest) o) own)
                  | inr asker ↦
                      inl (or_right (is_held_exclusively (l.touched o)) (is_changed_in (a ∷ rest) o)
                      (or_left (is_held_exclusively (a.touched o)) (is_changed_in rest o) asker))
                ]
                | inr outer ↦
                    inl (or_right (is_held_exclusively (l.touched o)) (is_changed_in (a ∷ rest) o)
                    (or_right (is_held_exclusively (a.touched o)) (is_changed_in rest o) outer))
              ];
          gets = λ e o h. not_going h;
          outer = λ e q pt h. not_going h;
          ends = tt;
        }

    -- from a level like it, of the same graft
    like_shape : (l n : Level) (t : Touched) (ls : List Level) (w : Things) (went : Bool)
        (after : List Level) → GrowsFrom n l → Shape n t ls w went after → Shape l t ls w went after
    like_shape l n t ls w went after like (Goes g h) =
        Goes g (grown_then after (n ∷ ls) (l ∷ ls) h (like, grown_self ls))
    like_shape l n t ls w went after like (Begins m ks g e h new held) =
        Begins m ks g e (grown_then ks (n ∷ ls) (l ∷ ls) h (like, grown_self ls)) new held
    like_shape l n t ls w went after like (Joins a b rest g e f h more) = Joins a b rest g e f h more
    like_shape l n t ls w went after like (Ends g e) = Ends g e
    like_shape l n t ls w went after like (Falls g h) = Falls g h

    -- the segment is kept, or no record can be made
    keeping_turn : (w : Objects) (l : Level) (ls : List Level) (spent : Bool) →
        Turn w l ls [] (after_keeping v w l ls spent)
    keeping_turn w l ls true = drop_turn w l ls [] SpentRecords
    keeping_turn w l ls false =
        let x : Objects = record {
          accounts = charge Records l.owner l.point w.accounts;
          things = set_segment l.owner l.point (Some l.machine.memory) w.things;
        } in
        let n = record l { records = found_segment l.owner l.point w.things ∷ l.records } in
        let o = completed x n ls in
        let h = completed_turn x n ls in
        effect_turn (Charged l.point Records) w l ls [] o
        (record {
          shape =
              like_shape l n l.touched ls o.config.now.things (is_going_on o.said)
              o.config.levels (record {
                owner = refl;
                point = refl;
                args = refl;
                kept = refl;
                holds = holds_self l.touched;
              }) h.shape;
          held = h.held;
          stands = λ q pt e. charged_stood Records l.owner l.point w.accounts q pt (h.stands q pt e);
          changed = h.changed;
          gets = h.gets;
          outer = h.outer;
          ends = h.ends;
        })

    -- an answer that the point accepts
    answer_turn : (w : Objects) (l : Level) (ls : List Level) (keeps : Bool) →
        Turn w l ls [] (after_answer v w l ls keeps)
    answer_turn w l ls true = keeping_turn w l ls (is_record_spent w.accounts l ls)
    answer_turn w l ls false = completed_turn w l ls

    return_turn : (w : Objects) (l : Level) (ls : List Level) (b : Bool) →
        Turn w l ls [] (after_return v images w l ls b)
    return_turn w l ls true = answer_turn w l ls (keeps_in (image_of images (w.accounts.graft l.owner l.point)))
    return_turn w l ls false = drop_turn w l ls [] (RefusedAnswer (l.machine.regs 0) (l.machine.regs 1))

    -- ---- one instruction

    machine_turn : (w : Objects) (l : Level) (ls : List Level) (d : Done) →
        Turn w l ls (instruction_needs v l (called_in d)) (after_machine v images p w l ls d)
    machine_turn w l ls (Done.Went m) =
        goes_turn w w l (with_machine m l)
        ls [] (touches l (with_machine m l) [] refl refl refl refl refl) (λ o h. inl h)
        (λ q pt h. h) (λ o h. not_going h) (λ o h. inl h) (λ q pt h. not_going h)
    machine_turn w l ls (Called id m) =
        call_turn w l ls m id
        (early_refusal v.callable id (l.machine.regs 0) (l.machine.regs 1) l.owner) refl
    machine_turn w l ls Returned =
        return_turn w l ls
        (valid w.things l.owner l.point l.args (l.machine.regs 0) (l.machine.regs 1))
    machine_turn w l ls Done.DividedByZero = drop_turn w l ls [] Cause.DivideByZero
    machine_turn w l ls (Trapped code) = drop_turn w l ls [] (Cause.Trap code)
    machine_turn w l ls Outside = drop_turn w l ls [] Cause.DivideByZero
    machine_turn w l ls PastEnd = drop_turn w l ls [] Cause.DivideByZero

    step_turn : (w : Objects) (l : Level) (ls : List Level) (spent : Bool) →
        Turn w l ls (cond spent [] (instruction_needs v l
        (next_call (code_of images w.accounts l.owner l.point) l.machine)))
        (charged_step v images p w l ls spent)
    step_turn w l ls true = drop_turn w l ls [] SpentSteps
    step_turn w l ls false =
        let x = with_accounts (charge Steps l.owner l.point w.accounts) w in
        let n = record l { count = l.count + 1 } in
        let code = code_of images w.accounts l.owner l.point in
        let d = seg_step code l.machine in
        let h = machine_turn x n ls d in
        let ns = instruction_needs v l (called_in d) in
        let o = after_machine v images p x n ls d in
        subst (λ c. Turn w l ls (instruction_needs v l c) (charged_step v images p w l ls false))
        (step_calls code l.machine)
        (effect_turn (Charged l.point Steps) w l ls ns o
        (charged_turn Steps w l ls ns o
        (record {
          shape = like_shape l n l.touched ls o.config.now.things (is_going_on o.said)
              o.config.levels (record {
                owner = refl;
                point = refl;
                args = refl;
                kept = refl;
                holds = holds_self l.touched;
              }) h.shape;
          held = h.held;
          stands = h.stands;
          changed = h.changed;
          gets = h.gets;
          outer = h.outer;
          ends = h.ends;
        })))

    -- what one instruction makes of levels
    pub levels_turn : (w : Objects) (l : Level) (ls : List Level) →
        Turn w l ls (next_needs v images w.accounts (l ∷ ls)) (micro_on v images p w (l ∷ ls))
    levels_turn w l ls = step_turn w l ls (is_spent w.accounts l)
