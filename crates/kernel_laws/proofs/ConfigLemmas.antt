-- A sound graft call is sound after each instruction that doesn't end it.
use Rattle.std.specs.Prelude.{◌≡◌, ℕ, suc, ◌+◌, ◌<◌, ◌≤◌, ◌==◌, ◌&&◌, ◌||◌, Bool, true, false}
use Rattle.std.specs.Prelude.{cond, List, [], ◌∷◌, ◌++◌, length, Option, Some, None, is_some}
use Rattle.std.specs.Prelude.{Contains}
use Rattle.std.specs.List.{AllByRecursion}
use Rattle.std.proofs.Common.{arith, refl, subst, sym, ap, ◌∙◌, inl, inr}
use Rattle.std.proofs.lemmas.Bool.{cond-false}
use Rattle.std.proofs.lemmas.Bool.Decides.{nat_tests}
use Rattle.std.proofs.lemmas.List.{length-append}
use Rattle.std.proofs.lemmas.List.Elements.{Contains-append_cases}
use Rattle.kernel_model.specs.declared.Held.{Held}
use Rattle.kernel_model.specs.declared.Kind.{Kind}
use Rattle.kernel_model.specs.declared.Kind.TheVariants.{Steps, Records, Locks}
use Rattle.kernel_model.specs.declared.Cause.{Cause}
use Rattle.kernel_model.specs.declared.Cause.TheVariants.{BadArgument, Reentered, TooDeep}
use Rattle.kernel_model.specs.declared.Cause.TheVariants.{SpentSteps, SpentRecords, SpentLocks}
use Rattle.kernel_model.specs.declared.Cause.TheVariants.{RefusedAnswer}
use Rattle.kernel_model.specs.declared.Inverse.{Inverse}
use Rattle.kernel_model.specs.declared.Mode.{Mode}
use Rattle.kernel_model.specs.declared.Need.{Need}
use Rattle.kernel_model.specs.declared.Object.{Object}
use Rattle.kernel_model.specs.declared.Object.TheVariants.{Graft, Acct}
use Rattle.kernel_model.specs.World.{World, ImageTable}
use Rattle.kernel_model.specs.Objects.{Objects, Accounts, Things, GraftValue, with_accounts}
use Rattle.kernel_model.specs.Machine.{Machine, Done, Called, Returned, Trapped, Outside, PastEnd, seg_step}
use Rattle.kernel_model.specs.Policies.{valid, kind_of, default_of, args_by}
use Rattle.kernel_model.specs.Charges.{funds, charge, charge_by, charge_account, charge_graft}
use Rattle.kernel_model.specs.Charges.{taken_from, removed, removed_by}
use Rattle.kernel_model.specs.Access.{Found, bare_found, found_segment, set_segment}
use Rattle.kernel_model.specs.Access.{object_of_inverse, Access, Gives, Changes, Refuses, access}
use Rattle.kernel_model.specs.Access.{early_refusal, is_ask, accessed, needed, asked_point}
use Rattle.kernel_model.specs.Access.{asked_objects, changed_by, undo}
use Rattle.kernel_model.specs.UndoLog.{undo_all, undo_log, kept_by_log}
use Rattle.kernel_model.specs.Locks.{Touched, touch, joined, untouched, is_held_exclusively}
use Rattle.kernel_model.specs.Levels.{Level, Outcome, code_of, image_of, keeps_in, new_level}
use Rattle.kernel_model.specs.Levels.{with_machine, with_touched, touch_outermost}
use Rattle.kernel_model.specs.Levels.{outermost_touched, answered, answer_innermost, state_without}
use Rattle.kernel_model.specs.Levels.{drop_innermost}
use Rattle.kernel_model.specs.GraftStep.{after_access, is_lock_due, lock_paid, after_result}
use Rattle.kernel_model.specs.GraftStep.{record_count, is_record_spent, after_change}
use Rattle.kernel_model.specs.GraftStep.{after_accessor, is_vain_ask, is_running, ask_refusal}
use Rattle.kernel_model.specs.GraftStep.{ask_answered, after_ask, granted_call, after_call}
use Rattle.kernel_model.specs.GraftStep.{completed, after_keeping, after_answer, after_return}
use Rattle.kernel_model.specs.GraftStep.{after_machine, is_spent, charged_step, micro_on}
use Rattle.kernel_model.specs.InPlace.{is_changed_in}
use Rattle.kernel_laws.specs.Soundness.{found_by}
use Rattle.kernel_laws.specs.Undoing.{IsOnceIn, LeadsBack, ChangesItsObject}
use Rattle.kernel_laws.proofs.StoreLemmas.{found_at}
use Rattle.kernel_laws.proofs.UndoingLemmas.{inverses_undo, changes_are_of_one_object, segment_back}
use Rattle.kernel_laws.proofs.LevelLemmas.{IsHeld, AreHeld, KeepOn, keep_self, keep_touch}
use Rattle.kernel_laws.proofs.LevelLemmas.{keep_answer, keep_then, keep_outermost, held_on}
use Rattle.kernel_laws.proofs.LevelLemmas.{each_on, running_on, length_on, stronger_left}
use Rattle.kernel_laws.proofs.LevelLemmas.{stronger_right, touch_all_holds, touch_here}
use Rattle.kernel_laws.proofs.LevelLemmas.{each_contains, held_so, inner_changed}
use Rattle.kernel_laws.proofs.LevelLemmas.{outside_changed, outer_changed, changed_on}
use Rattle.call_laws.specs.NeedGrafts.{or_cases}

-- ---- accounts

-- a graft stands after a charge where it stood
pub charge_stands : (a : Accounts) (q pt r pu : ℕ) (k : Kind) → is_some (a.graft r pu) ≡ true →
    is_some ((charge k q pt a).graft r pu) ≡ true
charge_stands a q pt r pu k h = stands_by (a.graft q pt)
  where
    stands_if : (billed : Bool) (g : GraftValue) →
        is_some ((elim billed as (λ _. Accounts) [
          | true ↦ charge_account k q a
          | false ↦ charge_graft k q pt g a
        ]).graft r pu) ≡ true
    stands_if true g = h
    stands_if false g =
        elim (found_at q pt r pu (Some (taken_from k g)) a.graft) [
          | inl here ↦ ap is_some here.2
          | inr other ↦ ap is_some other ∙ h
        ]

    stands_by : (g : Option GraftValue) → is_some ((charge_by k q pt g a).graft r pu) ≡ true
    stands_by None = h
    stands_by (Some g) = stands_if g.billed g

-- a graft stands after another was taken out
remove_stands : (a : Accounts) (q pt r pu : ℕ) → (r == q && pu == pt) ≡ false →
    is_some (a.graft r pu) ≡ true → is_some ((removed q pt a).graft r pu) ≡ true
remove_stands a q pt r pu other h = stands_by (a.graft q pt)
  where
    stands_by : (g : Option GraftValue) → is_some ((removed_by q pt g a).graft r pu) ≡ true
    stands_by None = h
    stands_by (Some g) = ap is_some (cond-false (r == q && pu == pt) None (a.graft r pu) other) ∙ h

-- levels whose grafts stand in other accounts too
each_standing : (t : Touched) (a b : Accounts) (ls : List Level) →
    ((q pt : ℕ) → is_some (a.graft q pt) ≡ true → is_some (b.graft q pt) ≡ true) →
    AllByRecursion (IsHeld t a) ls → AllByRecursion (IsHeld t b) ls
each_standing t a b [] h each = tt
each_standing t a b (l ∷ ls) h each = (
  record {
    stands = h l.owner l.point each.0.stands;
    graft = each.0.graft;
    acct = each.0.acct;
  },
  each_standing t a b ls h each.1,
)

-- neither of two tests passes
pub neither : (b c : Bool) → (b || c) ≡ false → (b ≡ false) × (c ≡ false)
neither true c h = absurd cc
neither false c h = (refl, h)

-- levels without the graft that was taken out
each_left : (t : Touched) (a : Accounts) (q pt : ℕ) (ls : List Level) → is_running ls q pt ≡ false →
    AllByRecursion (IsHeld t a) ls → AllByRecursion (IsHeld t (removed q pt a)) ls
each_left t a q pt [] other each = tt
each_left t a q pt (l ∷ ls) other each =
    let both = neither (l.owner == q && l.point == pt) (is_running ls q pt) other in (
      record {
        stands = remove_stands a q pt l.owner l.point both.0 each.0.stands;
        graft = each.0.graft;
        acct = each.0.acct;
      },
      each_left t a q pt ls both.1 each.1,
    )

-- ---- levels

-- the levels outside a level have the same level 0
each_outside : (a : Accounts) (l : Level) (ls : List Level) →
    AllByRecursion (IsHeld (outermost_touched (l ∷ ls)) a) ls → AllByRecursion (IsHeld (outermost_touched ls) a) ls
each_outside a l [] each = tt
each_outside a l (k ∷ ls) each = each

-- a new innermost level leaves level 0
outermost_inside : (l : Level) (ls : List Level) → 1 ≤ length ls → outermost_touched (l ∷ ls) ≡ outermost_touched ls
outermost_inside l [] some = absurd (none_some some)
  where
    none_some : 1 ≤ 0 → ⊥
    none_some h = omega arith
outermost_inside l (k ∷ ls) some = refl

-- level 0 holds what it just touched
outermost_touch : (o : Object) (ls : List Level) → 1 ≤ length ls →
    outermost_touched (touch_outermost o ls) o ≡ Held.Exclusive
outermost_touch o [] some = absurd (none_some some)
  where
    none_some : 1 ≤ 0 → ⊥
    none_some h = omega arith
outermost_touch o (l ∷ []) some = touch_here o l.touched
outermost_touch o (l ∷ k ∷ ls) some =
    touched_inside o l (touch_outermost o (k ∷ ls)) (some_touched o k ls)
    (outermost_touch o (k ∷ ls) (some_more (length ls)))
  where
    some_more : (n : ℕ) → 1 ≤ suc n
    some_more n = omega arith

    some_touched : (o : Object) (k : Level) (ls : List Level) → 1 ≤ length (touch_outermost o (k ∷ ls))
    some_touched o k [] = omega arith
    some_touched o k (l ∷ ls) = some_more (length (touch_outermost o (l ∷ ls)))

    touched_inside : (o : Object) (l : Level) (xs : List Level) → 1 ≤ length xs →
        outermost_touched xs o ≡ Held.Exclusive → outermost_touched (l ∷ xs) o ≡ Held.Exclusive
    touched_inside o l xs some h = ap (λ (t : Touched). t o) (outermost_inside l xs some) ∙ h

-- other records of the innermost level leave level 0
outermost_records : (l : Level) (is : List Found) (ls : List Level) →
    outermost_touched (record l { records = is } ∷ ls) ≡ outermost_touched (l ∷ ls)
outermost_records l is [] = refl
outermost_records l is (k ∷ ls) = refl

-- the head and the tail of what levels found
pub first_of_found : (x y : Things) (xs ys : List Things) → x ∷ xs ≡ y ∷ ys → x ≡ y
first_of_found x y xs ys e = ap (λ (ws : List Things). elim ws as (λ _. Things) [ [] ↦ x | w ∷ rest ↦ w ]) e

rest_of_found : (x y : Things) (xs ys : List Things) → x ∷ xs ≡ y ∷ ys → xs ≡ ys
rest_of_found x y xs ys e = ap (λ (ws : List Things). elim ws as (λ _. List Things) [ [] ↦ xs | w ∷ rest ↦ rest ]) e

-- records of two levels, undone one after the other
pub undo_both : (is js : List Found) (w : Things) → undo_all (is ++ js) w ≡ undo_all js (undo_all is w)
undo_both [] js w = refl
undo_both (i ∷ is) js w = undo_both is js (undo i w)

-- ---- outcomes

-- the levels of an outcome's config are held
abbrev HeldAfter : Outcome → Type 0
HeldAfter o = AreHeld o.config.now o.config.levels

-- the levels outside the innermost one, on what it found
pub outside_held : (w : Objects) (l : Level) (ls : List Level) → AreHeld w (l ∷ ls) →
    AreHeld (record { accounts = w.accounts; things = l.kept }) ls
outside_held w l ls h =
    let before = undo_all l.records w.things in
    let first = first_of_found l.kept before (found_by ls) (kept_by_log before (undo_log ls)) h.kept in
    let rest = rest_of_found l.kept before (found_by ls) (kept_by_log before (undo_log ls)) h.kept in
    record {
      each = each_outside w.accounts l ls h.each.1;
      apart = h.apart.1;
      recorded = h.recorded.1;
      few = fewer (length l.records) (record_count ls) h.few;
      most = one_less (length ls) h.most;
      kept = rest ∙ ap (λ x. kept_by_log x (undo_log ls)) (sym first);
    }
  where
    fewer : (a b : ℕ) → a + b ≤ 64 → b ≤ 64
    fewer a b h = omega arith

    one_less : (n : ℕ) → suc n ≤ 4 → n ≤ 4
    one_less n h = omega arith

-- the innermost level is dropped
pub drop_held : (v : World) (w : Objects) (l : Level) (ls : List Level) (cause : Cause) →
    AreHeld w (l ∷ ls) → HeldAfter (drop_innermost v w l ls cause)
drop_held v w l ls cause h =
    let d = default_of v l.kept l.owner l.point in
    let k = outside_held w l ls h in
    held_on (state_without l w) (answer_innermost l.point d.0 d.1 ls) ls (keep_answer l.point d.0 d.1 ls) (record {
      each = each_left (outermost_touched ls) w.accounts l.owner l.point ls h.apart.0 k.each;
      apart = k.apart;
      recorded = k.recorded;
      few = k.few;
      most = k.most;
      kept = k.kept;
    })

-- one of a kind is charged
pub charged_held : (w : Objects) (ls : List Level) (q pt : ℕ) (k : Kind) → AreHeld w ls →
    AreHeld (with_accounts (charge k q pt w.accounts) w) ls
charged_held w ls q pt k h =
    record {
      each =
          each_standing (outermost_touched ls) w.accounts (charge k q pt w.accounts) ls
          (λ r pu. charge_stands w.accounts q pt r pu k) h.each;
      apart = h.apart;
      recorded = h.recorded;
      few = h.few;
      most = h.most;
      kept = h.kept;
    }

-- the innermost level goes on with what it has
access_keeps : (l : Level) (ls : List Level) (m : Machine) (id result : ℕ) →
    KeepOn (after_access l m id result ∷ ls) (l ∷ ls)
access_keeps l ls m id result = (
  record {
    owner = refl;
    point = refl;
    records = refl;
    kept = refl;
    touched = touch_all_holds (accessed id (l.machine.regs 0) l.owner ∷ []) l.touched;
  },
  keep_self ls,
)

machine_keeps : (l : Level) (ls : List Level) (m : Machine) → KeepOn (with_machine m l ∷ ls) (l ∷ ls)
machine_keeps l ls m = (
  record {
    owner = refl;
    point = refl;
    records = refl;
    kept = refl;
    touched = λ o e. e;
  },
  keep_self ls,
)

-- ---- accessors

-- a record more of the innermost level
recorded_held : (a : Accounts) (w u : Things) (l : Level) (ls : List Level) (i : Found) →
    AreHeld (record { accounts = a; things = w }) (l ∷ ls) → undo i u ≡ w →
    is_changed_in (l ∷ ls) (changed_by i) ≡ true → (record_count (l ∷ ls) == 64) ≡ false →
    AreHeld (record { accounts = a; things = u }) (record l { records = i ∷ l.records } ∷ ls)
recorded_held a w u l ls i h leads held room =
    record {
      each =
          subst (λ t. AllByRecursion (IsHeld t a) (record l { records = i ∷ l.records } ∷ ls))
          (sym (outermost_records l (i ∷ l.records) ls)) (
            record {
              stands = h.each.0.stands;
              graft = h.each.0.graft;
              acct = h.each.0.acct;
            },
            h.each.1,
          );
      apart = h.apart;
      recorded = (
        λ j c. elim (Contains-append_cases (i ∷ []) l.records j c) [
          | inl one ↦ ap (λ x. is_changed_in (l ∷ ls) (changed_by x)) (sym (only_one i j one)) ∙ held
          | inr old ↦ h.recorded.0 j old
        ],
        h.recorded.1,
      );
      few = one_more (length l.records) (record_count ls) h.few room;
      most = h.most;
      kept = h.kept ∙ ap (λ x. kept_by_log x (l.records ∷ undo_log ls)) (sym leads);
    }
  where
    only_one : (i j : Found) → Contains (i ∷ []) j → i ≡ j
    only_one i j c = each_contains (λ x. i ≡ x) (i ∷ []) j (refl, tt) c

    one_more : (a b : ℕ) → a + b ≤ 64 → (a + b == 64) ≡ false → suc a + b ≤ 64
    one_more a b h room = grind (arith, nat_tests)

module _ (v : World) where
  lock_held : (w : Objects) (l : Level) (ls : List Level) (m : Machine) (id result : ℕ)
      (spent : Bool) → AreHeld w (l ∷ ls) → HeldAfter (lock_paid v w l ls m id result spent)
  lock_held w l ls m id result true h = drop_held v w l ls SpentLocks h
  lock_held w l ls m id result false h =
      let u = with_accounts (charge Locks l.owner l.point w.accounts) w in
      held_on u (after_access l m id result ∷ ls) (l ∷ ls) (access_keeps l ls m id result)
      (charged_held w (l ∷ ls) l.owner l.point Locks h)

  result_held : (w : Objects) (l : Level) (ls : List Level) (m : Machine) (id result : ℕ)
      (due : Bool) → AreHeld w (l ∷ ls) → HeldAfter (after_result v w l ls m id result due)
  result_held w l ls m id result true h = lock_held w l ls m id result (funds w.accounts l.owner l.point Locks == 0) h
  result_held w l ls m id result false h =
      held_on w (after_access l m id result ∷ ls) (l ∷ ls) (access_keeps l ls m id result) h

  change_held : (w : Objects) (l : Level) (ls : List Level) (m : Machine) (id result : ℕ)
      (i : Inverse) (u : Things) (spent : Bool) →
      is_record_spent w.accounts l ls ≡ spent → AreHeld w (l ∷ ls) → undo (bare_found i) u ≡ w.things →
      accessed id (l.machine.regs 0) l.owner ≡ needed (object_of_inverse i) Mode.Exclusive →
      HeldAfter (after_change v w l ls m id result i u spent)
  change_held w l ls m id result i u true e h leads needs = drop_held v w l ls SpentRecords h
  change_held w l ls m id result i u false e h leads needs =
      let n = after_access l m id result in
      let a = charge Records l.owner l.point w.accounts in
      let k = held_on (record { accounts = a; things = w.things }) (n ∷ ls) (l ∷ ls)
      (access_keeps l ls m id result) (charged_held w (l ∷ ls) l.owner l.point Records h) in
      recorded_held a w.things u n ls (bare_found i) k leads
      (inner_changed n ls (object_of_inverse i)
      (subst (λ (x : Need). touch x.object x.mode l.touched (object_of_inverse i) ≡ Held.Exclusive)
      (sym needs) (touch_here (object_of_inverse i) l.touched)))
      (neither (funds w.accounts l.owner l.point Records == 0) (record_count (l ∷ ls) == 64) e).1

  accessor_held : (w : Objects) (l : Level) (ls : List Level) (m : Machine) (id : ℕ) (x : Access) →
      AreHeld w (l ∷ ls) → LeadsBack w.things x →
      ChangesItsObject id (l.machine.regs 0) l.owner w.things x → HeldAfter (after_accessor v w l ls m id x)
  accessor_held w l ls m id (Refuses cause) h leads own = drop_held v w l ls cause h
  accessor_held w l ls m id (Gives result) h leads own =
      result_held w l ls m id result (is_lock_due id (l.machine.regs 0) (l ∷ ls)) h
  accessor_held w l ls m id (Changes result i u) h leads own =
      change_held w l ls m id result i u (is_record_spent w.accounts l ls) refl h leads own.0

-- ---- asks

-- a level that has just begun, of a graft that no other level is of
new_held : (w : Objects) (n : Level) (ks : List Level) → 1 ≤ length ks → AreHeld w ks →
    n.records ≡ [] → n.kept ≡ w.things → is_some (w.accounts.graft n.owner n.point) ≡ true →
    outermost_touched ks (Graft n.owner n.point) ≡ Held.Exclusive →
    outermost_touched ks (Acct n.owner) ≡ Held.Exclusive →
    is_running ks n.owner n.point ≡ false →
    suc (length ks) ≤ 4 → AreHeld w (n ∷ ks)
new_held w n ks some h none found stands graft acct other room =
    record {
      each = subst (λ t. AllByRecursion (IsHeld t w.accounts) (n ∷ ks)) (sym (outermost_inside n ks some))
          (record { stands = stands; graft = graft; acct = acct }, h.each);
      apart = (other, h.apart);
      recorded = (λ i c. absurd (nothing i (subst (λ is. Contains is i) none c)), h.recorded);
      few =
          subst (λ (is : List Found). length is + record_count ks ≤ 64) (sym none)
          (same_count (record_count ks) h.few);
      most = room;
      kept =
          ap (λ x. x ∷ found_by ks) found ∙ ap (λ ws. w.things ∷ ws) h.kept
          ∙ ap (λ is. kept_by_log w.things (is ∷ undo_log ks)) (sym none);
    }
  where
    nothing : (i : Found) → Contains [] i → ⊥
    nothing i c = none_below c.0 c.1
      where
        none_below : (k : ℕ) → k < 0 → ⊥
        none_below k h = omega arith

    same_count : (n : ℕ) → n ≤ 64 → 0 + n ≤ 64
    same_count n h = omega arith

-- what an ask that isn't refused passed
pub not_refused : (a b c : Bool) (x y z : Cause) →
    cond a (Some x) (cond b (Some y) (cond c (Some z) None)) ≡ None → (b ≡ false) × (c ≡ false)
not_refused true b c x y z h = absurd cc
not_refused false true c x y z h = absurd cc
not_refused false false true x y z h = absurd cc
not_refused false false false x y z h = (refl, refl)

module _ (v : World) (images : ImageTable) (p : ℕ) where
  -- an ask that isn't refused, by whether a graft stands
  answered_held : (w : Objects) (q pt : ℕ) (ks : List Level) (g : Option GraftValue) →
      w.accounts.graft q pt ≡ g → 1 ≤ length ks → AreHeld w ks →
      outermost_touched ks (Graft q pt) ≡ Held.Exclusive →
      outermost_touched ks (Acct q) ≡ Held.Exclusive → is_running ks q pt ≡ false →
      (is_some g && length ks == 4) ≡ false → HeldAfter (ask_answered v images w p q pt ks g)
  answered_held w q pt ks None e some h graft acct other room =
      let d = default_of v w.things q pt in
      held_on w (answer_innermost pt d.0 d.1 ks) ks (keep_answer pt d.0 d.1 ks) h
  answered_held w q pt ks (Some g) e some h graft acct other room =
      new_held w (new_level images w p (length ks) q pt (args_by (kind_of pt) v w.things q pt) []
      untouched) ks some h refl refl (ap is_some e) graft acct other
      (one_more (length ks) h.most room)
    where
      one_more : (n : ℕ) → n ≤ 4 → (n == 4) ≡ false → suc n ≤ 4
      one_more n h room = grind (arith, nat_tests)

  ask_held : (w : Objects) (l : Level) (ls : List Level) (m : Machine) (id : ℕ) (x : Option Cause) →
      AreHeld w (l ∷ ls) →
      ask_refusal w l.owner (asked_point id (l.machine.regs 0)) id (l ∷ ls) ≡ x →
      HeldAfter (after_ask v images w p l ls m id (asked_point id (l.machine.regs 0)) x)
  ask_held w l ls m id (Some cause) h e = drop_held v w l ls cause h
  ask_held w l ls m id None h e =
      let pt = asked_point id (l.machine.regs 0) in
      let asker = with_touched (asked_objects id (l.machine.regs 0) l.owner) (with_machine m l) in
      let o = Graft l.owner pt in
      let ks = touch_outermost o (asker ∷ ls) in
      let asks : KeepOn (asker ∷ ls) (l ∷ ls) = (
        record {
          owner = refl;
          point = refl;
          records = refl;
          kept = refl;
          touched = touch_all_holds (asked_objects id (l.machine.regs 0) l.owner) l.touched;
        },
        keep_self ls,
      ) in
      let keep = keep_then ks (asker ∷ ls) (l ∷ ls) (keep_touch o (asker ∷ ls)) asks in
      let passed = not_refused (is_vain_ask (kind_of pt) w.things l.owner pt)
      (is_running (l ∷ ls) l.owner pt)
      (is_some (w.accounts.graft l.owner pt) && length (l ∷ ls) == 4)
      (BadArgument id) Reentered TooDeep e in
      answered_held w l.owner pt ks (w.accounts.graft l.owner pt) refl
      (subst (λ n. 1 ≤ n) (sym (length_on ks (l ∷ ls) keep)) (some_more (length ls)))
      (held_on w ks (l ∷ ls) keep h) (outermost_touch o (asker ∷ ls) (some_more (length ls)))
      (keep_outermost ks (l ∷ ls) keep (Acct l.owner) h.each.0.acct) (running_on ks (l ∷ ls) l.owner pt keep ∙ passed.0)
      (ap (λ n. is_some (w.accounts.graft l.owner pt) && n == 4) (length_on ks (l ∷ ls) keep) ∙ passed.1)
    where
      some_more : (n : ℕ) → 1 ≤ suc n
      some_more n = omega arith

  -- ---- calls and answers

  granted_held : (w : Objects) (l : Level) (ls : List Level) (m : Machine) (id : ℕ) (ask : Bool) →
      AreHeld w (l ∷ ls) → ((q : ℕ) → IsOnceIn q w.things.queue) →
      HeldAfter (granted_call v images w p l ls m id ask)
  granted_held w l ls m id true h once =
      ask_held w l ls m id
      (ask_refusal w l.owner (asked_point id (l.machine.regs 0)) id (l ∷ ls)) h refl
  granted_held w l ls m id false h once =
      accessor_held v w l ls m id
      (access id (l.machine.regs 0) (l.machine.regs 1) (l.machine.regs 2) l.owner w.things) h
      (inverses_undo id (l.machine.regs 0) (l.machine.regs 1) (l.machine.regs 2) l.owner w.things (once l.owner))
      (changes_are_of_one_object id (l.machine.regs 0) (l.machine.regs 1) (l.machine.regs 2) l.owner w.things)

  call_held : (w : Objects) (l : Level) (ls : List Level) (m : Machine) (id : ℕ)
      (x : Option Cause) → AreHeld w (l ∷ ls) → ((q : ℕ) → IsOnceIn q w.things.queue) →
      HeldAfter (after_call v images w p l ls m id x)
  call_held w l ls m id (Some cause) h once = drop_held v w l ls cause h
  call_held w l ls m id None h once = granted_held w l ls m id (is_ask id) h once

  -- what the innermost level or one outside it held exclusively is held so by its asker, or one outside that
  joined_changed : (l asker n : Level) (rest : List Level) (o : Object) →
      n.touched o ≡ joined l.touched asker.touched o → is_changed_in (l ∷ asker ∷ rest) o ≡ true →
      is_changed_in (n ∷ rest) o ≡ true
  joined_changed l asker n rest o same h =
      elim (or_cases (is_held_exclusively (l.touched o)) (is_changed_in (asker ∷ rest) o) h) [
        | inl own ↦ inner_changed n rest o
            (same ∙ stronger_left (l.touched o) (asker.touched o) (held_so (l.touched o) own))
        | inr outside ↦ elim (or_cases (is_held_exclusively (asker.touched o)) (is_changed_in rest o) outside) [
          | inl old ↦ inner_changed n rest o
              (same ∙ stronger_right (l.touched o) (asker.touched o) (held_so (asker.touched o) old))
          | inr further ↦ outside_changed n rest o further
        ]
      ]

  -- the innermost level's records and holds go to its asker
  completed_held : (w : Objects) (l : Level) (ls : List Level) → AreHeld w (l ∷ ls) → HeldAfter (completed w l ls)
  completed_held w l [] h =
      record { each = tt; apart = tt; recorded = tt; few = zero_few; most = zero_most; kept = refl }
    where
      zero_few : 0 ≤ 64
      zero_few = omega arith

      zero_most : 0 ≤ 4
      zero_most = omega arith
  completed_held w l (asker ∷ rest) h =
      let n : Level = record asker {
        machine = answered (kind_of l.point) (l.machine.regs 0) (l.machine.regs 1) asker.machine;
        touched = joined l.touched asker.touched;
      } in
      let keep : KeepOn (n ∷ rest) (asker ∷ rest) = (
        record {
          owner = refl;
          point = refl;
          records = refl;
          kept = refl;
          touched = λ o e. stronger_right (l.touched o) (asker.touched o) e;
        },
        keep_self rest,
      ) in
      let each = each_on (outermost_touched (n ∷ rest)) (outermost_touched (asker ∷ rest))
      w.accounts (n ∷ rest) (asker ∷ rest)
      (keep_outermost (n ∷ rest) (asker ∷ rest) keep) keep h.each.1 in
      let log = undo_log rest in
      let before = undo_all l.records w.things in
      let rest_found = rest_of_found l.kept before
      (found_by (asker ∷ rest)) (kept_by_log before (asker.records ∷ log)) h.kept in
      record {
        each =
            subst (λ t. AllByRecursion (IsHeld t w.accounts)
            (record n { records = l.records ++ asker.records } ∷ rest))
            (sym (outermost_records n (l.records ++ asker.records) rest)) (
              record {
                stands = each.0.stands;
                graft = each.0.graft;
                acct = each.0.acct;
              },
              each.1,
            );
        apart = h.apart.1;
        recorded = (
          λ i c. elim (Contains-append_cases l.records asker.records i c) [
            | inl own ↦ joined_changed l asker n rest (changed_by i) refl (h.recorded.0 i own)
            | inr old ↦ changed_on (n ∷ rest) (asker ∷ rest) (changed_by i) keep (h.recorded.1.0 i old)
          ],
          h.recorded.1.1,
        );
        few =
            both_few (length l.records) (length asker.records) (length (l.records ++ asker.records))
            (record_count rest) (length-append l.records asker.records) h.few;
        most = one_less (length rest) h.most;
        kept = rest_found ∙ ap (λ x. x ∷ kept_by_log x log) (sym (undo_both l.records asker.records w.things));
      }
    where
      both_few : (a b c d : ℕ) → c ≡ a + b → a + (b + d) ≤ 64 → c + d ≤ 64
      both_few a b c d e h = omega arith

      one_less : (n : ℕ) → suc (suc n) ≤ 4 → suc n ≤ 4
      one_less n h = omega arith

  -- the segment is kept, and a record made of what was kept before
  keeping_held : (w : Objects) (l : Level) (ls : List Level) (spent : Bool) →
      is_record_spent w.accounts l ls ≡ spent → AreHeld w (l ∷ ls) →
      HeldAfter (after_keeping v w l ls spent)
  keeping_held w l ls true e h = drop_held v w l ls SpentRecords h
  keeping_held w l ls false e h =
      let a = charge Records l.owner l.point w.accounts in
      let u = set_segment l.owner l.point (Some l.machine.memory) w.things in
      let i = found_segment l.owner l.point w.things in
      completed_held (record { accounts = a; things = u }) (record l { records = i ∷ l.records }) ls
      (recorded_held a w.things u l ls i (charged_held w (l ∷ ls) l.owner l.point Records h)
      (segment_back l.owner l.point (Some l.machine.memory) w.things)
      (outer_changed (l ∷ ls) (Graft l.owner l.point) h.each.0.graft)
      (neither (funds w.accounts l.owner l.point Records == 0) (record_count (l ∷ ls) == 64) e).1)

  answer_held : (w : Objects) (l : Level) (ls : List Level) (keeps : Bool) → AreHeld w (l ∷ ls) →
      HeldAfter (after_answer v w l ls keeps)
  answer_held w l ls true h = keeping_held w l ls (is_record_spent w.accounts l ls) refl h
  answer_held w l ls false h = completed_held w l ls h

  return_held : (w : Objects) (l : Level) (ls : List Level) (b : Bool) → AreHeld w (l ∷ ls) →
      HeldAfter (after_return v images w l ls b)
  return_held w l ls true h = answer_held w l ls (keeps_in (image_of images (w.accounts.graft l.owner l.point))) h
  return_held w l ls false h = drop_held v w l ls (RefusedAnswer (l.machine.regs 0) (l.machine.regs 1)) h

  -- ---- one instruction

  machine_held : (w : Objects) (l : Level) (ls : List Level) (x : Done) → AreHeld w (l ∷ ls) →
      ((q : ℕ) → IsOnceIn q w.things.queue) → HeldAfter (after_machine v images p w l ls x)
  machine_held w l ls (Done.Went m) h once = held_on w (with_machine m l ∷ ls) (l ∷ ls) (machine_keeps l ls m) h
  machine_held w l ls (Called id m) h once =
      call_held w l ls m id (early_refusal v.callable id (l.machine.regs 0) (l.machine.regs 1) l.owner) h once
  machine_held w l ls Returned h once =
      return_held w l ls
      (valid w.things l.owner l.point l.args (l.machine.regs 0) (l.machine.regs 1)) h
  machine_held w l ls Done.DividedByZero h once = drop_held v w l ls Cause.DivideByZero h
  machine_held w l ls (Trapped code) h once = drop_held v w l ls (Cause.Trap code) h
  machine_held w l ls Outside h once = drop_held v w l ls Cause.DivideByZero h
  machine_held w l ls PastEnd h once = drop_held v w l ls Cause.DivideByZero h

  step_held : (w : Objects) (l : Level) (ls : List Level) (spent : Bool) → AreHeld w (l ∷ ls) →
      ((q : ℕ) → IsOnceIn q w.things.queue) → HeldAfter (charged_step v images p w l ls spent)
  step_held w l ls true h once = drop_held v w l ls SpentSteps h
  step_held w l ls false h once =
      let u = with_accounts (charge Steps l.owner l.point w.accounts) w in
      let n = record l { count = l.count + 1 } in
      machine_held u n ls (seg_step (code_of images w.accounts l.owner l.point) l.machine)
      (held_on u (n ∷ ls) (l ∷ ls) (
        record {
          owner = refl;
          point = refl;
          records = refl;
          kept = refl;
          touched = λ o e. e;
        },
        keep_self ls,
      )
      (charged_held w (l ∷ ls) l.owner l.point Steps h)) once

  -- an instruction keeps the levels held
  pub levels_held : (w : Objects) (ls : List Level) → AreHeld w ls →
      ((q : ℕ) → IsOnceIn q w.things.queue) → HeldAfter (micro_on v images p w ls)
  levels_held w [] h once = h
  levels_held w (l ∷ ls) h once = step_held w l ls (is_spent w.accounts l) h once
