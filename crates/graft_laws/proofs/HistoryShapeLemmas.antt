-- The levels of a call: of different grafts of one process, held by level 0, few, and with few records.
use Rattle.std.specs.Prelude.{◌≡◌, ℕ, suc, ◌+◌, ◌≤◌, ◌==◌, ◌&&◌, Bool, true, false}
use Rattle.std.specs.Prelude.{List, [], ◌∷◌, ◌++◌, length, Option, Some, None, is_some, ⊤}
use Rattle.std.proofs.Common.{arith, refl, subst, sym, ap, ◌∙◌}
use Rattle.std.proofs.lemmas.Bool.Decides.{nat_tests}
use Rattle.std.proofs.lemmas.List.{length-append}
use Rattle.kernel_model.specs.declared.Cause.{Cause}
use Rattle.kernel_model.specs.declared.Cause.TheVariants.{BadArgument, Reentered, TooDeep}
use Rattle.kernel_model.specs.declared.Held.{Held}
use Rattle.kernel_model.specs.declared.Inverse.{Inverse}
use Rattle.kernel_model.specs.declared.Kind.TheVariants.{Steps, Records, Locks}
use Rattle.kernel_model.specs.declared.Micro.{Micro}
use Rattle.kernel_model.specs.declared.Object.TheVariants.{Graft, Acct}
use Rattle.kernel_model.specs.World.{World, ImageTable}
use Rattle.kernel_model.specs.Objects.{Objects, Things, GraftValue, with_accounts}
use Rattle.kernel_model.specs.Machine.{Machine, Done, Called, Returned, Trapped, Outside, PastEnd, seg_step}
use Rattle.kernel_model.specs.Policies.{valid, kind_of, default_of, args_by}
use Rattle.kernel_model.specs.Access.{Access, Gives, Changes, Refuses, access, early_refusal}
use Rattle.kernel_model.specs.Access.{is_ask, accessed, asked_point, asked_objects, Found}
use Rattle.kernel_model.specs.Access.{bare_found, found_segment, set_segment}
use Rattle.kernel_model.specs.Charges.{funds, charge}
use Rattle.kernel_model.specs.Locks.{Touched, joined, untouched}
use Rattle.kernel_model.specs.Levels.{Level, Config, Effect, Asked, Charged, Removed, Outcome}
use Rattle.kernel_model.specs.Levels.{code_of, new_level, with_machine, with_touched}
use Rattle.kernel_model.specs.Levels.{touch_outermost, outermost_touched, answered}
use Rattle.kernel_model.specs.Levels.{answer_innermost, image_of, keeps_in}
use Rattle.kernel_model.specs.GraftStep.{after_access, is_lock_due, lock_paid, after_result}
use Rattle.kernel_model.specs.GraftStep.{record_count, is_record_spent, after_change}
use Rattle.kernel_model.specs.GraftStep.{after_accessor, is_vain_ask, is_running, ask_refusal}
use Rattle.kernel_model.specs.GraftStep.{ask_answered, after_ask, granted_call, after_call}
use Rattle.kernel_model.specs.GraftStep.{completed, after_keeping, after_answer, after_return}
use Rattle.kernel_model.specs.GraftStep.{after_machine, is_spent, charged_step, micro_on}
use Rattle.graft_laws.proofs.HistoryEffectLemmas.{levels_by}
use Rattle.kernel_laws.proofs.ConfigLemmas.{neither, not_refused}
use Rattle.kernel_laws.proofs.LevelLemmas.{HoldsOn, stronger_right, touch_all_holds}
use Rattle.kernel_laws.proofs.LevelLemmas.{touch_here, KeepOn, keep_self, keep_touch, keep_answer}
use Rattle.kernel_laws.proofs.LevelLemmas.{keep_then, keep_outermost, running_on, count_on, length_on}
use Rattle.graft_laws.proofs.PastLemmas.{outermost_after}

-- ---- levels that keep what they have

pub keep_effects : (q : ℕ) (es : List Effect) (ls : List Level) → KeepOn (levels_by q es ls) ls
keep_effects q [] ls = keep_self ls
keep_effects q (Asked pt ∷ es) ls =
    let xs = touch_outermost (Graft q pt) ls in
    keep_then (levels_by q es xs) xs ls (keep_effects q es xs) (keep_touch (Graft q pt) ls)
keep_effects q (Charged pt k ∷ es) ls = keep_effects q es ls
keep_effects q (Removed pt ∷ es) ls = keep_effects q es ls

-- ---- the shape

-- levels are of different grafts of q, which are held exclusively
abbrev pub AreGrafts : ℕ → Touched → List Level → Type 0
AreGrafts q t [] = ⊤
AreGrafts q t (l ∷ ls) =
    (l.owner ≡ q) × (t (Graft q l.point) ≡ Held.Exclusive) × (is_running ls q l.point ≡ false)
    × AreGrafts q t ls

-- one to four levels of different grafts of q, which level 0 holds, with q's account and 64 records at most
pub record HasShape (q : ℕ) (ls : List Level) : Type 0 where
  pub grafts : AreGrafts q (outermost_touched ls) ls
  pub acct : outermost_touched ls (Acct q) ≡ Held.Exclusive
  pub few : record_count ls ≤ 64
  pub most : length ls ≤ 4
  pub some : 1 ≤ length ls

-- the same where the call goes on
abbrev pub ShapeWhereWent : ℕ → Micro → Config → Type 0
ShapeWhereWent q Micro.Went c = HasShape q c.levels
ShapeWhereWent q said c = ⊤

-- ---- levels that keep on keep the shape

grafts_on : (q : ℕ) (t u : Touched) (ls ks : List Level) → HoldsOn t u → KeepOn ls ks →
    AreGrafts q u ks → AreGrafts q t ls
grafts_on q t u [] [] more keep h = tt
grafts_on q t u (l ∷ ls) (k ∷ ks) more keep h = (
  keep.0.owner ∙ h.0,
  ap (λ pt. t (Graft q pt)) keep.0.point ∙ more (Graft q k.point) h.1,
  ap (is_running ls q) keep.0.point ∙ running_on ls ks q k.point keep.1 ∙ h.2,
  grafts_on q t u ls ks more keep.1 h.3,
)
grafts_on q t u [] (k ∷ ks) more keep h = absurd keep
grafts_on q t u (l ∷ ls) [] more keep h = absurd keep

pub shape_on : (q : ℕ) (ls ks : List Level) → KeepOn ls ks → HasShape q ks → HasShape q ls
shape_on q ls ks keep h =
    record {
      grafts =
          grafts_on q (outermost_touched ls) (outermost_touched ks) ls ks
          (keep_outermost ls ks keep) keep h.grafts;
      acct = keep_outermost ls ks keep (Acct q) h.acct;
      few = subst (λ n. n ≤ 64) (sym (count_on ls ks keep)) h.few;
      most = subst (λ n. n ≤ 4) (sym (length_on ls ks keep)) h.most;
      some = subst (λ n. 1 ≤ n) (sym (length_on ls ks keep)) h.some;
    }

-- the levels outside have the shape too
pub shape_outside : (q : ℕ) (l k : Level) (ls : List Level) → HasShape q (l ∷ k ∷ ls) → HasShape q (k ∷ ls)
shape_outside q l k ls h =
    record {
      grafts = h.grafts.3;
      acct = h.acct;
      few = fewer (length l.records) (record_count (k ∷ ls)) h.few;
      most = one_less (length (k ∷ ls)) h.most;
      some = some_more (length ls);
    }
  where
    fewer : (a b : ℕ) → a + b ≤ 64 → b ≤ 64
    fewer a b h = omega arith

    one_less : (n : ℕ) → suc n ≤ 4 → n ≤ 4
    one_less n h = omega arith

    some_more : (n : ℕ) → 1 ≤ suc n
    some_more n = omega arith

-- a new level of a graft that no other level is of
new_shape : (q : ℕ) (n k : Level) (ks : List Level) → HasShape q (k ∷ ks) → n.owner ≡ q →
    n.records ≡ [] → outermost_touched (k ∷ ks) (Graft q n.point) ≡ Held.Exclusive →
    is_running (k ∷ ks) q n.point ≡ false → suc (length (k ∷ ks)) ≤ 4 → HasShape q (n ∷ k ∷ ks)
new_shape q n k ks h owner none held other room =
    record {
      grafts = (owner, held, other, h.grafts);
      acct = h.acct;
      few =
          subst (λ (is : List Found). length is + record_count (k ∷ ks) ≤ 64) (sym none)
          (same_count (record_count (k ∷ ks)) h.few);
      most = room;
      some = some_more (length (k ∷ ks));
    }
  where
    same_count : (n : ℕ) → n ≤ 64 → 0 + n ≤ 64
    same_count n h = omega arith

    some_more : (n : ℕ) → 1 ≤ suc n
    some_more n = omega arith

module _ (v : World) where
  -- ---- accessors

  abbrev KeepsShape : Level → Outcome → Type 0
  KeepsShape l r = ShapeWhereWent l.owner r.said r.config

  access_shape : (w : Objects) (l : Level) (ls : List Level) (m : Machine) (id result : ℕ) →
      HasShape l.owner (l ∷ ls) → HasShape l.owner (after_access l m id result ∷ ls)
  access_shape w l ls m id result h =
      shape_on l.owner (after_access l m id result ∷ ls) (l ∷ ls) (
        record {
          owner = refl;
          point = refl;
          records = refl;
          kept = refl;
          touched = touch_all_holds (accessed id (l.machine.regs 0) l.owner ∷ []) l.touched;
        },
        keep_self ls,
      ) h

  lock_shape : (w : Objects) (l : Level) (ls : List Level) (m : Machine) (id result : ℕ) (spent :
      Bool) → HasShape l.owner (l ∷ ls) → KeepsShape l (lock_paid v w l ls m id result spent)
  lock_shape w l ls m id result true h = tt
  lock_shape w l ls m id result false h = access_shape w l ls m id result h

  result_shape : (w : Objects) (l : Level) (ls : List Level) (m : Machine) (id result : ℕ) (due :
      Bool) → HasShape l.owner (l ∷ ls) → KeepsShape l (after_result v w l ls m id result due)
  result_shape w l ls m id result true h = lock_shape w l ls m id result (funds w.accounts l.owner l.point Locks == 0) h
  result_shape w l ls m id result false h = access_shape w l ls m id result h

  -- a record more
  recorded_shape : (q : ℕ) (l : Level) (ls : List Level) (i : Found) → HasShape q (l ∷ ls) →
      (record_count (l ∷ ls) == 64) ≡ false → HasShape q (record l { records = i ∷ l.records } ∷ ls)
  recorded_shape q l ls i h room = by_levels ls h room
    where
      one_more : (a b : ℕ) → a + b ≤ 64 → (a + b == 64) ≡ false → suc a + b ≤ 64
      one_more a b h room = grind (arith, nat_tests)

      by_levels : (ls : List Level) → HasShape q (l ∷ ls) → (record_count (l ∷ ls) == 64) ≡ false →
          HasShape q (record l { records = i ∷ l.records } ∷ ls)
      by_levels [] h room =
          record {
            grafts = h.grafts;
            acct = h.acct;
            few = one_more (length l.records) (record_count []) h.few room;
            most = h.most;
            some = h.some;
          }
      by_levels (k ∷ ls) h room =
          record {
            grafts = h.grafts;
            acct = h.acct;
            few = one_more (length l.records) (record_count (k ∷ ls)) h.few room;
            most = h.most;
            some = h.some;
          }

  change_shape : (w : Objects) (l : Level) (ls : List Level) (m : Machine) (id result : ℕ)
      (i : Inverse) (u : Things) (spent : Bool) → is_record_spent w.accounts l ls ≡ spent →
      HasShape l.owner (l ∷ ls) → KeepsShape l (after_change v w l ls m id result i u spent)
  change_shape w l ls m id result i u true e h = tt
  change_shape w l ls m id result i u false e h =
      recorded_shape l.owner (after_access l m id result) ls
      (bare_found i) (access_shape w l ls m id result h) (neither
      (funds w.accounts l.owner l.point Records == 0) (record_count (l ∷ ls) == 64) e).1

  accessor_shape : (w : Objects) (l : Level) (ls : List Level) (m : Machine) (id : ℕ) (x : Access) →
      HasShape l.owner (l ∷ ls) → KeepsShape l (after_accessor v w l ls m id x)
  accessor_shape w l ls m id (Refuses cause) h = tt
  accessor_shape w l ls m id (Gives result) h =
      result_shape w l ls m id result (is_lock_due id (l.machine.regs 0) (l ∷ ls)) h
  accessor_shape w l ls m id (Changes result i u) h =
      change_shape w l ls m id result i u (is_record_spent w.accounts l ls) refl h

  -- ---- asks

  module _ (images : ImageTable) (p : ℕ) where
    answered_shape : (w : Objects) (q pt : ℕ) (ks : List Level) (g : Option GraftValue) →
        HasShape q ks → outermost_touched ks (Graft q pt) ≡ Held.Exclusive →
        is_running ks q pt ≡ false → (is_some g && length ks == 4) ≡ false → let r =
        ask_answered v images w p q pt ks g in ShapeWhereWent q r.said r.config
    answered_shape w q pt ks None h held other room =
        let d = default_of v w.things q pt in
        shape_on q (answer_innermost pt d.0 d.1 ks) ks (keep_answer pt d.0 d.1 ks) h
    answered_shape w q pt [] (Some g) h held other room = absurd (none_some h.some)
      where
        none_some : 1 ≤ 0 → ⊥
        none_some h = omega arith
    answered_shape w q pt (k ∷ ks) (Some g) h held other room =
        new_shape q (new_level images w p (length (k ∷ ks)) q pt (args_by (kind_of pt) v w.things q
        pt) [] untouched) k ks h refl refl held other (one_more (length (k ∷ ks)) h.most room)
      where
        one_more : (n : ℕ) → n ≤ 4 → (n == 4) ≡ false → suc n ≤ 4
        one_more n h room = grind (arith, nat_tests)

    ask_shape : (w : Objects) (l : Level) (ls : List Level) (m : Machine) (id : ℕ)
        (x : Option Cause) → HasShape l.owner (l ∷ ls) →
        ask_refusal w l.owner (asked_point id (l.machine.regs 0)) id (l ∷ ls) ≡ x →
        KeepsShape l (after_ask v images w p l ls m id (asked_point id (l.machine.regs 0)) x)
    ask_shape w l ls m id (Some cause) h e = tt
    ask_shape w l ls m id None h e =
        let pt = asked_point id (l.machine.regs 0) in
        let asker = with_touched (asked_objects id (l.machine.regs 0) l.owner) (with_machine m l) in
        let o = Graft l.owner pt in
        let ks = touch_outermost o (asker ∷ ls) in
        let asks : KeepOn (asker ∷ ls) (l ∷ ls) = (
          record {
            owner = refl;
            point = refl;
            records = refl;
            kept = refl;
            touched = touch_all_holds (asked_objects id (l.machine.regs 0) l.owner) l.touched;
          },
          keep_self ls,
        ) in
        let keep = keep_then ks (asker ∷ ls) (l ∷ ls) (keep_touch o (asker ∷ ls)) asks in
        let passed = not_refused (is_vain_ask (kind_of pt) w.things l.owner pt)
        (is_running (l ∷ ls) l.owner pt)
        (is_some (w.accounts.graft l.owner pt) && length (l ∷ ls) == 4)
        (BadArgument id) Reentered TooDeep e in
        answered_shape w l.owner pt ks (w.accounts.graft l.owner pt) (shape_on l.owner ks (l ∷ ls) keep h)
        (ap (λ (t : Touched). t o) (outermost_after o asker ls) ∙ touch_here o (outermost_touched (asker ∷ ls)))
        (running_on ks (l ∷ ls) l.owner pt keep ∙ passed.0)
        (ap (λ n. is_some (w.accounts.graft l.owner pt) && n == 4) (length_on ks (l ∷ ls) keep) ∙ passed.1)

    -- ---- calls and answers

    granted_shape : (w : Objects) (l : Level) (ls : List Level) (m : Machine) (id : ℕ) (ask :
        Bool) → HasShape l.owner (l ∷ ls) → KeepsShape l (granted_call v images w p l ls m id ask)
    granted_shape w l ls m id true h =
        ask_shape w l ls m id
        (ask_refusal w l.owner (asked_point id (l.machine.regs 0)) id (l ∷ ls)) h refl
    granted_shape w l ls m id false h =
        accessor_shape w l ls m id
        (access id (l.machine.regs 0) (l.machine.regs 1) (l.machine.regs 2) l.owner w.things) h

    call_shape : (w : Objects) (l : Level) (ls : List Level) (m : Machine) (id : ℕ) (x : Option
        Cause) → HasShape l.owner (l ∷ ls) → KeepsShape l (after_call v images w p l ls m id x)
    call_shape w l ls m id (Some cause) h = tt
    call_shape w l ls m id None h = granted_shape w l ls m id (is_ask id) h

    -- what the innermost level has goes to its asker
    completed_shape : (w : Objects) (l : Level) (ls : List Level) → HasShape l.owner (l ∷ ls) →
        KeepsShape l (completed w l ls)
    completed_shape w l [] h = tt
    completed_shape w l (asker ∷ rest) h =
        let n : Level = record asker {
          machine =
              answered (kind_of l.point) (l.machine.regs 0) (l.machine.regs 1) asker.machine;
          touched = joined l.touched asker.touched;
        } in
        let out = shape_outside l.owner l asker rest h in
        let on = shape_on l.owner (n ∷ rest) (asker ∷ rest) (
          record {
            owner = refl;
            point = refl;
            records = refl;
            kept = refl;
            touched = λ o e. stronger_right (l.touched o) (asker.touched o) e;
          },
          keep_self rest,
        ) out in
        with_records n rest (l.records ++ asker.records) on
        (both_few (length l.records) (length asker.records) (length (l.records ++ asker.records))
        (record_count rest) (length-append l.records asker.records) h.few)
      where
        both_few : (a b c d : ℕ) → c ≡ a + b → a + (b + d) ≤ 64 → c + d ≤ 64
        both_few a b c d e h = omega arith

        with_records : (n : Level) (ks : List Level) (is : List Found) → HasShape l.owner (n ∷ ks) →
            length is + record_count ks ≤ 64 → HasShape l.owner (record n { records = is } ∷ ks)
        with_records n [] is h few =
            record { grafts = h.grafts; acct = h.acct; few = few; most = h.most; some = h.some }
        with_records n (k ∷ ks) is h few =
            record { grafts = h.grafts; acct = h.acct; few = few; most = h.most; some = h.some }

    keeping_shape : (w : Objects) (l : Level) (ls : List Level) (spent : Bool) →
        is_record_spent w.accounts l ls ≡ spent → HasShape l.owner (l ∷ ls) →
        KeepsShape l (after_keeping v w l ls spent)
    keeping_shape w l ls true e h = tt
    keeping_shape w l ls false e h =
        let i = found_segment l.owner l.point w.things in
        let u : Objects = record {
          accounts = charge Records l.owner l.point w.accounts;
          things = set_segment l.owner l.point (Some l.machine.memory) w.things;
        } in
        completed_shape u (record l { records = i ∷ l.records }) ls
        (recorded_shape l.owner l ls i h (neither (funds w.accounts l.owner l.point Records == 0)
        (record_count (l ∷ ls) == 64) e).1)

    answer_shape : (w : Objects) (l : Level) (ls : List Level) (keeps : Bool) →
        HasShape l.owner (l ∷ ls) → KeepsShape l (after_answer v w l ls keeps)
    answer_shape w l ls true h = keeping_shape w l ls (is_record_spent w.accounts l ls) refl h
    answer_shape w l ls false h = completed_shape w l ls h

    return_shape : (w : Objects) (l : Level) (ls : List Level) (b : Bool) →
        HasShape l.owner (l ∷ ls) → KeepsShape l (after_return v images w l ls b)
    return_shape w l ls true h = answer_shape w l ls (keeps_in (image_of images (w.accounts.graft l.owner l.point))) h
    return_shape w l ls false h = tt

    -- ---- one instruction

    machine_shape : (w : Objects) (l : Level) (ls : List Level) (x : Done) →
        HasShape l.owner (l ∷ ls) → KeepsShape l (after_machine v images p w l ls x)
    machine_shape w l ls (Done.Went m) h =
        shape_on l.owner (with_machine m l ∷ ls) (l ∷ ls) (
          record {
            owner = refl;
            point = refl;
            records = refl;
            kept = refl;
            touched = λ o e. e;
          },
          keep_self ls,
        ) h
    machine_shape w l ls (Called id m) h =
        call_shape w l ls m id
        (early_refusal v.callable id (l.machine.regs 0) (l.machine.regs 1) l.owner) h
    machine_shape w l ls Returned h =
        return_shape w l ls
        (valid w.things l.owner l.point l.args (l.machine.regs 0) (l.machine.regs 1)) h
    machine_shape w l ls Done.DividedByZero h = tt
    machine_shape w l ls (Trapped code) h = tt
    machine_shape w l ls Outside h = tt
    machine_shape w l ls PastEnd h = tt

    step_shape : (w : Objects) (l : Level) (ls : List Level) (spent : Bool) →
        HasShape l.owner (l ∷ ls) → KeepsShape l (charged_step v images p w l ls spent)
    step_shape w l ls true h = tt
    step_shape w l ls false h =
        let n = record l { count = l.count + 1 } in
        machine_shape (with_accounts (charge Steps l.owner l.point w.accounts) w) n ls
        (seg_step (code_of images w.accounts l.owner l.point) l.machine)
        (shape_on l.owner (n ∷ ls) (l ∷ ls) (
          record {
            owner = refl;
            point = refl;
            records = refl;
            kept = refl;
            touched = λ o e. e;
          },
          keep_self ls,
        ) h)

    -- an instruction keeps the shape
    pub instruction_shape : (q : ℕ) (w : Objects) (ls : List Level) → HasShape q ls → let r =
        micro_on v images p w ls in ShapeWhereWent q r.said r.config
    instruction_shape q w [] h = h
    instruction_shape q w (l ∷ ls) h =
        let r = micro_on v images p w (l ∷ ls) in
        subst (λ i. ShapeWhereWent i r.said r.config) h.grafts.0 (step_shape w l ls
        (is_spent w.accounts l) (subst (λ i. HasShape i (l ∷ ls)) (sym h.grafts.0) h))
