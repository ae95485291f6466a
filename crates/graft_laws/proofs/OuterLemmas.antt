-- What an instruction does to the levels outside the innermost one, and that its effects, made again, do the same.
use Rattle.std.specs.Prelude.{◌≡◌, ℕ, ◌+◌, ◌==◌, ◌&&◌, ◌||◌, not, Bool, true, false, List, [], ◌∷◌}
use Rattle.std.specs.Prelude.{◌++◌, length, Option, Some, None, is_some}
use Rattle.std.proofs.Common.{refl, sym, ap, ◌∙◌}
use Rattle.kernel_model.specs.declared.Held.{Held}
use Rattle.kernel_model.specs.declared.Kind.{Kind}
use Rattle.kernel_model.specs.declared.Kind.TheVariants.{Steps, Records, Locks}
use Rattle.kernel_model.specs.declared.Cause.{Cause}
use Rattle.kernel_model.specs.declared.Cause.TheVariants.{SpentSteps, SpentRecords, SpentLocks, RefusedAnswer}
use Rattle.kernel_model.specs.declared.Inverse.{Inverse}
use Rattle.kernel_model.specs.declared.Micro.{Micro}
use Rattle.kernel_model.specs.declared.Object.{Object}
use Rattle.kernel_model.specs.declared.Object.TheVariants.{Graft}
use Rattle.kernel_model.specs.World.{World, ImageTable}
use Rattle.kernel_model.specs.Objects.{Objects, Accounts, Things, GraftValue, with_accounts}
use Rattle.kernel_model.specs.Machine.{Machine, Done, Called, Returned, Trapped, Outside, PastEnd, seg_step}
use Rattle.kernel_model.specs.Policies.{valid, kind_of, default_of, args_by}
use Rattle.kernel_model.specs.Charges.{funds, charge, removed}
use Rattle.kernel_model.specs.Access.{Found, bare_found, found_segment, set_segment, Access, Gives}
use Rattle.kernel_model.specs.Access.{Changes, Refuses, access, early_refusal, is_ask, asked_point}
use Rattle.kernel_model.specs.Access.{asked_objects, asked_graft}
use Rattle.kernel_model.specs.declared.Mode.{Mode}
use Rattle.kernel_model.specs.Locks.{touch, is_held, joined, untouched}
use Rattle.kernel_model.specs.Levels.{Level, Config, Effect, Asked, Charged, Removed, Outcome}
use Rattle.kernel_model.specs.Levels.{image_of, keeps_in, code_of, limit_in, goes_on, with_effect}
use Rattle.kernel_model.specs.Levels.{new_level, with_machine, with_touched, touch_outermost}
use Rattle.kernel_model.specs.Levels.{outermost_touched, answered, answer_innermost}
use Rattle.kernel_model.specs.Levels.{drop_innermost}
use Rattle.kernel_model.specs.GraftStep.{after_access, is_lock_due, lock_paid, after_result}
use Rattle.kernel_model.specs.GraftStep.{record_count, is_record_spent, after_change}
use Rattle.kernel_model.specs.GraftStep.{after_accessor, ask_refusal, ask_answered, after_ask}
use Rattle.kernel_model.specs.GraftStep.{granted_call, after_call, completed, after_keeping}
use Rattle.kernel_model.specs.GraftStep.{after_answer, after_return, after_machine, is_spent}
use Rattle.kernel_model.specs.GraftStep.{charged_step, micro_on}
use Rattle.kernel_model.specs.History.{is_found, config_if, with_accounts_of, effect, effects_on}
use Rattle.kernel_laws.proofs.ConfigLemmas.{charge_stands}

-- ---- effects that find what they need

-- the levels outside another one, after an instruction that asked a point of q, or none
abbrev pub touched_by : ℕ → Option ℕ → List Level → List Level
touched_by q None ls = ls
touched_by q (Some pt) ls = touch_outermost (Graft q pt) ls

pub effect_then : (q : ℕ) (e : Effect) (es : List Effect) (c u d : Config) → effect q e c ≡ Some u →
    effects_on q es u ≡ Some d → effects_on q (e ∷ es) c ≡ Some d
effect_then q e es c u d first rest =
    ap (λ (x : Option Config). elim x as (λ _. Option Config) [
      | None ↦ None
      | Some y ↦ effects_on q es y
    ]) first ∙ rest

-- a graft that level 0 holds is found
found_by : (a : Accounts) (x : Things) (n k : Level) (ks : List Level) (q pt : ℕ) →
    outermost_touched (k ∷ ks) (Graft q pt) ≡ Held.Exclusive → is_some (a.graft q pt) ≡ true →
    is_found q pt (record { now = record { accounts = a; things = x }; levels = n ∷ k ∷ ks }) ≡ true
found_by a x n k ks q pt held stands =
    ap (λ b. b && is_held (outermost_touched (k ∷ ks) (Graft q pt))) stands ∙ ap (λ (h : Held). is_held h) held

pub charge_again :
    (a : Accounts) (x : Things) (n k : Level) (ks : List Level) (q pt : ℕ) (kind : Kind) →
    outermost_touched (k ∷ ks) (Graft q pt) ≡ Held.Exclusive → is_some (a.graft q pt) ≡ true →
    (funds a q pt kind == 0) ≡ false →
    effect q (Charged pt kind) (record { now = record { accounts = a; things = x }; levels = n ∷ k ∷ ks })
    ≡ Some (record { now = record { accounts = charge kind q pt a; things = x }; levels = n ∷ k ∷ ks })
charge_again a x n k ks q pt kind held stands enough =
    let c : Config = record { now = record { accounts = a; things = x }; levels = n ∷ k ∷ ks } in
    ap (λ b. config_if (b && not (funds a q pt kind == 0))
    (with_accounts_of (charge kind q pt a) c)) (found_by a x n k ks q pt held stands)
    ∙ ap (λ b. config_if (not b) (with_accounts_of (charge kind q pt a) c)) enough

pub remove_again : (a : Accounts) (x : Things) (n k : Level) (ks : List Level) (q pt : ℕ) →
    outermost_touched (k ∷ ks) (Graft q pt) ≡ Held.Exclusive → is_some (a.graft q pt) ≡ true →
    effect q (Removed pt) (record { now = record { accounts = a; things = x }; levels = n ∷ k ∷ ks })
    ≡ Some (record { now = record { accounts = removed q pt a; things = x }; levels = n ∷ k ∷ ks })
remove_again a x n k ks q pt held stands =
    let c : Config = record { now = record { accounts = a; things = x }; levels = n ∷ k ∷ ks } in
    ap (λ b. config_if b (with_accounts_of (removed q pt a) c)) (found_by a x n k ks q pt held stands)

-- ---- the levels outside

-- a level of the same graft, which found the same
pub record IsSameGraft (n l : Level) : Type 0 where
  pub owner : n.owner ≡ l.owner
  pub point : n.point ≡ l.point
  pub kept : n.kept ≡ l.kept

-- What an instruction of level l inside others (ls) makes of them, where it asked a point or none.
pub data Outer (v : World) (l : Level) (ls : List Level) (asked : Option ℕ) (said : Micro) (c : Config) : Type 0 where
  Stays : (n : Level) → said ≡ Micro.Went → c.levels ≡ n ∷ touched_by l.owner asked ls →
      IsSameGraft n l → Outer v l ls asked said c
  Starts : (n b : Level) → said ≡ Micro.Went → c.levels ≡ n ∷ b ∷ touched_by l.owner asked ls →
      IsSameGraft b l → n.owner ≡ l.owner → n.kept ≡ c.now.things →
      Outer v l ls asked said c
  Answers : (a b : Level) (rest : List Level) → said ≡ Micro.Went → ls ≡ a ∷ rest → asked ≡ None →
      c.levels ≡ b ∷ rest → IsSameGraft b a → Outer v l ls asked said c
  Lost : (cause : Cause) → said ≡ Micro.Dropped (length ls) l.owner l.point cause →
      c ≡ record {
        now = record { accounts = c.now.accounts; things = l.kept };
        levels =
            answer_innermost l.point (default_of v l.kept l.owner l.point).0
            (default_of v l.kept l.owner l.point).1 ls;
      } → asked ≡ None → Outer v l ls asked said c
  Over : (answer : List ℕ) → said ≡ Micro.Completed answer → Outer v l ls asked said c

-- An instruction's outcome, and that its effects lead from other things and an inner level like it to the same.
pub record Replays (v : World) (w : Objects) (l : Level) (ls : List Level) (o : Outcome) : Type 0 where
  pub asked : Option ℕ
  pub effects : (x : Things) (n k : Level) (ks : List Level) →
      outermost_touched (k ∷ ks) (Graft l.owner l.point) ≡ Held.Exclusive →
      effects_on l.owner o.effects (record { now = record { accounts = w.accounts; things = x }; levels = n ∷ k ∷ ks })
      ≡ Some (record {
        now = record { accounts = o.config.now.accounts; things = x };
        levels = n ∷ touched_by l.owner asked (k ∷ ks);
      })
  pub outer : Outer v l ls asked o.said o.config

same_self : (l : Level) → IsSameGraft l l
same_self l = record { owner = refl; point = refl; kept = refl }

-- level 0 touches one more object: the innermost level stays one of its graft
pub touch_splits : (o : Object) (b : Level) (ls : List Level) →
    (c : Level) × (touch_outermost o (b ∷ ls) ≡ c ∷ touch_outermost o ls) × IsSameGraft c b
touch_splits o b [] = (
  record b { touched = touch o Mode.Exclusive b.touched },
  refl,
  record { owner = refl; point = refl; kept = refl },
)
touch_splits o b (k ∷ ls) = (b, refl, same_self b)

-- an outcome after a charge of the innermost level's graft
charged_replays : (v : World) (w : Objects) (l : Level) (ls : List Level) (kind : Kind)
    (o : Outcome) → is_some (w.accounts.graft l.owner l.point) ≡ true →
    (funds w.accounts l.owner l.point kind == 0) ≡ false →
    Replays v (with_accounts (charge kind l.owner l.point w.accounts) w) l ls o →
    Replays v w l ls (with_effect (Charged l.point kind) o)
charged_replays v w l ls kind o stands enough h =
    record {
      asked = h.asked;
      effects =
          λ x n k ks held. effect_then l.owner (Charged l.point kind) o.effects
          (record { now = record { accounts = w.accounts; things = x }; levels = n ∷ k ∷ ks })
          (record {
            now = record { accounts = charge kind l.owner l.point w.accounts; things = x };
            levels = n ∷ k ∷ ks;
          })
          (record {
            now = record { accounts = o.config.now.accounts; things = x };
            levels = n ∷ touched_by l.owner h.asked (k ∷ ks);
          })
          (charge_again w.accounts x n k ks l.owner l.point kind held stands enough) (h.effects x n k ks held);
      outer = h.outer;
    }

-- the innermost level goes on, on the same accounts
stays_replay : (v : World) (w x : Objects) (l n : Level) (ls : List Level) →
    w.accounts ≡ x.accounts → IsSameGraft n l → Replays v w l ls (goes_on x (n ∷ ls))
stays_replay v w x l n ls same grafts =
    record {
      asked = None;
      effects =
          λ y m k ks held. ap (λ (a : Accounts). Some
          (record { now = record { accounts = a; things = y }; levels = m ∷ k ∷ ks })) same;
      outer = Stays n refl refl grafts;
    }

-- the first of two tests fails where neither passes
pub first_fails : (a b : Bool) → (a || b) ≡ false → a ≡ false
first_fails true b e = absurd cc
first_fails false b e = refl

module _ (v : World) where
  drop_replays : (w : Objects) (l : Level) (ls : List Level) (cause : Cause) →
      is_some (w.accounts.graft l.owner l.point) ≡ true →
      Replays v w l ls (drop_innermost v w l ls cause)
  drop_replays w l ls cause stands =
      record {
        asked = None;
        effects =
            λ x n k ks held. effect_then l.owner (Removed l.point) []
            (record { now = record { accounts = w.accounts; things = x }; levels = n ∷ k ∷ ks })
            (record { now = record { accounts = removed l.owner l.point w.accounts; things = x }; levels = n ∷ k ∷ ks })
            (record { now = record { accounts = removed l.owner l.point w.accounts; things = x }; levels = n ∷ k ∷ ks })
            (remove_again w.accounts x n k ks l.owner l.point held stands) refl;
        outer = Lost cause refl refl refl;
      }

  -- ---- accessors

  lock_replays : (w : Objects) (l : Level) (ls : List Level) (m : Machine) (id result : ℕ)
      (spent : Bool) → (funds w.accounts l.owner l.point Locks == 0) ≡ spent →
      is_some (w.accounts.graft l.owner l.point) ≡ true → Replays v w l ls (lock_paid v w l ls m id result spent)
  lock_replays w l ls m id result true e stands = drop_replays w l ls SpentLocks stands
  lock_replays w l ls m id result false e stands =
      let x = with_accounts (charge Locks l.owner l.point w.accounts) w in
      charged_replays v w l ls Locks (goes_on x (after_access l m id result ∷ ls)) stands e
      (stays_replay v x x l (after_access l m id result) ls refl (record { owner = refl; point = refl; kept = refl }))

  result_replays : (w : Objects) (l : Level) (ls : List Level) (m : Machine) (id result : ℕ)
      (due : Bool) → is_some (w.accounts.graft l.owner l.point) ≡ true →
      Replays v w l ls (after_result v w l ls m id result due)
  result_replays w l ls m id result true stands =
      lock_replays w l ls m id result (funds w.accounts l.owner l.point Locks == 0) refl stands
  result_replays w l ls m id result false stands =
      stays_replay v w w l (after_access l m id result) ls refl
      (record { owner = refl; point = refl; kept = refl })

  change_replays : (w : Objects) (l : Level) (ls : List Level) (m : Machine) (id result : ℕ)
      (i : Inverse) (y : Things) (spent : Bool) → is_record_spent w.accounts l ls ≡ spent →
      is_some (w.accounts.graft l.owner l.point) ≡ true → Replays v w l ls (after_change v w l ls m id result i y spent)
  change_replays w l ls m id result i y true e stands = drop_replays w l ls SpentRecords stands
  change_replays w l ls m id result i y false e stands =
      let x = with_accounts (charge Records l.owner l.point w.accounts) w in
      let z : Objects = record { accounts = charge Records l.owner l.point w.accounts; things = y } in
      let n = record (after_access l m id result) { records = bare_found i ∷ l.records } in
      charged_replays v w l ls Records (goes_on z (n ∷ ls)) stands (first_fails
      (funds w.accounts l.owner l.point Records == 0) (record_count (l ∷ ls) == 64) e)
      (stays_replay v x z l n ls refl (record { owner = refl; point = refl; kept = refl }))

  accessor_replays : (w : Objects) (l : Level) (ls : List Level) (m : Machine) (id : ℕ)
      (a : Access) → is_some (w.accounts.graft l.owner l.point) ≡ true →
      Replays v w l ls (after_accessor v w l ls m id a)
  accessor_replays w l ls m id (Refuses cause) stands = drop_replays w l ls cause stands
  accessor_replays w l ls m id (Gives result) stands =
      result_replays w l ls m id result (is_lock_due id (l.machine.regs 0) (l ∷ ls)) stands
  accessor_replays w l ls m id (Changes result i y) stands =
      change_replays w l ls m id result i y (is_record_spent w.accounts l ls) refl stands

  module _ (images : ImageTable) (p : ℕ) where
    -- ---- asks

    -- by whether a graft stands
    answered_outer : (w : Objects) (l b : Level) (ls ks : List Level) (pt : ℕ)
        (g : Option GraftValue) → ks ≡ b ∷ touch_outermost (Graft l.owner pt) ls → IsSameGraft b l →
        Outer v l ls (Some pt) (ask_answered v images w p l.owner pt ks g).said
        (ask_answered v images w p l.owner pt ks g).config
    answered_outer w l b ls ks pt None e same =
        let d = default_of v w.things l.owner pt in
        Stays (with_machine (answered (kind_of pt) d.0 d.1 b.machine) b)
        refl (ap (answer_innermost pt d.0 d.1) e)
        (record { owner = same.owner; point = same.point; kept = same.kept })
    answered_outer w l b ls ks pt (Some g) e same =
        let n = new_level images w p (length ks) l.owner pt (args_by (kind_of pt) v w.things l.owner pt) [] untouched in
        Starts n b refl (ap (λ xs. n ∷ xs) e) same refl refl

    answered_said : (w : Objects) (q pt : ℕ) (ks : List Level) (g : Option GraftValue) →
        (ask_answered v images w p q pt ks g).effects ≡ []
    answered_said w q pt ks None = refl
    answered_said w q pt ks (Some g) = refl

    answered_accounts : (w : Objects) (q pt : ℕ) (ks : List Level) (g : Option GraftValue) →
        (ask_answered v images w p q pt ks g).config.now.accounts ≡ w.accounts
    answered_accounts w q pt ks None = refl
    answered_accounts w q pt ks (Some g) = refl

    ask_replays : (w : Objects) (l : Level) (ls : List Level) (m : Machine) (id pt : ℕ)
        (c : Option Cause) → is_some (w.accounts.graft l.owner l.point) ≡ true →
        (asked_graft id (l.machine.regs 0) l.owner).object ≡ Graft l.owner pt →
        Replays v w l ls (after_ask v images w p l ls m id pt c)
    ask_replays w l ls m id pt (Some cause) stands g = drop_replays w l ls cause stands
    ask_replays w l ls m id pt None stands g =
        let asker = with_touched (asked_objects id (l.machine.regs 0) l.owner) (with_machine m l) in
        let o = (asked_graft id (l.machine.regs 0) l.owner).object in
        let ks = touch_outermost o (asker ∷ ls) in
        let split = touch_splits (Graft l.owner pt) asker ls in
        let r = ask_answered v images w p l.owner pt ks (w.accounts.graft l.owner pt) in
        record {
          asked = Some pt;
          effects = λ x n k js held.
              ap (λ es. effects_on l.owner (Asked pt ∷ es) (record {
                now =
                    record { accounts = w.accounts; things = x };
                levels = n ∷ k ∷ js;
              }))
              (answered_said w l.owner pt ks (w.accounts.graft l.owner pt))
              ∙ ap (λ (a : Accounts). Some (record {
                now = record { accounts = a; things = x };
                levels = n ∷ touch_outermost (Graft l.owner pt) (k ∷ js);
              })) (sym (answered_accounts w l.owner pt ks (w.accounts.graft l.owner pt)));
          outer =
              answered_outer w l split.0 ls ks pt (w.accounts.graft l.owner pt)
              (ap (λ a. touch_outermost a (asker ∷ ls)) g ∙ split.1)
              (record { owner = split.2.owner; point = split.2.point; kept = split.2.kept });
        }

    -- ---- calls and answers

    granted_replays : (w : Objects) (l : Level) (ls : List Level) (m : Machine) (id : ℕ)
        (ask : Bool) → is_some (w.accounts.graft l.owner l.point) ≡ true →
        Replays v w l ls (granted_call v images w p l ls m id ask)
    granted_replays w l ls m id true stands =
        ask_replays w l ls m id (asked_point id (l.machine.regs 0))
        (ask_refusal w l.owner (asked_point id (l.machine.regs 0)) id (l ∷ ls)) stands refl
    granted_replays w l ls m id false stands =
        accessor_replays w l ls m id
        (access id (l.machine.regs 0) (l.machine.regs 1) (l.machine.regs 2) l.owner w.things) stands

    call_replays : (w : Objects) (l : Level) (ls : List Level) (m : Machine) (id : ℕ)
        (c : Option Cause) → is_some (w.accounts.graft l.owner l.point) ≡ true →
        Replays v w l ls (after_call v images w p l ls m id c)
    call_replays w l ls m id (Some cause) stands = drop_replays w l ls cause stands
    call_replays w l ls m id None stands = granted_replays w l ls m id (is_ask id) stands

    completed_replays : (w : Objects) (l : Level) (ls : List Level) → Replays v w l ls (completed w l ls)
    completed_replays w l [] = record { asked = None; effects = λ x n k ks held. refl; outer = Over _ refl }
    completed_replays w l (a ∷ rest) =
        let b = record a {
          machine = answered (kind_of l.point) (l.machine.regs 0) (l.machine.regs 1) a.machine;
          touched = joined l.touched a.touched;
          records = l.records ++ a.records;
        } in
        record {
          asked = None;
          effects = λ x n k ks held. refl;
          outer = Answers a b rest refl refl refl refl
              (record { owner = refl; point = refl; kept = refl });
        }

    -- other counts and records of the level don't matter
    like_outer : (l : Level) (c : ℕ) (is : List Found) (ls : List Level) (asked : Option ℕ)
        (said : Micro) (d : Config) →
        Outer v (record l { count = c; records = is }) ls asked said d → Outer v l ls asked said d
    like_outer l c is ls asked said d (Stays n e f same) =
        Stays n e f (record { owner = same.owner; point = same.point; kept = same.kept })
    like_outer l c is ls asked said d (Starts n b e f same owner kept) =
        Starts n b e f
        (record { owner = same.owner; point = same.point; kept = same.kept }) owner kept
    like_outer l c is ls asked said d (Answers a b rest e f g h same) = Answers a b rest e f g h same
    like_outer l c is ls asked said d (Lost cause e f g) = Lost cause e f g
    like_outer l c is ls asked said d (Over answer e) = Over answer e

    -- the segment is kept, or no record can be made
    keeping_replays : (w : Objects) (l : Level) (ls : List Level) (spent : Bool) →
        is_record_spent w.accounts l ls ≡ spent →
        is_some (w.accounts.graft l.owner l.point) ≡ true →
        Replays v w l ls (after_keeping v w l ls spent)
    keeping_replays w l ls true e stands = drop_replays w l ls SpentRecords stands
    keeping_replays w l ls false e stands =
        let x : Objects = record {
          accounts = charge Records l.owner l.point w.accounts;
          things = set_segment l.owner l.point (Some l.machine.memory) w.things;
        } in
        let is = found_segment l.owner l.point w.things ∷ l.records in
        let n = record l { records = is } in
        let o = completed x n ls in
        let h = completed_replays x n ls in
        charged_replays v w l ls Records o stands (first_fails
        (funds w.accounts l.owner l.point Records == 0) (record_count (l ∷ ls) == 64) e)
        (record {
          asked = h.asked;
          effects = h.effects;
          outer = like_outer l l.count is ls h.asked o.said o.config h.outer;
        })

    -- an answer that the point accepts
    answer_replays : (w : Objects) (l : Level) (ls : List Level) (keeps : Bool) →
        is_some (w.accounts.graft l.owner l.point) ≡ true →
        Replays v w l ls (after_answer v w l ls keeps)
    answer_replays w l ls true stands = keeping_replays w l ls (is_record_spent w.accounts l ls) refl stands
    answer_replays w l ls false stands = completed_replays w l ls

    return_replays : (w : Objects) (l : Level) (ls : List Level) (b : Bool) →
        is_some (w.accounts.graft l.owner l.point) ≡ true →
        Replays v w l ls (after_return v images w l ls b)
    return_replays w l ls true stands =
        answer_replays w l ls (keeps_in (image_of images (w.accounts.graft l.owner l.point))) stands
    return_replays w l ls false stands =
        drop_replays w l ls (RefusedAnswer (l.machine.regs 0) (l.machine.regs 1)) stands

    -- ---- one instruction

    machine_replays : (w : Objects) (l : Level) (ls : List Level) (d : Done) →
        is_some (w.accounts.graft l.owner l.point) ≡ true →
        Replays v w l ls (after_machine v images p w l ls d)
    machine_replays w l ls (Done.Went m) stands =
        stays_replay v w w l (with_machine m l) ls refl
        (record { owner = refl; point = refl; kept = refl })
    machine_replays w l ls (Called id m) stands =
        call_replays w l ls m id
        (early_refusal v.callable id (l.machine.regs 0) (l.machine.regs 1) l.owner) stands
    machine_replays w l ls Returned stands =
        return_replays w l ls
        (valid w.things l.owner l.point l.args (l.machine.regs 0) (l.machine.regs 1)) stands
    machine_replays w l ls Done.DividedByZero stands = drop_replays w l ls Cause.DivideByZero stands
    machine_replays w l ls (Trapped code) stands = drop_replays w l ls (Cause.Trap code) stands
    machine_replays w l ls Outside stands = drop_replays w l ls Cause.DivideByZero stands
    machine_replays w l ls PastEnd stands = drop_replays w l ls Cause.DivideByZero stands

    step_replays : (w : Objects) (l : Level) (ls : List Level) (spent : Bool) →
        is_spent w.accounts l ≡ spent → is_some (w.accounts.graft l.owner l.point) ≡ true →
        Replays v w l ls (charged_step v images p w l ls spent)
    step_replays w l ls true e stands = drop_replays w l ls SpentSteps stands
    step_replays w l ls false e stands =
        let x = with_accounts (charge Steps l.owner l.point w.accounts) w in
        let n = record l { count = l.count + 1 } in
        let d = seg_step (code_of images w.accounts l.owner l.point) l.machine in
        let h = machine_replays x n ls d (charge_stands w.accounts l.owner l.point l.owner l.point Steps stands) in
        let o = after_machine v images p x n ls d in
        charged_replays v w l ls Steps o stands
        (second_fails (l.count == limit_in (w.accounts.graft l.owner l.point))
        (funds w.accounts l.owner l.point Steps == 0) e)
        (record {
          asked = h.asked;
          effects = h.effects;
          outer = like_outer l (l.count + 1) l.records ls h.asked o.said o.config h.outer;
        })
      where
        second_fails : (a b : Bool) → (a || b) ≡ false → b ≡ false
        second_fails true b e = absurd cc
        second_fails false b e = e

    pub levels_replay : (w : Objects) (l : Level) (ls : List Level) →
        is_some (w.accounts.graft l.owner l.point) ≡ true →
        Replays v w l ls (micro_on v images p w (l ∷ ls))
    levels_replay w l ls stands = step_replays w l ls (is_spent w.accounts l) refl stands
