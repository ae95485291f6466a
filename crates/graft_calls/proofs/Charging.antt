-- What is charged, and what follows where it can't be.
use Rattle.std.proofs.Common.{◌≡◌, ℕ, ◌==◌, ◌&&◌, Bool, true, false, not, cond, List, ◌∷◌, refl, sym, ◌∙◌, ap}
use Rattle.kernel_model.specs.Access.{bare_found}
use Rattle.kernel_model.specs.declared.Inverse.{Inverse}
use Rattle.kernel_model.specs.declared.Kind.TheVariants.{Records, Locks}
use Rattle.kernel_model.specs.declared.Cause.TheVariants.{SpentLocks, SpentRecords}
use Rattle.kernel_model.specs.Machine.{Machine}
use Rattle.kernel_model.specs.Objects.{Objects, Accounts, Things, with_accounts}
use Rattle.kernel_model.specs.World.{World}
use Rattle.kernel_model.specs.Charges.{charge, funds}
use Rattle.kernel_model.specs.Levels.{Level, drop_innermost, goes_on}
use Rattle.kernel_model.specs.GraftStep.{after_result, lock_paid, read_done, after_change}
use Rattle.kernel_model.specs.GraftStep.{after_access, is_record_spent}
use Rattle.graft_levels.specs.Chains.{came}

-- ---- locks

lock_spent : (due spent : Bool) (v : World) (w : Objects) (l : Level) (ls : List Level)
    (m : Machine) (id x : ℕ) → (funds w.accounts l.owner l.point Locks == 0) ≡ spent →
    false ≡ not (due && spent) →
    after_result v w l ls m id x due ≡ drop_innermost v w l ls SpentLocks
lock_spent true true v w l ls m id x funds_are h = ap (lock_paid v w l ls m id x) funds_are
lock_spent true false v w l ls m id x funds_are h = absurd (cc)
lock_spent false true v w l ls m id x funds_are h = absurd (cc)
lock_spent false false v w l ls m id x funds_are h = absurd (cc)

-- a lock that nobody pays for
pub not_paid : (v : World) (w : Objects) (l : Level) (ls : List Level) (m : Machine) (id x : ℕ)
    (due : Bool) → false ≡ not (due && funds w.accounts l.owner l.point Locks == 0) →
    after_result v w l ls m id x due ≡ drop_innermost v w l ls SpentLocks
not_paid v w l ls m id x due h = lock_spent due (funds w.accounts l.owner l.point Locks == 0) v w l ls m id x refl h

lock_given : (due spent : Bool) (v : World) (w : Objects) (l : Level) (ls : List Level)
    (m : Machine) (id x : ℕ) → (funds w.accounts l.owner l.point Locks == 0) ≡ spent →
    true ≡ not (due && spent) →
    came (after_result v w l ls m id x due) ≡ came (read_done (with_accounts
    (cond (due && true) (charge Locks l.owner l.point w.accounts) w.accounts) w) l ls m id x)
lock_given true true v w l ls m id x funds_are h = absurd (cc)
lock_given true false v w l ls m id x funds_are h = ap (λ b. came (lock_paid v w l ls m id x b)) funds_are
lock_given false true v w l ls m id x funds_are h = refl
lock_given false false v w l ls m id x funds_are h = refl

-- a lock that is paid for, or needn't be
pub is_paid : (v : World) (w u : Objects) (l : Level) (ls : List Level)
    (m : Machine) (id x : ℕ) (due ok : Bool) (a : Accounts) → ok ≡ true →
    ok ≡ not (due && funds w.accounts l.owner l.point Locks == 0) →
    a ≡ cond (due && ok) (charge Locks l.owner l.point w.accounts) w.accounts → u ≡ with_accounts a w →
    came (after_result v w l ls m id x due) ≡ came (read_done u l ls m id x)
is_paid v w u l ls m id x due ok a made can charged state =
    lock_given due (funds w.accounts l.owner l.point Locks == 0) v w l ls m id x refl (sym made ∙ can)
    ∙ ap (λ b. came (read_done (with_accounts (cond (due && b)
    (charge Locks l.owner l.point w.accounts) w.accounts) w) l ls m id x)) (sym made)
    ∙ ap (λ b. came (read_done (with_accounts b w) l ls m id x)) (sym charged)
    ∙ ap (λ b. came (read_done b l ls m id x)) (sym state)

-- ---- records

no_record : (spent : Bool) (v : World) (w : Objects) (l : Level) (ls : List Level) (m : Machine)
    (id x : ℕ) (i : Inverse) (u : Things) → false ≡ not spent →
    after_change v w l ls m id x i u spent ≡ drop_innermost v w l ls SpentRecords
no_record true v w l ls m id x i u h = refl
no_record false v w l ls m id x i u h = absurd (cc)

-- no record can be made
pub not_recorded : (v : World) (w : Objects) (l : Level) (ls : List Level) (m : Machine) (id x : ℕ)
    (i : Inverse) (u : Things) (spent : Bool) → is_record_spent w.accounts l ls ≡ spent →
    false ≡ not spent →
    after_change v w l ls m id x i u (is_record_spent w.accounts l ls) ≡ drop_innermost v w l ls SpentRecords
not_recorded v w l ls m id x i u spent same h =
    ap (after_change v w l ls m id x i u) same ∙ no_record spent v w l ls m id x i u h

some_record : (spent : Bool) (v : World) (w : Objects) (l : Level) (ls : List Level) (m : Machine)
    (id x : ℕ) (i : Inverse) (u : Things) → true ≡ not spent →
    came (after_change v w l ls m id x i u spent)
    ≡ came (goes_on (record { accounts = charge Records l.owner l.point w.accounts; things = u })
    (record (after_access l m id x) { records = bare_found i ∷ l.records } ∷ ls))
some_record true v w l ls m id x i u h = absurd (cc)
some_record false v w l ls m id x i u h = refl

-- a record is made
pub is_recorded : (v : World) (w : Objects) (l : Level) (ls : List Level) (m : Machine) (id x : ℕ)
    (i : Inverse) (u : Things) (spent : Bool) → is_record_spent w.accounts l ls ≡ spent →
    true ≡ not spent →
    came (after_change v w l ls m id x i u (is_record_spent w.accounts l ls))
    ≡ came (goes_on (record { accounts = charge Records l.owner l.point w.accounts; things = u })
    (record (after_access l m id x) { records = bare_found i ∷ l.records } ∷ ls))
is_recorded v w l ls m id x i u spent same h =
    ap (λ b. came (after_change v w l ls m id x i u b)) same
    ∙ some_record spent v w l ls m id x i u h

-- where nothing was charged the accounts are the same
pub uncharged : (ok : Bool) (a b c : Accounts) → ok ≡ false → a ≡ cond ok b c → a ≡ c
uncharged ok a b c failed is = is ∙ ap (λ x. cond x b c) failed

pub unpaid : (due ok : Bool) (a b c : Accounts) → ok ≡ false → a ≡ cond (due && ok) b c → a ≡ c
unpaid true ok a b c failed is = is ∙ ap (λ x. cond x b c) failed
unpaid false ok a b c failed is = is
