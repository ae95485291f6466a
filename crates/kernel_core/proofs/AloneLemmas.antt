-- A call that begins where no other waits.
use Rattle.std.proofs.Common.{◌≡◌, ℕ, zero, suc, List, [], ◌∷◌, ◌++◌, Bool, Option, Some}
use Rattle.std.proofs.Common.{None, arith, refl, ap, subst, sym, true, ◌∙◌}
use Rattle.std.specs.Prelude.{Contains, is_some}
use Rattle.kernel_model.specs.declared.Note.{Note}
use Rattle.kernel_model.specs.World.{Blocks}
use Rattle.kernel_model.specs.Kernel.{Waiter, new_entry}
use Rattle.kernel_model.specs.Meaning.{Meaning}
use Rattle.placed_laws.specs.Agreeing.{SameShown}
use Rattle.placed_laws.specs.Placed.{Placed, placed_blocker, placed_holds}
use Rattle.placed_laws.specs.PlacedSteps.{placed_first_free, placed_first_free_in, placed_rested_order}
use Rattle.placed_laws.specs.PlacedEvents.{placed_rested, placed_settle}
use Rattle.call_pieces.specs.Disks.{DiskSeen}
use Rattle.running_kernel.specs.declared.order.Waiting.{Waiting}
use Rattle.running_kernel.specs.declared.running.Running.{Running}
use Rattle.running_kernel.specs.Idle.{joined_in}
use Rattle.running_kernel.specs.Orders.{entry_of, order_of, joined}
use Rattle.running_kernel.specs.Views.{placed_of, call_at, run_of, IsRunning, HasAbstraction}
use Rattle.kernel_steps.specs.Moments.{kernel_moment}
use Rattle.kernel_steps.specs.Runs.{CanRun, IsSoundOn, RefinesAndKeeps}
use Rattle.kernel_core.proofs.SettleLemmas.{settle_blocked}
use Rattle.kernel_core.proofs.WentLemmas.{ordered_called, went_as, went_nothing}

-- ---- the order

-- what the code's order is once the call has joined it
pub now_joined : {C B M : Type 0} {P : _} (x : Running C B M P) (p : ℕ) (w : Waiting) (ws : List
    Waiting) → w ≡ joined p → ws ≡ x.order ++ w ∷ [] → record x { order = ws } ≡ joined_in p x
now_joined x p w ws w_is ws_is = ap (λ vs. record x { order = vs }) (ws_is ∙ ap (λ v. x.order ++ v ∷ []) w_is)

-- the only call in the order is the first that nothing blocks, where nothing blocks it
pub first_alone : {C B M : Type 0} {P : _} (m : Meaning) (x : Running C B M P) (p : ℕ) →
    x.order ≡ [] → placed_blocker m (placed_of (joined_in p x)) p ≡ None →
    placed_first_free m (placed_of (joined_in p x)) (placed_of (joined_in p x)).order ≡ Some p
first_alone m x p none free =
    let z = placed_of (joined_in p x) in
    ap (λ ws. placed_first_free m z (order_of (ws ++ joined p ∷ []))) none
    ∙ ap (λ o. elim o as (λ _. Option ℕ) [ None ↦ Some p | Some b ↦ placed_first_free_in m z (placed_holds z) [] ]) free

-- ---- what settling is where no call waits

rests_empty : (m : Meaning) (x : Placed) → x.order ≡ [] →
    (blocks : Blocks) (notes : List Note) (io : List Bool) →
    placed_rested m (run_of x blocks notes io) ≡ run_of x blocks notes io
rests_empty m x none blocks notes io =
    ap (λ es. run_of (record x { order = placed_rested_order m x es }) blocks notes io) none
    ∙ ap (λ es. run_of (record x { order = es }) blocks notes io) (sym none)

settles_empty : (m : Meaning) (n : ℕ) (x : Placed) → x.order ≡ [] →
    (blocks : Blocks) (notes : List Note) (io : List Bool) →
    placed_settle m n (run_of x blocks notes io) ≡ run_of x blocks notes io
settles_empty m zero x none blocks notes io = rests_empty m x none blocks notes io
settles_empty m (suc n) x none blocks notes io =
    settle_blocked m (suc n) x (omega arith) (ap (placed_first_free m x) none) blocks notes io
    ∙ rests_empty m x none blocks notes io

-- so nothing is left to do
pub went_empty : {C B M : Type 0} {P : _} (m : Meaning) (n : ℕ) (x : Running C B M P) (kept : List
    Note) (d : DiskSeen) → x.order ≡ [] → IsRunning x → HasAbstraction m (placed_of x) →
    RefinesAndKeeps m (placed_settle m n) (kernel_moment x kept d) (kernel_moment x kept d)
went_empty m n x kept d none running abstraction =
    went_as m (placed_settle m n) (λ r. r) x x kept kept d d (settles_empty m n (placed_of x)
    (ap order_of none)) (went_nothing m x kept d running abstraction)

-- a call that has joined the order can run
pub can_joined : {C B M : Type 0} {P : _} (m : Meaning) (x y : Running C B M P) (seen : DiskSeen)
    (p : ℕ) → y ≡ joined_in p x → CanRun m (joined_in p x) seen p → CanRun m y seen p
can_joined m x y seen p same at = subst (λ z. CanRun m z seen p) (sym same) at

last_entry : (es : List Waiter) (e : Waiter) → Contains (es ++ e ∷ []) e
last_entry [] e = (0, omega arith, refl)
last_entry (f ∷ es) e = let h = last_entry es e in (suc h.0, omega (arith, h.1), h.2)

-- and is one that there is
pub joined_called : {C B M : Type 0} {P : _} (m : Meaning) → SameShown m → (x : Running C B M P) (p : ℕ) →
    HasAbstraction m (placed_of (joined_in p x)) → is_some (call_at x p) ≡ true
joined_called m shown x p s =
    ordered_called m shown (placed_of (joined_in p x)) (new_entry p) s
    (subst (λ es. Contains es (new_entry p)) (sym (orders_joined x.order (joined p ∷ [])))
    (last_entry (order_of x.order) (new_entry p)))
  where
    orders_joined : (vs ws : List Waiting) → order_of (vs ++ ws) ≡ order_of vs ++ order_of ws
    orders_joined [] ws = refl
    orders_joined (v ∷ vs) ws = ap (λ es. entry_of v ∷ es) (orders_joined vs ws)

-- a kernel that stands for a sound one on its disk
pub sound_joined : {C B M : Type 0} {P : _} (m : Meaning) (x y : Running C B M P) (seen : DiskSeen)
    (p : ℕ) → y ≡ joined_in p x → CanRun m (joined_in p x) seen p → IsSoundOn m y seen
sound_joined m x y seen p same at =
    subst (λ z. IsSoundOn m z seen) (sym same)
    (record { running = at.running; abstraction = at.abstraction; disk = at.disk })
