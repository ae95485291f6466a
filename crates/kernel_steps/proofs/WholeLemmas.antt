-- A whole step of a call, and the drop of one of its levels.
use Rattle.std.proofs.Common.{append-nil, ◌≡◌, ◌≢◌, ℕ, ◌<◌, Bool, true, cond, List, [], ◌∷◌, ◌++◌}
use Rattle.std.proofs.Common.{length, refl, ap, sym, subst, ◌∙◌, arith, Option, Some, None}
use Rattle.std.specs.Prelude.{is_some}
use Rattle.kernel_model.specs.declared.Cause.{Cause}
use Rattle.kernel_model.specs.declared.Note.{Note}
use Rattle.kernel_model.specs.World.{Blocks}
use Rattle.kernel_model.specs.Objects.{SameAt}
use Rattle.kernel_model.specs.Meaning.{Meaning}
use Rattle.kernel_model.specs.Kernel.{Call, Waiter, Run, new_entry, less_entry, has_level}
use Rattle.kernel_model.specs.Settle.{step}
use Rattle.kernel_model.specs.Events.{drop_call}
use Rattle.kernel_model.specs.Levels.{drop_level}
use Rattle.kernel_model.specs.Sound.{HasWholeBlocks}
use Rattle.call_pieces.specs.Disks.{DiskSeen}
use Rattle.placed_laws.specs.Agreeing.{SameShown}
use Rattle.placed_laws.specs.Keeping.{StepsStand, DropsStand, HeldStays as HeldStaysInPlace}
use Rattle.placed_laws.specs.Placed.{Placed, PlacedCall, PlacedLevel, PlacedRun, has_some}
use Rattle.placed_laws.specs.Placed.{placed_blocker, placed_config}
use Rattle.placed_laws.specs.PlacedSteps.{is_placed_at_piece, placed_call_step, placed_drop}
use Rattle.placed_laws.specs.PlacedSteps.{placed_drop_by, placed_outcome, placed_requeue}
use Rattle.placed_laws.specs.PlacedSteps.{placed_step}
use Rattle.placed_laws.specs.Soundness.{SoundInPlace}
use Rattle.placed_laws.specs.Stands.{StandsFor, RunStandsFor, without_history}
use Rattle.running_kernel.specs.declared.running.Running.{Running}
use Rattle.kernel_steps.specs.Moves.{HeldStays}
use Rattle.kernel_steps.specs.Steps.{StepDone}
use Rattle.kernel_steps.specs.Moments.{kernel_moment}
use Rattle.kernel_steps.specs.Refines.{Reaches, Refines}
use Rattle.running_kernel.specs.Views.{placed_of, levels_at, call_at, run_of, IsRunning, HasAbstraction, Simulates}
use Rattle.kernel_steps.proofs.AgainLemmas.{runs_again}
use Rattle.kernel_steps.specs.Composing.{adds_none, did_as, did_purely, did_then, reaches_as, reaches_before}
use Rattle.running_kernel.proofs.ViewLemmas.{holds_in_place}

-- ---- what stands for a kernel goes on to

-- an event under way from what stands for a kernel, over some whole blocks
run_stands : (m : Meaning) (x : Placed) (s : HasAbstraction m x) (blocks : Blocks)
    (io : List Bool) → HasWholeBlocks x.world blocks →
    RunStandsFor m (run_of x blocks [] io) (record { kernel = s.kernel; blocks = blocks; notes = []; io = io })
run_stands m x s blocks io whole =
    record {
      kernel = s.stands;
      blocks = refl;
      notes = refl;
      io = refl;
      whole = subst (λ v. HasWholeBlocks v blocks) s.stands.world whole;
    }

-- after a step
stood_stepped : (m : Meaning) → StepsStand m → (x y : Placed) (p : ℕ) (c : PlacedCall) →
    HasAbstraction m x → x.call p ≡ Some c → placed_blocker m x p ≡ None →
    Reaches (placed_step m p) x y → HasAbstraction m y
stood_stepped m law x y p c s is free reach =
    let r : Run = record { kernel = s.kernel; blocks = reach.blocks; notes = []; io = reach.io } in
    let after = law (run_of x reach.blocks [] reach.io) r p c
    (run_stands m x s reach.blocks reach.io reach.whole) is free in
    record {
      kernel = (step m p r).kernel;
      stands = subst (λ z. StandsFor m z (step m p r).kernel) (reach.goes []) after.kernel;
    }

-- after the drop of a level
stood_dropped : (m : Meaning) → DropsStand m → (x y : Placed) (p d : ℕ) (cause : Cause) →
    HasAbstraction m x → d < length (x.levels p) → Reaches (placed_drop m p d cause) x y →
    HasAbstraction m y
stood_dropped m law x y p d cause s low reach =
    let r : Run = record { kernel = s.kernel; blocks = reach.blocks; notes = []; io = reach.io } in
    let after = law (run_of x reach.blocks [] reach.io) r p d cause
    (run_stands m x s reach.blocks reach.io reach.whole) low in
    let k = drop_call m p (r.kernel.call p) (Some d) cause r in
    record { kernel = k.kernel; stands = subst (λ z. StandsFor m z k.kernel) (reach.goes []) after.kernel }

-- ---- what others hold

held_stepped : {C B M : Type 0} {P : _} (m : Meaning) → HeldStaysInPlace m →
    (x y : Running C B M P) (es : List Waiter) (p q : ℕ) (c : PlacedCall) → IsRunning x →
    HasAbstraction m (placed_of x) → call_at x p ≡ Some c → placed_blocker m (placed_of x) p ≡ None → q ≢ p →
    Reaches (placed_step m p) (placed_of x) (record (placed_of y) { order = es }) → HeldStays x y q
held_stepped m law x y es p q c r s is free other reach d o own =
    let z = placed_of x in
    subst (λ (w : Placed). SameAt o w.objects z.objects) (reach.goes [])
    (law.steps (run_of z reach.blocks [] reach.io)
    (record { kernel = s.kernel; blocks = reach.blocks; notes = []; io = reach.io }) p q d c o
    (run_stands m z s reach.blocks reach.io reach.whole) is free other
    (ap (λ t. t q d o) (holds_in_place x r) ∙ own))

held_dropped : {C B M : Type 0} {P : _} (m : Meaning) → HeldStaysInPlace m →
    (x y : Running C B M P) (es : List Waiter) (p q n : ℕ) (cause : Cause) → IsRunning x →
    HasAbstraction m (placed_of x) → n < length (levels_at x p) → q ≢ p →
    Reaches (placed_drop m p n cause) (placed_of x) (record (placed_of y) { order = es }) → HeldStays x y q
held_dropped m law x y es p q n cause r s low other reach d o own =
    let z = placed_of x in
    subst (λ (w : Placed). SameAt o w.objects z.objects) (reach.goes [])
    (law.drops (run_of z reach.blocks [] reach.io)
    (record { kernel = s.kernel; blocks = reach.blocks; notes = []; io = reach.io }) p q d n
    cause o (run_stands m z s reach.blocks reach.io reach.whole) low other
    (ap (λ t. t q d o) (holds_in_place x r) ∙ own))

-- ---- the order

-- the order once p has taken its place in it
abbrev pub requeued_order : ℕ → Placed → List Waiter
requeued_order p y = less_entry p y.order ++ cond (is_placed_at_piece (y.call p) (y.levels p)) (new_entry p ∷ []) []

requeue_same : (p : ℕ) (r : PlacedRun) (y : Placed) → r.placed ≡ y →
    (placed_requeue p r).placed ≡ record y { order = requeued_order p y }
requeue_same p r y h = ap (λ (x : Placed). record x { order = requeued_order p x }) h

-- ---- a whole step

step_reaches : (m : Meaning) (x y : Placed) (p : ℕ) →
    Reaches (placed_call_step m p (x.call p)) x y →
    Reaches (placed_step m p) x (record y { order = requeued_order p y })
step_reaches m x y p h =
    reaches_as (placed_step m p) (λ r. placed_requeue p (placed_call_step m p (x.call p) r)) x
    (record y { order = requeued_order p y }) (λ blocks notes io. refl)
    (reaches_before (placed_call_step m p (x.call p)) (placed_requeue p) x y
    (record y { order = requeued_order p y }) (λ r is. requeue_same p r y is) h)

pub stood_after_step : {C B M : Type 0} {P : _} (m : Meaning) → StepsStand m →
    (x y : Running C B M P) (p : ℕ) (c : PlacedCall) (kept kept_new : List Note) (d e : DiskSeen) →
    HasAbstraction m (placed_of x) → call_at x p ≡ Some c → placed_blocker m (placed_of x) p ≡ None →
    StepDone (placed_call_step m p (call_at x p)) p
    (kernel_moment x kept d) (kernel_moment y kept_new e) →
    HasAbstraction m (record (placed_of y) { order = requeued_order p (placed_of y) })
stood_after_step m law x y p c kept kept_new d e s is free h =
    let o = placed_of x in
    let z = placed_of y in
    stood_stepped m law o (record z { order = requeued_order p z }) p c s is free (step_reaches m o z p h.reaches)

pub running_after_step : {C B M : Type 0} {P : _} (m : Meaning) →
    SoundInPlace m → StepsStand m → HeldStaysInPlace m →
    (x y : Running C B M P) (p : ℕ) (c : PlacedCall) (kept kept_new : List Note) (d e : DiskSeen) →
    IsRunning x → p < 16 → HasAbstraction m (placed_of x) → call_at x p ≡ Some c →
    placed_blocker m (placed_of x) p ≡ None →
    StepDone (placed_call_step m p (call_at x p)) p (kernel_moment x kept d) (kernel_moment y kept_new e) → IsRunning y
running_after_step m sound law held x y p c kept kept_new d e r small s is free h =
    let z = placed_of y in
    runs_again m sound x y (requeued_order p z) p h.own.owner r small s
    (stood_after_step m law x y p c kept kept_new d e s is free h) h.stepped h.own.own
    (λ q other. held_stepped m held x y (requeued_order p z) p q c r s is free other
    (step_reaches m (placed_of x) z p h.reaches))

-- once the call took its place
pub stood_requeued : (m : Meaning) (p : ℕ) (y z : Placed) → Simulates (placed_requeue p) y z →
    HasAbstraction m (record y { order = requeued_order p y }) → HasAbstraction m z
stood_requeued m p y z goes s = subst (HasAbstraction m) (ap (λ (r : PlacedRun). r.placed) (goes [] (λ b. []) [])) s

-- a change, and then its place in the order
pub did_requeued : (f : PlacedRun → PlacedRun) (x y z : Placed) (p : ℕ) (kept kept_new : List Note)
    (d e : DiskSeen) → Refines f (kernel_moment x kept d) (kernel_moment y kept_new e) →
    Simulates (placed_requeue p) y z →
    Refines (λ r. placed_requeue p (f r)) (kernel_moment x kept d) (kernel_moment z kept_new e)
did_requeued f x y z p kept kept_new d e h goes =
    did_then f (placed_requeue p) x y z kept kept_new kept_new d e e h
    (did_purely (placed_requeue p) y z kept_new kept_new [] e (λ blocks notes io.
    goes notes blocks io ∙ ap (λ ns. run_of z blocks ns io) (sym (append-nil notes)))
    (adds_none kept_new) refl)

pub did_step : (m : Meaning) (x z : Placed) (p : ℕ) (kept kept_new : List Note) (d e : DiskSeen) →
    Refines (λ r. placed_requeue p (placed_call_step m p (x.call p) r))
    (kernel_moment x kept d) (kernel_moment z kept_new e) →
    Refines (placed_step m p) (kernel_moment x kept d) (kernel_moment z kept_new e)
did_step m x z p kept kept_new d e h =
    did_as (placed_step m p) (λ r. placed_requeue p (placed_call_step m p (x.call p) r)) x z kept
    kept_new d e (λ blocks notes io. refl) h

-- ---- the drop of a level

-- a call with levels has a drop
drop_is : (m : Meaning) (p n : ℕ) (c : PlacedCall) (cause : Cause) (ls : List PlacedLevel)
    (r : PlacedRun) → has_some ls ≡ true →
    placed_drop_by m p (Some c) ls n cause r ≡ placed_requeue p (placed_outcome m p c
    (drop_level r.placed.world r.placed.objects (placed_config r.placed p).levels n cause) r)
drop_is m p n c cause [] r some = grind (arith, some)
drop_is m p n c cause (l ∷ ls) r some = refl

-- the change of a drop but for the order
abbrev pub drop_change : Meaning → ℕ → ℕ → PlacedCall → Cause → PlacedRun → PlacedRun
drop_change m p n c cause r =
    placed_outcome m p c
    (drop_level r.placed.world r.placed.objects (placed_config r.placed p).levels n cause) r

drop_as : (m : Meaning) (x : Placed) (p n : ℕ) (c : PlacedCall) (cause : Cause) →
    x.call p ≡ Some c → has_some (x.levels p) ≡ true →
    (blocks : Blocks) (notes : List Note) (io : List Bool) →
    placed_drop m p n cause (run_of x blocks notes io)
    ≡ placed_requeue p (drop_change m p n c cause (run_of x blocks notes io))
drop_as m x p n c cause is some blocks notes io =
    ap (λ call. placed_drop_by m p call (x.levels p) n cause (run_of x blocks notes io)) is
    ∙ drop_is m p n c cause (x.levels p) (run_of x blocks notes io) some

drop_reaches : (m : Meaning) (x y : Placed) (p n : ℕ) (c : PlacedCall) (cause : Cause) →
    x.call p ≡ Some c → has_some (x.levels p) ≡ true → Reaches (drop_change m p n c cause) x y →
    Reaches (placed_drop m p n cause) x (record y { order = requeued_order p y })
drop_reaches m x y p n c cause is some h =
    reaches_as (placed_drop m p n cause) (λ r. placed_requeue p (drop_change m p n c cause r)) x
    (record y { order = requeued_order p y }) (drop_as m x p n c cause is some)
    (reaches_before (drop_change m p n c cause) (placed_requeue p) x y
    (record y { order = requeued_order p y }) (λ r is. requeue_same p r y is) h)

pub stood_after_drop : {C B M : Type 0} {P : _} (m : Meaning) → DropsStand m → (x y : Running C B M
    P) (p n : ℕ) (c : PlacedCall) (cause : Cause) (kept kept_new : List Note) (d e : DiskSeen) →
    HasAbstraction m (placed_of x) → call_at x p ≡ Some c → n < length (levels_at x p) →
    has_some (levels_at x p) ≡ true →
    StepDone (drop_change m p n c cause) p (kernel_moment x kept d) (kernel_moment y kept_new e) →
    HasAbstraction m (record (placed_of y) { order = requeued_order p (placed_of y) })
stood_after_drop m law x y p n c cause kept kept_new d e s is low some h =
    let o = placed_of x in
    let z = placed_of y in
    stood_dropped m law o (record z { order = requeued_order p z }) p n cause s low
    (drop_reaches m o z p n c cause is some h.reaches)

pub running_after_drop : {C B M : Type 0} {P : _} (m : Meaning) → SoundInPlace m → DropsStand m →
    HeldStaysInPlace m → (x y : Running C B M P) (p n : ℕ) (c : PlacedCall) (cause : Cause)
    (kept kept_new : List Note) (d e : DiskSeen) →
    IsRunning x → p < 16 → HasAbstraction m (placed_of x) → call_at x p ≡ Some c →
    n < length (levels_at x p) → has_some (levels_at x p) ≡ true →
    StepDone (drop_change m p n c cause) p (kernel_moment x kept d) (kernel_moment y kept_new e) → IsRunning y
running_after_drop m sound law held x y p n c cause kept kept_new d e r small s is low some h =
    let z = placed_of y in
    runs_again m sound x y (requeued_order p z) p h.own.owner r small s (stood_after_drop m law x y
    p n c cause kept kept_new d e s is low some h) h.stepped h.own.own
    (λ q other. held_dropped m held x y (requeued_order p z) p q n cause r s low other
    (drop_reaches m (placed_of x) z p n c cause is some h.reaches))

pub did_drop : (m : Meaning) (x z : Placed) (p n : ℕ) (c : PlacedCall) (cause : Cause) (kept
    kept_new : List Note) (d e : DiskSeen) → x.call p ≡ Some c → has_some (x.levels p) ≡ true →
    Refines (λ r. placed_requeue p (drop_change m p n c cause r))
    (kernel_moment x kept d) (kernel_moment z kept_new e) →
    Refines (placed_drop m p n cause) (kernel_moment x kept d) (kernel_moment z kept_new e)
did_drop m x z p n c cause kept kept_new d e is some h =
    did_as (placed_drop m p n cause) (λ r. placed_requeue p (drop_change m p n c cause r)) x z kept
    kept_new d e (drop_as m x p n c cause is some) h

-- a call in a graft is there
pub has_call : (m : Meaning) → SameShown m → (x : Placed) (p : ℕ) → HasAbstraction m x →
    has_some (x.levels p) ≡ true → is_some (x.call p) ≡ true
has_call m shown x p s some =
    by_call (s.kernel.call p) (shown.level x s.kernel p s.stands ∙ some) (s.stands.calls p)
  where
    by_call : (c : Option Call) → has_level c ≡ true → x.call p ≡ without_history c → is_some (x.call p) ≡ true
    by_call None h is = grind (arith, h)
    by_call (Some c) h is = ap is_some is

-- a call that there is
pub call_is : (o : Option PlacedCall) → is_some o ≡ true → (c : PlacedCall) × (o ≡ Some c)
call_is None h = grind (arith, h)
call_is (Some c) h = (c, refl)

-- there is a level where one has a number
pub some_by_more : (ls : List PlacedLevel) (n : ℕ) → n < length ls → has_some ls ≡ true
some_by_more [] n h = absurd (omega (arith, h))
some_by_more (l ∷ ls) n h = refl

-- what a place in the order leaves
pub requeue_keeps : (p : ℕ) (y z : Placed) → Simulates (placed_requeue p) y z →
    z ≡ record y { order = requeued_order p y }
requeue_keeps p y z goes = sym (ap (λ (r : PlacedRun). r.placed) (goes [] (λ b. []) []))
