-- A step of a call that stands alone in the order, which the code then leaves alone.
use Rattle.std.proofs.Common.{◌≡◌, ◌≢◌, ℕ, ◌<◌, ◌==◌, Bool, true, false, not, cond, List, [], ◌∷◌}
use Rattle.std.proofs.Common.{◌++◌, filter, length, refl, ap, sym, subst, ◌∙◌, arith, Option, Some}
use Rattle.std.proofs.Common.{None}
use Rattle.std.specs.Prelude.{is_some, option_map}
use Rattle.std.proofs.lemmas.Bool.Decides.{nat_tests}
use Rattle.kernel_model.specs.declared.Note.{Note}
use Rattle.kernel_model.specs.Kernel.{new_entry, less_entry}
use Rattle.kernel_model.specs.Meaning.{Meaning}
use Rattle.call_pieces.specs.Disks.{DiskSeen}
use Rattle.placed_laws.specs.Keeping.{StepsStand, HeldStays}
use Rattle.placed_laws.specs.Placed.{Placed, PlacedCall, PlacedLevel, placed_blocker}
use Rattle.placed_laws.specs.PlacedSteps.{is_placed_at_piece, placed_call_step, placed_requeue, placed_step}
use Rattle.placed_laws.specs.Soundness.{SoundInPlace}
use Rattle.running_kernel.specs.declared.order.Waiting.{Waiting}
use Rattle.running_kernel.specs.declared.running.InFlight.{InFlight}
use Rattle.running_kernel.specs.declared.running.Running.{Running}
use Rattle.running_kernel.specs.Idle.{joined_in, joined_if}
use Rattle.running_kernel.specs.Orders.{order_of, counts_within, are_processes, are_once, joined, numbers_of}
use Rattle.running_kernel.specs.Views.{placed_of, call_at, call_in_place, IsRunning, HasAbstraction, Simulates}
use Rattle.kernel_steps.specs.Moments.{kernel_moment}
use Rattle.kernel_steps.specs.Runs.{RefinesAndKeeps}
use Rattle.kernel_steps.specs.Steps.{StepDone}
use Rattle.kernel_steps.proofs.RunningLemmas.{requeued}
use Rattle.kernel_steps.proofs.WholeLemmas.{did_requeued, did_step, requeue_keeps}
use Rattle.kernel_steps.proofs.WholeLemmas.{running_after_step, stood_after_step, stood_requeued}

-- ---- the order

-- the only entry leaves none
none_left : (p : ℕ) → less_entry p (new_entry p ∷ []) ≡ []
none_left p = grind (arith, nat_tests)

-- a call that goes on takes the same place again
goes_on : (p : ℕ) (ws : List Waiting) → ws ≡ [] → order_of (ws ++ joined p ∷ [])
    ≡ less_entry p (order_of (ws ++ joined p ∷ [])) ++ new_entry p ∷ []
goes_on p ws none =
    subst (λ vs. order_of (vs ++ joined p ∷ []) ≡ less_entry p (order_of (vs ++ joined p ∷ []))
    ++ new_entry p ∷ []) (sym none) (ap (λ es. es ++ new_entry p ∷ []) (sym (none_left p)))

-- one that has ended leaves it
has_ended : (p : ℕ) (ws : List Waiting) → ws ≡ [] → order_of ws ≡ less_entry p (order_of (ws ++ joined p ∷ [])) ++ []
has_ended p ws none =
    subst (λ vs. order_of vs ≡ less_entry p (order_of (vs ++ joined p ∷ [])) ++ []) (sym none)
    (ap (λ es. es ++ []) (sym (none_left p)))

requeued_alone : {C B M : Type 0} {P : _} (x : Running C B M P) (p : ℕ) (b : Bool) → x.order ≡ [] →
    b ≡ is_placed_at_piece ((placed_of x).call p) ((placed_of x).levels p) →
    Simulates (placed_requeue p) (placed_of (joined_in p x)) (placed_of (joined_if b p x))
requeued_alone x p true none at notes blocks io =
    requeued (joined_in p x) p true (x.order ++ joined p ∷ []) at (goes_on p x.order none)
    notes blocks io
requeued_alone x p false none at notes blocks io =
    requeued (joined_in p x) p false x.order at (has_ended p x.order none) notes blocks io

-- ---- what always holds

running_if : {C B M : Type 0} {P : _} (x : Running C B M P) (p : ℕ) (b : Bool) → x.order ≡ [] →
    IsRunning (joined_in p x) → IsRunning (joined_if b p x)
running_if x p true none r = r
running_if x p false none r =
    record {
      sixteen = r.sixteen;
      callers = r.callers;
      placed = r.placed;
      inside = r.inside;
      counts = ap (counts_within x.clock) none;
      order = ap are_processes none;
      once = ap (λ ws. are_once (numbers_of ws)) none;
      loaded = r.loaded;
      owner = r.owner;
      own = r.own;
    }

-- the next step of a call without levels is a piece, where it has not ended
pub at_piece : (o : Option InFlight) (ls : List PlacedLevel) → ls ≡ [] →
    is_some o ≡ is_placed_at_piece (option_map call_in_place o) ls
at_piece None ls none = refl
at_piece (Some f) ls none = ap (is_placed_at_piece (Some (call_in_place f))) (sym none)

-- ---- the step

pub went_alone : {C B M : Type 0} {P : _} (m : Meaning) → SoundInPlace m → StepsStand m →
    HeldStays m → (x y : Running C B M P) (p : ℕ) (c : PlacedCall) (b : Bool)
    (kept kept_new : List Note) (d e : DiskSeen) →
    IsRunning x → p < 16 → HasAbstraction m (placed_of x) → call_at x p ≡ Some c →
    placed_blocker m (placed_of x) p ≡ None → y.order ≡ [] →
    b ≡ is_placed_at_piece ((placed_of y).call p) ((placed_of y).levels p) →
    StepDone (placed_call_step m p (call_at x p)) p (kernel_moment x kept d)
    (kernel_moment (joined_in p y) kept_new e) → RefinesAndKeeps m (placed_step m p)
    (kernel_moment x kept d) (kernel_moment (joined_if b p y) kept_new e)
went_alone m sound law held x y p c b kept kept_new d e r small s is free none at h =
    let w = joined_in p y in
    let z = joined_if b p y in
    let goes : Simulates (placed_requeue p) (placed_of w) (placed_of z) = requeued_alone y p b none at in
    record {
      refines = did_step m (placed_of x) (placed_of z) p kept kept_new d e
          (did_requeued (λ r. placed_call_step m p (call_at x p) r) (placed_of x) (placed_of w)
          (placed_of z) p kept kept_new d e h.refines goes);
      running =
          running_if y p b none
          (running_after_step m sound law held x w p c kept kept_new d e r small s is free h);
      abstraction =
          stood_requeued m p (placed_of w) (placed_of z) goes
          (stood_after_step m law x w p c kept kept_new d e s is free h);
      world = ap (λ (v : Placed). v.world) (requeue_keeps p (placed_of w) (placed_of z) goes) ∙ h.stepped.world;
      clock = ap (λ (v : Placed). v.clock) (requeue_keeps p (placed_of w) (placed_of z) goes) ∙ h.stepped.clock;
    }
