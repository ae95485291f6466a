-- Changes that begin at rest.
use Rattle.std.proofs.Common.{append_assoc, ◌≡◌, ℕ, true, false, Bool, List, ◌++◌, Option, Some}
use Rattle.std.proofs.Common.{None, refl, ap, sym, subst, ◌∙◌}
use Rattle.kernel_model.specs.declared.Note.{Note}
use Rattle.kernel_model.specs.World.{Blocks}
use Rattle.kernel_model.specs.Meaning.{Meaning}
use Rattle.kernel_model.specs.Kernel.{Blocker, Run, joins}
use Rattle.kernel_model.specs.Settle.{settled, step}
use Rattle.kernel_model.specs.Events.{in_order}
use Rattle.kernel_model.specs.Sound.{HasWholeBlocks, IsAtRest}
use Rattle.call_pieces.specs.Joined.{made_joined}
use Rattle.call_pieces.specs.Disks.{DiskSeen}
use Rattle.placed_laws.specs.Keeping.{OthersStand, StepsStand}
use Rattle.placed_laws.specs.Placed.{Placed, PlacedCall, PlacedRun, has_some, placed_blocker}
use Rattle.placed_laws.specs.PlacedSteps.{placed_joins, placed_step}
use Rattle.placed_laws.specs.PlacedEvents.{placed_settled}
use Rattle.placed_laws.specs.Resting.{KeepsHolds, Resting}
use Rattle.placed_laws.specs.Stands.{StandsFor, RunStandsFor}
use Rattle.running_kernel.specs.declared.running.Running.{Running}
use Rattle.kernel_steps.specs.Composing.{faults_joined}
use Rattle.kernel_steps.specs.Faults.{fault_notes}
use Rattle.kernel_steps.specs.Moments.{kernel_moment}
use Rattle.kernel_steps.specs.Runs.{RefinesAndKeeps}
use Rattle.kernel_core.specs.EventParts.{taken_up, RefinesFromRest, RefinesToRest, Rests, RunsFromRest}
use Rattle.kernel_steps.specs.Refines.{Refines, RunMatches}
use Rattle.running_kernel.specs.Views.{placed_of, run_of}

-- ---- what always holds

-- ---- what was done

-- from anywhere, and so from rest
pub from_did : (m : Meaning) (f : PlacedRun → PlacedRun) (x y : Placed) (kept kept_new : List Note)
    (d e : DiskSeen) → Refines f (kernel_moment x kept d) (kernel_moment y kept_new e) →
    RefinesFromRest m f (kernel_moment x kept d) (kernel_moment y kept_new e)
from_did m f x y kept kept_new d e h =
    record {
      io = h.io;
      made = h.made;
      goes = λ blocks notes rest s tells k. h.goes blocks notes rest tells k;
      faulted = h.faulted;
    }

-- so is one that keeps the kernel running
pub runs_from : {C B M : Type 0} {P : _} (m : Meaning) (f : PlacedRun → PlacedRun)
    (x y : Running C B M P) (kept kept_new : List Note) (d e : DiskSeen) →
    RefinesAndKeeps m f (kernel_moment x kept d) (kernel_moment y kept_new e) →
    RunsFromRest m f (kernel_moment x kept d) (kernel_moment y kept_new e)
runs_from m f x y kept kept_new d e h =
    record {
      refines = from_did m f (placed_of x) (placed_of y) kept kept_new d e h.refines;
      on = record { running = h.running; abstraction = h.abstraction; world = h.world; clock = h.clock };
    }

-- where another change comes to the same from rest
pub runs_as : {C B M : Type 0} {P : _} (m : Meaning) (f g : PlacedRun → PlacedRun)
    (x y : Running C B M P) (kept kept_new : List Note) (d e : DiskSeen) →
    ((blocks : Blocks) (notes : List Note) (io : List Bool) → Rests m (placed_of x) blocks →
    f (run_of (placed_of x) blocks notes io) ≡ g (run_of (placed_of x) blocks notes io)) →
    RefinesAndKeeps m g (kernel_moment x kept d) (kernel_moment y kept_new e) →
    RunsFromRest m f (kernel_moment x kept d) (kernel_moment y kept_new e)
runs_as m f g x y kept kept_new d e same h =
    record {
      refines = record {
        io = h.refines.io;
        made = h.refines.made;
        goes =
            λ blocks notes rest s tells k. subst (λ r. RunMatches r (placed_of y) kept_new e.known rest)
            (sym (same blocks notes (h.refines.io ++ rest) s)) (h.refines.goes blocks notes rest tells k);
        faulted = h.refines.faulted;
      };
      on = record { running = h.running; abstraction = h.abstraction; world = h.world; clock = h.clock };
    }

-- another change that comes to the same
pub from_as : (m : Meaning) (f g : PlacedRun → PlacedRun) (x y : Placed) (kept kept_new : List Note)
    (d e : DiskSeen) → ((blocks : Blocks) (notes : List Note) (io : List Bool) →
    f (run_of x blocks notes io) ≡ g (run_of x blocks notes io)) →
    RefinesFromRest m g (kernel_moment x kept d) (kernel_moment y kept_new e) →
    RefinesFromRest m f (kernel_moment x kept d) (kernel_moment y kept_new e)
from_as m f g x y kept kept_new d e same h =
    record {
      io = h.io;
      made = h.made;
      goes =
          λ blocks notes rest s tells k. subst (λ r. RunMatches r y kept_new e.known rest)
          (sym (same blocks notes (h.io ++ rest))) (h.goes blocks notes rest s tells k);
      faulted = h.faulted;
    }

-- and another change after it
pub from_then : (m : Meaning) (f g : PlacedRun → PlacedRun) (x y z : Placed) (a b c : List Note)
    (d e l : DiskSeen) → RefinesFromRest m f (kernel_moment x a d) (kernel_moment y b e) →
    Refines g (kernel_moment y b e) (kernel_moment z c l) →
    RefinesFromRest m (λ r. g (f r)) (kernel_moment x a d) (kernel_moment z c l)
from_then m f g x y z a b c d e l first second =
    record {
      io = first.io ++ second.io;
      made = made_joined d e l first.io second.io first.made second.made;
      goes = λ blocks notes rest s tells k.
          let one = subst (λ io. RunMatches (f (run_of x blocks notes io)) y b e.known
          (second.io ++ rest)) (sym (append_assoc first.io second.io rest))
          (first.goes blocks notes (second.io ++ rest) s tells k) in
          let r : PlacedRun = f (run_of x blocks notes ((first.io ++ second.io) ++ rest)) in
          subst (λ q. RunMatches (g q) z c l.known rest) (sym (run_is r y b e.known (second.io ++ rest) one))
          (second.goes r.blocks r.notes rest one.blocks one.notes);
      faulted =
          faults_joined (fault_notes a) (fault_notes b) (fault_notes c) first.io second.io
          first.faulted second.faulted;
    }
  where
    run_is : (r : PlacedRun) (y : Placed) (kept : List Note) (known : Option (List (List ℕ)))
        (rest : List Bool) → RunMatches r y kept known rest → r ≡ run_of y r.blocks r.notes rest
    run_is r y kept known rest h =
        ap (λ z. record { placed = z; blocks = r.blocks; notes = r.notes; io = r.io }) h.placed
        ∙ ap (λ io. record { placed = y; blocks = r.blocks; notes = r.notes; io = io }) h.io

-- ---- to rest

-- from an event under way one change comes to the same as another, and leaves what stands for an event at rest
pub record RestedAs (m : Meaning) (f g : PlacedRun → PlacedRun) (r : PlacedRun) : Type 0 where
  pub same : f r ≡ g r
  pub run : Run
  pub stands : RunStandsFor m (g r) run
  pub rests : IsAtRest m run.kernel

-- the change g was done, which comes to the same as f and leaves rest
pub did_to_rest : (m : Meaning) (f g : PlacedRun → PlacedRun) (x y : Placed) (kept kept_new : List
    Note) (d e : DiskSeen) → Refines g (kernel_moment x kept d) (kernel_moment y kept_new e) →
    ((blocks : Blocks) (notes : List Note) (io : List Bool) → Rests m x blocks →
    (g (run_of x blocks notes io)).placed ≡ y → RestedAs m f g (run_of x blocks notes io)) →
    RefinesToRest m f (kernel_moment x kept d) (kernel_moment y kept_new e)
did_to_rest m f g x y kept kept_new d e refines how =
    record {
      refines = record {
        io = refines.io;
        made = refines.made;
        goes = λ blocks notes rest s tells k.
            let came = refines.goes blocks notes rest tells k in
            subst (λ r. RunMatches r y kept_new e.known rest)
            (sym (how blocks notes (refines.io ++ rest) s came.placed).same) came;
        faulted = refines.faulted;
      };
      rests = λ blocks notes rest s tells k.
          let came = refines.goes blocks notes rest tells k in
          let a = how blocks notes (refines.io ++ rest) s came.placed in
          subst (λ (r : PlacedRun). Rests m y r.blocks) (sym a.same)
          (record {
            kernel = a.run.kernel;
            stands = subst (λ z. StandsFor m z a.run.kernel) came.placed a.stands.kernel;
            rests = a.rests;
            whole = subst (HasWholeBlocks a.run.kernel.world) (sym a.stands.blocks) a.stands.whole;
          });
    }

module _ (m : Meaning) (x : Placed) where
  -- an event under way at rest
  abbrev pub run_from : (blocks : Blocks) → List Note → List Bool → Rests m x blocks → Run
  run_from blocks notes io s = record { kernel = s.kernel; blocks = blocks; notes = notes; io = io }

  pub stands_from : (blocks : Blocks) (notes : List Note) (io : List Bool) (s : Rests m x blocks) →
      RunStandsFor m (run_of x blocks notes io) (run_from blocks notes io s)
  stands_from blocks notes io s = record { kernel = s.stands; blocks = refl; notes = refl; io = refl; whole = s.whole }

  -- nothing was done
  pub rested_same : (f : PlacedRun → PlacedRun) →
      ((blocks : Blocks) (notes : List Note) (io : List Bool) →
      f (run_of x blocks notes io) ≡ run_of x blocks notes io) →
      (blocks : Blocks) (notes : List Note) (io : List Bool) → Rests m x blocks →
      RestedAs m f (λ r. r) (run_of x blocks notes io)
  rested_same f same blocks notes io s =
      record {
        same = same blocks notes io;
        run = run_from blocks notes io s;
        stands = stands_from blocks notes io s;
        rests = s.rests;
      }

  -- all steps were taken after a change that leaves what stands
  rested_settled : Resting m →
      (f g : PlacedRun → PlacedRun) (blocks : Blocks) (notes : List Note) (io : List Bool) →
      f (run_of x blocks notes io) ≡ placed_settled m (g (run_of x blocks notes io)) → (u : Run) →
      RunStandsFor m (g (run_of x blocks notes io)) u →
      RestedAs m f (λ r. placed_settled m (g r)) (run_of x blocks notes io)
  rested_settled law f g blocks notes io same u h =
      let k = law.settling (g (run_of x blocks notes io)) u h in
      record { same = same; run = settled m u; stands = k.0; rests = k.1 }

  -- a blocked call joined the order
  pub rested_joined : OthersStand m → Resting m → (p : ℕ) (b : Blocker) →
      has_some (x.levels p) ≡ true → in_order p x.order ≡ false → placed_blocker m x p ≡ Some b →
      ((blocks : Blocks) (notes : List Note) (io : List Bool) → taken_up m p (run_of x blocks notes
      io) ≡ placed_settled m (placed_joins p (run_of x blocks notes io))) →
      (blocks : Blocks) (notes : List Note) (io : List Bool) → Rests m x blocks → RestedAs m
      (taken_up m p) (λ r. placed_settled m (placed_joins p r)) (run_of x blocks notes io)
  rested_joined others law p b level away blocked same blocks notes io s =
      rested_settled law (taken_up m p) (placed_joins p) blocks notes io (same blocks notes io)
      (joins p (run_from blocks notes io s))
      (others.joining (run_of x blocks notes io) (run_from blocks notes io s) p b
      (stands_from blocks notes io s) level away blocked)

  -- an instruction was taken up, and then all steps that there were
  pub rested_stepped : StepsStand m → Resting m → (p : ℕ) (c : PlacedCall) → x.call p ≡ Some c →
      placed_blocker m x p ≡ None →
      ((blocks : Blocks) (notes : List Note) (io : List Bool) → taken_up m p (run_of x blocks notes
      io) ≡ placed_settled m (placed_step m p (run_of x blocks notes io))) →
      (blocks : Blocks) (notes : List Note) (io : List Bool) → Rests m x blocks → RestedAs m
      (taken_up m p) (λ r. placed_settled m (placed_step m p r)) (run_of x blocks notes io)
  rested_stepped steps law p c there free same blocks notes io s =
      rested_settled law (taken_up m p) (placed_step m p) blocks notes io (same blocks notes io)
      (step m p (run_from blocks notes io s))
      (steps (run_of x blocks notes io) (run_from blocks notes io s) p c (stands_from blocks notes io s) there free)

  -- an instruction that left what its call holds: there was no step to take
  pub rested_still : StepsStand m → Resting m → (p : ℕ) (c : PlacedCall) (y : Placed) →
      x.call p ≡ Some c → placed_blocker m x p ≡ None → has_some (x.levels p) ≡ true →
      in_order p x.order ≡ false → KeepsHolds m x y p →
      ((blocks : Blocks) (notes : List Note) (io : List Bool) → taken_up m p (run_of x blocks notes
      io) ≡ placed_settled m (placed_step m p (run_of x blocks notes io))) →
      (blocks : Blocks) (notes : List Note) (io : List Bool) → Rests m x blocks →
      (placed_step m p (run_of x blocks notes io)).placed ≡ y →
      RestedAs m (taken_up m p) (placed_step m p) (run_of x blocks notes io)
  rested_still steps law p c y there free level away keeps same blocks notes io s is =
      let r = run_of x blocks notes io in
      let u = run_from blocks notes io s in
      let h = stands_from blocks notes io s in
      let after = steps r u p c h there free in
      let rests = law.still r u p c h s.rests there free (record {
        level = level;
        away = away;
        keeps = subst (λ (z : Placed). KeepsHolds m x z p) (sym is) keeps;
      }) in
      record {
        same = same blocks notes io ∙ law.rested (placed_step m p r) (step m p u) after rests;
        run = step m p u;
        stands = after;
        rests = rests;
      }
