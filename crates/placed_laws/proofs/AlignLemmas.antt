-- A kernel in place is told by its store and by the abstract kernel that it stands for.
use Rattle.std.specs.Prelude.{◌≡◌, ℕ, List, Option, map}
use Rattle.std.proofs.Common.{subst, ap, ◌∙◌}
use mathlib.Core.Path.{fun_ext}
use Rattle.kernel_model.specs.World.{World, ImageTable}
use Rattle.kernel_model.specs.Objects.{Objects}
use Rattle.kernel_model.specs.Meaning.{Meaning}
use Rattle.kernel_model.specs.Kernel.{Waiter, Kernel, Run}
use Rattle.kernel_model.specs.Blocking.{levels_of}
use Rattle.kernel_model.specs.Sound.{IsSoundStore}
use Rattle.placed_laws.specs.Placed.{PlacedCall, PlacedLevel, Placed, PlacedRun, bare}
use Rattle.placed_laws.specs.Stands.{without_history, StandsFor, RunStandsFor}
use Rattle.placed_laws.proofs.SourceLemmas.{IsPlaced}

-- a kernel in place over this store
abbrev pub over_store : Meaning → Objects → Kernel → Placed
over_store m x k =
    record {
      world = k.world;
      images = k.images;
      objects = x;
      clock = k.clock;
      call = λ p. without_history (k.call p);
      levels = λ p. map bare (levels_of m k p);
      order = k.order;
    }

-- and an event under way
abbrev pub run_over : Meaning → Objects → Run → PlacedRun
run_over m x r = record { placed = over_store m x r.kernel; blocks = r.blocks; notes = r.notes; io = r.io }

pub aligned : (m : Meaning) (x : Placed) (k : Kernel) → StandsFor m x k → x ≡ over_store m x.objects k
aligned m x k h =
    ap (λ (v : World). record x { world = v }) h.world
    ∙ ap (λ (i : ImageTable). record x { world = k.world; images = i }) h.images
    ∙ ap (λ (n : ℕ). record x { world = k.world; images = k.images; clock = n }) h.clock
    ∙ ap (λ (es : List Waiter). record x { world = k.world; images = k.images; clock = k.clock; order = es }) h.order
    ∙ ap (λ (c : ℕ → Option PlacedCall). record x {
      world = k.world;
      images = k.images;
      clock = k.clock;
      order = k.order;
      call = c;
    }) (fun_ext h.calls)
    ∙ ap (λ (l : ℕ → List PlacedLevel). record x {
      world = k.world;
      images = k.images;
      clock = k.clock;
      order = k.order;
      call = λ p. without_history (k.call p);
      levels = l;
    }) (fun_ext h.levels)

pub aligned_run : (m : Meaning) (x : PlacedRun) (r : Run) → RunStandsFor m x r → x ≡ run_over m x.placed.objects r
aligned_run m x r h =
    ap (λ (y : Placed). record x { placed = y }) (aligned m x.placed r.kernel h.kernel)
    ∙ ap (λ b. record x { placed = over_store m x.placed.objects r.kernel; blocks = b }) h.blocks
    ∙ ap (λ n. record x { placed = over_store m x.placed.objects r.kernel; blocks = r.blocks; notes = n }) h.notes
    ∙ ap (λ i. record x {
      placed = over_store m x.placed.objects r.kernel;
      blocks = r.blocks;
      notes = r.notes;
      io = i;
    }) h.io

-- what is known of the store
pub placed_of : (m : Meaning) (x : Placed) (k : Kernel) → StandsFor m x k → IsPlaced m k x.objects
placed_of m x k h =
    record {
      objects = h.objects;
      store = subst (λ v. IsSoundStore v x.objects) h.world h.store;
      kernel = h.kernel;
    }
