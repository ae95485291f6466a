-- How parts of an event follow each other.
use Rattle.std.proofs.Common.{append-nil, ◌≡◌, ℕ, ◌≤◌, ◌<◌, Bool, true, false, List, [], ◌∷◌, ◌++◌}
use Rattle.std.proofs.Common.{map, length, Option, Some, None, arith, refl, ap, sym, subst, ◌∙◌}
use Rattle.std.specs.Prelude.{Contains, is_some}
use Rattle.kernel_model.specs.declared.Note.{Note}
use Rattle.kernel_model.specs.World.{Blocks, World}
use Rattle.kernel_model.specs.Meaning.{Meaning}
use Rattle.kernel_model.specs.Kernel.{Call, Waiter, Run, is_at_piece}
use Rattle.kernel_model.specs.Blocking.{levels_of}
use Rattle.call_pieces.specs.Disks.{DiskSeen}
use Rattle.call_pieces.specs.Stores.{world_of_store}
use Rattle.kernel_model.specs.Levels.{Level}
use Rattle.placed_laws.specs.Agreeing.{SameShown}
use Rattle.placed_laws.specs.Placed.{Placed, PlacedRun, bare, has_some}
use Rattle.placed_laws.specs.Stands.{StandsFor, RunStandsFor, without_history}
use Rattle.running_kernel.specs.declared.running.Running.{Running}
use Rattle.kernel_steps.specs.Composing.{adds_none, did_as, did_nothing, did_purely, did_then}
use Rattle.running_kernel.specs.WholeBlocks.{some_blocks, blocks_are_whole}
use Rattle.kernel_steps.specs.Moments.{kernel_moment, KernelMoment}
use Rattle.kernel_steps.specs.Runs.{IsSoundOn, RefinesAndKeeps}
use Rattle.kernel_steps.specs.Faults.{fault_notes}
use Rattle.kernel_steps.specs.Refines.{Adds}
use Rattle.running_kernel.specs.Views.{placed_of, run_of, IsRunning, HasAbstraction}
use Rattle.kernel_steps.proofs.WholeLemmas.{has_call}

-- ---- a kernel goes on to stand

-- an event under way from what stands for a kernel
pub run_at : (m : Meaning) (x : Placed) (s : HasAbstraction m x) → RunStandsFor m (run_of x
    some_blocks [] []) (record { kernel = s.kernel; blocks = some_blocks; notes = []; io = [] })
run_at m x s =
    record {
      kernel = s.stands;
      blocks = refl;
      notes = refl;
      io = refl;
      whole = blocks_are_whole s.kernel.world;
    }

-- so does what it comes to
pub stood_as : (m : Meaning) (y : Placed) (t : PlacedRun) (r : Run) → RunStandsFor m t r →
    t.placed ≡ y → HasAbstraction m y
stood_as m y t r h is = record { kernel = r.kernel; stands = subst (λ z. StandsFor m z r.kernel) is h.kernel }

-- ---- parts

pub went_as : {C B M : Type 0} {P : _} (m : Meaning) (f g : PlacedRun → PlacedRun)
    (x y : Running C B M P) (kept kept_new : List Note) (d e : DiskSeen) →
    ((blocks : Blocks) (notes : List Note) (io : List Bool) →
    f (run_of (placed_of x) blocks notes io) ≡ g (run_of (placed_of x) blocks notes io)) →
    RefinesAndKeeps m g (kernel_moment x kept d) (kernel_moment y kept_new e) →
    RefinesAndKeeps m f (kernel_moment x kept d) (kernel_moment y kept_new e)
went_as m f g x y kept kept_new d e same h =
    record {
      refines = did_as f g (placed_of x) (placed_of y) kept kept_new d e same h.refines;
      running = h.running;
      abstraction = h.abstraction;
      world = h.world;
      clock = h.clock;
    }

pub went_then : {C B M : Type 0} {P : _} (m : Meaning) (f g : PlacedRun → PlacedRun)
    (x y z : Running C B M P) (a b c : List Note) (d e l : DiskSeen) →
    RefinesAndKeeps m f (kernel_moment x a d) (kernel_moment y b e) →
    RefinesAndKeeps m g (kernel_moment y b e) (kernel_moment z c l) →
    RefinesAndKeeps m (λ r. g (f r)) (kernel_moment x a d) (kernel_moment z c l)
went_then m f g x y z a b c d e l first second =
    record {
      refines = did_then f g (placed_of x) (placed_of y) (placed_of z) a b c d e l first.refines second.refines;
      running = second.running;
      abstraction = second.abstraction;
      world = second.world ∙ first.world;
      clock = second.clock ∙ first.clock;
    }

-- a change without a call of the disk, which adds these notes
pub went_purely : {C B M : Type 0} {P : _} (m : Meaning) (f : PlacedRun → PlacedRun)
    (x y : Running C B M P) (kept kept_new more : List Note) (d : DiskSeen) →
    ((blocks : Blocks) (notes : List Note) (io : List Bool) →
    f (run_of (placed_of x) blocks notes io) ≡ run_of (placed_of y) blocks (notes ++ more) io) →
    Adds more kept kept_new → fault_notes more ≡ 0 → IsRunning y → HasAbstraction m (placed_of y) →
    world_of_store y.store ≡ world_of_store x.store → y.clock ≡ x.clock →
    RefinesAndKeeps m f (kernel_moment x kept d) (kernel_moment y kept_new d)
went_purely m f x y kept kept_new more d same adds none running abstraction world clock =
    record {
      refines = did_purely f (placed_of x) (placed_of y) kept kept_new more d same adds none;
      running = running;
      abstraction = abstraction;
      world = world;
      clock = clock;
    }

-- the same without notes
pub went_silently : {C B M : Type 0} {P : _} (m : Meaning) (f : PlacedRun → PlacedRun)
    (x y : Running C B M P) (kept : List Note) (d : DiskSeen) →
    ((notes : List Note) (blocks : Blocks) (io : List Bool) →
    f (run_of (placed_of x) blocks notes io) ≡ run_of (placed_of y) blocks notes io) →
    IsRunning y → HasAbstraction m (placed_of y) → world_of_store y.store ≡ world_of_store x.store →
    y.clock ≡ x.clock → RefinesAndKeeps m f (kernel_moment x kept d) (kernel_moment y kept d)
went_silently m f x y kept d same running abstraction world clock =
    went_purely m f x y kept kept [] d (λ blocks notes io. same notes blocks io
    ∙ ap (λ ns. run_of (placed_of y) blocks ns io) (sym (append-nil notes)))
    (adds_none kept) refl running abstraction world clock

-- a change leaves a sound kernel on its disk
pub still_on : {C B M : Type 0} {P : _} {m : Meaning} {f : PlacedRun →
    PlacedRun} {a b : KernelMoment (Running C B M P)} → RefinesAndKeeps m f a b →
    a.kernel.store.size ≡ a.disk.size → IsSoundOn m b.kernel b.disk
still_on h disk =
    record {
      running = h.running;
      abstraction = h.abstraction;
      disk = ap (λ (v : World). v.disk_size) h.world ∙ disk ∙ sym h.refines.made.size;
    }

-- nothing
pub went_nothing : {C B M : Type 0} {P : _} (m : Meaning) (x : Running C B M P) (kept : List Note)
    (d : DiskSeen) → IsRunning x → HasAbstraction m (placed_of x) →
    RefinesAndKeeps m (λ r. r) (kernel_moment x kept d) (kernel_moment x kept d)
went_nothing m x kept d running abstraction =
    record {
      refines = did_nothing (placed_of x) kept d;
      running = running;
      abstraction = abstraction;
      world = refl;
      clock = refl;
    }

-- ---- who stands in the order

-- levels are some where there is one
some_of_many : (ls : List Level) → 1 ≤ length ls → has_some (map bare ls) ≡ true
some_of_many [] h = absurd (omega (arith, h))
some_of_many (l ∷ ls) h = refl

-- who stands in the order has a call
pub ordered_called : (m : Meaning) → SameShown m → (x : Placed) (e : Waiter) → HasAbstraction m x →
    Contains x.order e → is_some (x.call e.process) ≡ true
ordered_called m shown x e s has = by_piece (is_at_piece (s.kernel.call e.process)) refl
  where
    at_piece_called : (c : Option Call) → is_at_piece c ≡ true → is_some (without_history c) ≡ true
    at_piece_called None h = grind (arith, h)
    at_piece_called (Some c) h = refl

    by_piece : (b : Bool) → is_at_piece (s.kernel.call e.process) ≡ b → is_some (x.call e.process) ≡ true
    by_piece true h = ap is_some (s.stands.calls e.process) ∙ at_piece_called (s.kernel.call e.process) h
    by_piece false h =
        has_call m shown x e.process s
        (ap has_some (s.stands.levels e.process) ∙ some_of_many (levels_of m s.kernel e.process)
        (s.stands.kernel.others e (subst (λ es. Contains es e) s.stands.order has) h).1)

-- who has a call is one of sixteen
pub called_small : (m : Meaning) (x : Placed) (p : ℕ) → HasAbstraction m x → is_some (x.call p) ≡ true → p < 16
called_small m x p s some = by_call (s.kernel.call p) refl (s.stands.calls p)
  where
    by_call : (c : Option Call) → s.kernel.call p ≡ c → x.call p ≡ without_history c → p < 16
    by_call None e is = absurd (contrary (sym some ∙ ap is_some is))
      where
        contrary : true ≡ false → ⊥
        contrary h = cc
    by_call (Some c) e is = s.stands.kernel.state.store.numbers p (s.stands.kernel.callers p c e)
