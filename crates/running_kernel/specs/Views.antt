-- The kernel in place that a running kernel is.
use Rattle.std.specs.Prelude.{◌≡◌, ℕ, ◌<◌, true, Bool, List, [], Option, Some, None, map}
use Rattle.std.specs.Prelude.{option_map, length, slice_index_or}
use Rattle.kernel_data.specs.declared.Note.{Note}
use Rattle.kernel_data.specs.World.{Blocks}
use Rattle.kernel_model.specs.Kernel.{Kernel}
use Rattle.kernel_model.specs.Sound.{ImagesAreLoaded}
use Rattle.kernel_model.specs.Meaning.{Meaning}
use Rattle.call_pieces.specs.Works.{stage_of}
use Rattle.call_pieces.specs.Stores.{world_of_store, objects_of}
use Rattle.graft_levels.specs.declared.Chain.{Chain}
use Rattle.graft_levels.specs.Slots.{table_of}
use Rattle.graft_levels.specs.Chains.{levels_of}
use Rattle.graft_levels.specs.Calls.{IsPlaced, AreInside}
use Rattle.placed_laws.specs.Placed.{PlacedCall, PlacedLevel, Placed, PlacedRun, bare}
use Rattle.placed_laws.specs.Stands.{StandsFor}
use Rattle.running_kernel.specs.declared.running.InFlight.{InFlight}
use Rattle.running_kernel.specs.declared.running.Flight.{Flight}
use Rattle.running_kernel.specs.declared.running.Running.{Running}
use Rattle.running_kernel.specs.Owned.{AreOwned}
use Rattle.running_kernel.specs.Orders.{order_of, counts_within, are_processes, are_once, numbers_of}

-- ---- a kernel in place

-- no level
abbrev pub no_chain : Chain
no_chain = record { levels = []; undo = [] }

-- no call, and no level
abbrev pub no_flight : Flight
no_flight = record { call = None; chain = no_chain }

-- what a process has in flight
abbrev pub flight_of : List Flight → ℕ → Flight
flight_of flights p = slice_index_or flights p no_flight

-- a call in flight
abbrev pub call_in_place : InFlight → PlacedCall
call_in_place f = record { number = f.number; stage = stage_of f.work }

-- the chain of a process
abbrev pub chain_of : {C B M : Type 0} {P : _} → Running C B M P → ℕ → Chain
chain_of x p = (flight_of x.calls.items p).chain

-- the levels of a process over the store, without what they found
abbrev pub levels_at : {C B M : Type 0} {P : _} → Running C B M P → ℕ → List PlacedLevel
levels_at x p = map bare (levels_of x.store x.locks (chain_of x p) p)

-- the call of a process
abbrev pub call_at : {C B M : Type 0} {P : _} → Running C B M P → ℕ →
    Option PlacedCall
call_at x p = option_map call_in_place (flight_of x.calls.items p).call

-- the kernel in place
abbrev pub placed_of : {C B M : Type 0} {P : _} → Running C B M P → Placed
placed_of x =
    record {
      world = world_of_store x.store;
      images = table_of x.images;
      objects = objects_of x.store;
      clock = x.clock;
      call = call_at x;
      levels = levels_at x;
      order = order_of x.order;
    }

-- ---- what always holds

-- The calls of a running kernel are its own, and the levels of each are in place on the store.
pub record IsRunning {C B M : Type 0} {P : _} (x : Running C B M P) : Type 0 where
  pub sixteen : length x.calls.items ≡ 16
  pub callers : (p : ℕ) (f : InFlight) → (flight_of x.calls.items p).call ≡ Some f →
      f.work.caller ≡ p
  pub placed : (p : ℕ) → p < 16 →
      IsPlaced x.store x.locks p (chain_of x p).levels (chain_of x p).undo
  pub inside : (p : ℕ) → p < 16 →
      AreInside (table_of x.images) (objects_of x.store).accounts p (chain_of x p).levels
  pub counts : counts_within x.clock x.order ≡ true
  pub order : are_processes x.order ≡ true
  pub once : are_once (numbers_of x.order) ≡ true
  pub loaded : ImagesAreLoaded (table_of x.images) (objects_of x.store).accounts
  -- the levels of each call are of one owner
  pub owner : ℕ → ℕ
  pub own : (p : ℕ) → p < 16 → AreOwned (owner p) (chain_of x p).levels (chain_of x p).undo

-- No call is in flight, and none waits.
pub record IsQuiet {C B M : Type 0} {P : _} (x : Running C B M P) : Type 0 where
  pub calls : (p : ℕ) → flight_of x.calls.items p ≡ no_flight
  pub order : x.order ≡ []

-- a kernel in place stands for some abstract kernel
pub record HasAbstraction (m : Meaning) (x : Placed) : Type 0 where
  pub kernel : Kernel
  pub stands : StandsFor m x kernel

-- ---- what a call did

-- an event under way from a kernel in place
abbrev pub run_of : Placed → Blocks → List Note → List Bool → PlacedRun
run_of x blocks notes io = record { placed = x; blocks = blocks; notes = notes; io = io }

-- a change that makes no call of the disk, and says nothing, took one kernel in place to another
abbrev pub Simulates : (PlacedRun → PlacedRun) → Placed → Placed → Type 0
Simulates f x y = (notes : List Note) (blocks : Blocks) (io : List Bool) →
    f (run_of x blocks notes io) ≡ run_of y blocks notes io
