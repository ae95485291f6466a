-- Which objects and which world a store stands for.
use Rattle.std.specs.Prelude.{◌≡◌, ℕ, ◌≤◌, List, [], ◌∷◌, ◌++◌, Option, Some, None, slice_index}
use Rattle.kernel_data.specs.declared.QueueRow.{QueueRow}
use Rattle.kernel_data.specs.World.{World}
use Rattle.kernel_data.specs.Objects.{Objects, Accounts, CacheValue, PolValue, with_things}
use Rattle.kernel_model.specs.Access.{set_segment}
use Rattle.kernel_model.specs.Levels.{base_of, body_in_segment}
use Rattle.kernel_model.specs.Runs.{segment_of}
use Rattle.ram_space.specs.Tables.{Table}
use Rattle.process_table.specs.Processes.{Processes, processes_of}
use Rattle.graft_accounts.specs.Table.{accounts_of}
use Rattle.graft_points.specs.Views.{PolicyView}
use Rattle.graft_points.specs.Shelf.{pol_of}
use Rattle.kernel_state.specs.CacheViews.{cache_value}
use Rattle.kernel_state.specs.Sound.{world_for, things_with}
use Rattle.kernel_state.specs.declared.Store.{Store}

-- the objects of these accounts, processes, cache, policies and kept segments
abbrev pub objects_with : Accounts → Processes → CacheValue → (ℕ → PolValue) → (kept : Table) →
    Objects
objects_with accounts s cache pol kept =
    record { accounts = accounts; things = things_with s cache pol kept }

-- the queue with a process that has just joined, if one has
abbrev pub queue_joined : Option ℕ → List QueueRow → List QueueRow
queue_joined None queue = queue
queue_joined (Some c) queue = queue ++ record { process = c; nice = 20; slices = 0 } ∷ []

-- these bytes are kept for the graft at point pt of process q, or none
abbrev pub with_kept : (q pt : ℕ) → Option (ℕ → ℕ) → Objects → Objects
with_kept q pt bytes s = with_things (set_segment q pt bytes s.things) s

-- what no call changes
abbrev pub world_of_store : {B : Type 0} {P : _} → Store B P → World
world_of_store s = world_for s.setup s.size s.dir

-- the cache
abbrev pub cache_of : {B : Type 0} {P : _} → Store B P → CacheValue
cache_of s = cache_value s.cache s.ram

-- the living processes, front first
abbrev pub queue_of : {B : Type 0} {P : _} → Store B P → List QueueRow
queue_of s = s.procs.queue

-- the policies on the shelf
abbrev pub views_of : {B : Type 0} {P : _} → Store B P → List PolicyView
views_of s = s.shelf

-- the value of each kind of policy: which is chosen, and the parameters of all
abbrev pub policies_of : {B : Type 0} {P : _} → Store B P → ℕ → PolValue
policies_of s = pol_of (views_of s) s.choice

-- the objects
abbrev pub objects_of : {B : Type 0} {P : _} → Store B P → Objects
objects_of s =
    objects_with (accounts_of s.accounts) (processes_of s.procs) (cache_of s) (policies_of s) s.kept

-- ---- memory

-- memory beyond the frames stays, where the segments of grafts are
abbrev pub SegmentsStay : (old new : List ℕ) → Type 0
SegmentsStay old new = (a : ℕ) → 262144 ≤ a → slice_index new a ≡ slice_index old a

-- the bytes that an answer of process p gives which has these registers: those that stand in this
-- memory, in the segment of its outermost level
abbrev pub body_at : (ram : List ℕ) → (p : ℕ) → (registers : List ℕ) → List ℕ
body_at ram p registers =
    body_in_segment registers (segment_of (base_of p 0) (λ a. slice_index ram a))
