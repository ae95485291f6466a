-- What a part of an instruction does in place: from one moment of a graft call to another.
use Rattle.std.specs.Prelude.{◌≡◌, ◌≢◌, ◌<◌, suc, List, length}
use Rattle.kernel_model.specs.declared.Micro.{Micro}
use Rattle.kernel_model.specs.Levels.{Level, Outcome}
use Rattle.kernel_model.specs.Objects.{Objects}
use Rattle.kernel_model.specs.World.{World, ImageTable}
use Rattle.lock_table.specs.declared.Holds.{Holds}
use Rattle.undo_calls.specs.UndoLevels.{Logged, records_of}
use Rattle.kernel_state.specs.declared.Store.{Store}
use Rattle.kernel_state.specs.Stores.{world_of_store, objects_of}
use Rattle.graft_levels.specs.declared.Chain.{Chain}
use Rattle.graft_levels.specs.declared.Innermost.{Innermost}
use Rattle.graft_levels.specs.Chains.{came, call_of, level_taken, outer_taken}
use Rattle.graft_levels.specs.Calls.{IsInPlace, IsElsewhereSame, StaysPlaced, HasWrittenBegun, with_innermost}

-- a graft call at a moment: the store, the lock table and the chain of its process
pub record ChainMoment (S : Type 0) : Type 0 where
  pub store : S
  pub locks : List (List Holds)
  pub chain : Chain

-- the moment of these
abbrev pub chain_moment : {S : Type 0} → S → List (List Holds) → Chain → ChainMoment S
chain_moment store locks chain = record { store = store; locks = locks; chain = chain }

-- a part of an instruction of the definitions: what becomes of the world, the objects, the
-- innermost level and the levels outside it
abbrev pub Part : Type 0
Part = World → Objects → Level → List Level → Outcome

-- what it comes to at a moment, where the innermost level was taken out of the chain
abbrev pub part_at : {B : Type 0} {P : _} → Part → Innermost → ChainMoment (Store B P) → Outcome
part_at f g x =
    f (world_of_store x.store) (objects_of x.store) (level_taken x.store x.locks g x.chain)
    (outer_taken x.store x.locks g x.chain)

-- A part of an instruction took the one moment to the other, and said this, as the definitions have
-- it; the levels stay placed.
pub record Comes {B : Type 0} {P : _} (g : Innermost) (x y : ChainMoment (Store B P)) (said : Micro)
    (f : Part) : Type 0 where
  pub step : came (part_at f g x) ≡ (said, call_of y.store y.locks y.chain g.process)
  pub kept : StaysPlaced x.store y.store x.locks y.locks g.process (with_innermost g x.chain)
      y.chain

-- A part of an instruction that may begin a level took the one moment to the other: the call stands
-- in place, and what isn't its own stays.
pub record StaysInPlace {B : Type 0} {P : _} (images : ImageTable) (g : Innermost)
    (x y : ChainMoment (Store B P)) : Type 0 where
  pub in_place : IsInPlace y.store y.locks images g.process y.chain.levels y.chain.undo
  pub elsewhere : IsElsewhereSame x.store y.store x.locks y.locks g.process
  pub memory : HasWrittenBegun g.process (suc (length x.chain.levels)) y.chain.levels x.store.ram
      y.store.ram

-- a log has a level, and fewer than 64 records
pub record HasRoom (log : List (List Logged)) : Type 0 where
  pub level : 0 < length log
  pub records : length (records_of log) ≢ 64
