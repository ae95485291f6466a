-- What a move of one call's levels makes of a running kernel: a level begins, an instruction, or
-- the drop of a level.
use Rattle.std.specs.Prelude.{◌≡◌, ◌≢◌, ℕ, ◌<◌, true, List, [], Option, Some, None, is_some, map, length}
use Rattle.kernel_model.specs.declared.Held.{Held}
use Rattle.kernel_model.specs.declared.Object.{Object}
use Rattle.graft_levels.specs.Masks.{held}
use Rattle.kernel_model.specs.declared.Need.{Need}
use Rattle.kernel_model.specs.World.{World}
use Rattle.kernel_model.specs.Objects.{Objects, at, SameAt}
use Rattle.kernel_model.specs.declared.Point.{Point}
use Rattle.kernel_model.specs.Levels.{Config}
use Rattle.kernel_model.specs.Policies.{lives}
use Rattle.kernel_model.specs.Sound.{ImagesAreLoaded}
use Rattle.call_pieces.specs.declared.Store.{Store}
use Rattle.call_pieces.specs.Stores.{objects_of, queue_of}
use Rattle.graft_levels.specs.Slots.{table_of}
use Rattle.graft_levels.specs.Calls.{IsPlaced, AreSound, AreInside, AllUndoable, IsElsewhereSame}
use Rattle.kernel_model.specs.Meaning.{Meaning}
use Rattle.placed_laws.specs.Placed.{Placed, PlacedCall, bare}
use Rattle.running_kernel.specs.declared.running.Running.{Running}
use Rattle.running_kernel.specs.Views.{flight_of, chain_of}

-- a kernel in place in which the call of p has come to this config
abbrev pub come_to : ℕ → Config → Placed → Placed
come_to p c x = record x { objects = c.now; levels = at p (map bare c.levels) x.levels }

-- the objects that a piece needs of a call of process p, if it has one
abbrev pub needed_by : Meaning → World → Objects → ℕ → Option PlacedCall → List Need
needed_by m v s p None = []
needed_by m v s p (Some c) = m.need v s p c.stage

-- the bytes that the graft is fed which the piece asks of a call, if there is one
abbrev pub fed_by : Meaning → Option PlacedCall → List ℕ
fed_by m None = []
fed_by m (Some c) = m.feed c.stage

-- the graft that a point is asked of stands, and its installer lives
pub record HasGraft {B : Type 0} {P : _} (s : Store B P) (at : Point) : Type 0 where
  pub owner : at.installer < 16
  pub point : at.point < 16
  pub lives : lives (queue_of s) at.installer ≡ true
  pub stands : is_some ((objects_of s).accounts.graft at.installer at.point) ≡ true

-- The levels of p's call moved. They are in place again, and of all else the store has the same but
-- for its objects: the calls, the other chains and what they hold, the memory of other processes'
-- levels, who lives, images, clock and order.
pub record Moved {C B M : Type 0} {P : _} (x y : Running C B M P) (p : ℕ) : Type 0 where
  pub elsewhere : IsElsewhereSame x.store y.store x.locks y.locks p
  pub placed : IsPlaced y.store y.locks p (chain_of y p).levels (chain_of y p).undo
  pub inside : AreInside (table_of y.images) (objects_of y.store).accounts p (chain_of y p).levels
  pub loaded : ImagesAreLoaded (table_of y.images) (objects_of y.store).accounts
  pub calls : (q : ℕ) → (flight_of y.calls.items q).call ≡ (flight_of x.calls.items q).call
  pub chains : (q : ℕ) → q ≢ p → chain_of y q ≡ chain_of x q
  pub sixteen : length y.calls.items ≡ length x.calls.items
  pub images : y.images ≡ x.images
  pub clock : y.clock ≡ x.clock
  pub order : y.order ≡ x.order

-- The levels of another call q stay in place, though the store changed: their owner lives, their
-- records can still be undone, and their grafts stand as they did.
pub record StaysInPlace {C B M : Type 0} {P : _} (y : Running C B M P) (q : ℕ) : Type 0 where
  pub levels : AreSound (queue_of y.store) (chain_of y q).levels
  pub undoable : AllUndoable (chain_of y q).undo (objects_of y.store).things
  pub inside : AreInside (table_of y.images) (objects_of y.store).accounts q (chain_of y q).levels

-- what a call q holds exclusively has the same values after a change
abbrev pub HeldStays : {C B M : Type 0} {P : _} → Running C B M P → Running C B M P → ℕ →
    Type 0
HeldStays x y q = (d : ℕ) (o : Object) → held x.locks q d o ≡ Held.Exclusive →
    SameAt o (objects_of y.store) (objects_of x.store)
