-- A running kernel in which nothing waits, and a call that nothing can hinder there.
use Rattle.std.specs.Prelude.{◌≡◌, ℕ, Bool, true, false, [], ◌∷◌, ◌++◌, Option, Some, None}
use Rattle.kernel_data.specs.declared.Object.TheVariants.{Lock}
use Rattle.kernel_data.specs.declared.SysCall.{SysCall}
use Rattle.kernel_model.specs.Laws.{waits_for_user}
use Rattle.kernel_model.specs.Locks.{no_locks, user_hindrance}
use Rattle.call_pieces.specs.Stores.{objects_of}
use Rattle.lock_table.specs.Masks.{held}
use Rattle.call_pieces.specs.Works.{call_of}
use Rattle.running_kernel.specs.declared.running.InFlight.{InFlight}
use Rattle.running_kernel.specs.declared.running.Running.{Running}
use Rattle.running_kernel.specs.Orders.{joined}
use Rattle.running_kernel.specs.Views.{flight_of, chain_of}

-- No call waits, and nothing is held.
pub record IsIdle {C B M : Type 0} {P : _} (x : Running C B M P) : Type 0 where
  pub order : x.order ≡ []
  pub held : held x.locks ≡ no_locks

-- A call of process p waits for no user lock that another process holds.
abbrev pub IsFreeOfUsers : (users : ℕ → Option ℕ) → ℕ → SysCall → Type 0
IsFreeOfUsers users p c =
    (u : ℕ) → waits_for_user c (Lock u) ≡ true → user_hindrance p (Lock u) (users u) ≡ None

-- No graft stands, and process p has a call, in no graft, that no holder of a user lock hinders.
pub record IsPlain {C B M : Type 0} {P : _} (x : Running C B M P) (p : ℕ) : Type 0 where
  pub none : (chain_of x p).levels ≡ []
  pub nowhere : (q pt : ℕ) → (objects_of x.store).accounts.graft q pt ≡ None
  pub flight : InFlight
  pub stands : (flight_of x.calls.items p).call ≡ Some flight
  pub user : IsFreeOfUsers (objects_of x.store).things.lock p (call_of flight.work)

-- the kernel once process p has joined the order
abbrev pub joined_in : {C B M : Type 0} {P : _} → ℕ → Running C B M P → Running C B M P
joined_in p x = record x { order = x.order ++ joined p ∷ [] }

-- the same, if it does
abbrev pub joined_if : {C B M : Type 0} {P : _} → Bool → ℕ → Running C B M P → Running C B M P
joined_if true p x = joined_in p x
joined_if false p x = x
