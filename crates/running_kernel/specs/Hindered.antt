-- What hinders a step, as the code says it.
use Rattle.std.specs.Prelude.{◌≡◌, ℕ, ◌<◌, cond, List, [], ◌∷◌, Option, None, option_map}
use Rattle.kernel_data.specs.declared.Need.{Need}
use Rattle.kernel_model.specs.GraftStep.{lock_user}
use Rattle.kernel_model.specs.Meaning.{Meaning}
use Rattle.kernel_data.specs.Objects.{Objects}
use Rattle.kernel_model.specs.Kernel.{Blocker}
use Rattle.kernel_model.specs.Locks as table
use Rattle.placed_laws.specs.Placed.{Placed, placed_holds, placed_levels, placed_needs}
use Rattle.running_kernel.specs.declared.blocking.Hindrance.{Hindrance}
use Rattle.running_kernel.specs.declared.running.InFlight.{InFlight}
use Rattle.running_kernel.specs.declared.running.Flight.{Flight}
use Rattle.running_kernel.specs.declared.running.Running.{Running}
use Rattle.call_pieces.specs.Taking.{taking}
use Rattle.running_kernel.specs.Views.{flight_of, placed_of}

-- a hindrance
abbrev pub hindrance_of : Hindrance → table.Hindrance
hindrance_of h = record { object = h.object; holder = h.holder; by_user = h.by_user }

-- what blocks a call, of a hindrance
abbrev pub blocking_by : List Flight → Hindrance → Blocker
blocking_by flights h =
    record {
      object = h.object;
      holder = h.holder;
      call = cond h.by_user None
          (option_map (λ (f : InFlight). f.number) (flight_of flights h.holder).call);
    }

-- this is the first hindrance of process p over needs in order, if there is one, where these levels
-- hold what they do; user locks of q don't hinder it
abbrev pub IsFirstHindrance : table.LockTable → Objects → (p q : ℕ) → List Need → Option Hindrance →
    Type 0
IsFirstHindrance locks s p q needs found =
    option_map hindrance_of found ≡ table.first_hindrance locks s.things.lock p q needs

-- this hinders the next step of process p's call, if something does
abbrev pub IsStepHindrance : Meaning → Placed → ℕ → Option Hindrance → Type 0
IsStepHindrance m x p found =
    IsFirstHindrance (placed_holds x) x.objects p (lock_user p (placed_levels x p))
    (placed_needs m x p) found

-- The next step of process p's call needs user lock u and nothing else, and user locks of p don't
-- hinder it.
pub record TakesAlone {C B M : Type 0} {P : _} (m : Meaning) (x : Running C B M P) (p u : ℕ) :
    Type 0 where
  pub small : u < 16
  pub user : lock_user p (placed_levels (placed_of x) p) ≡ p
  pub needs : placed_needs m (placed_of x) p ≡ taking u ∷ []
