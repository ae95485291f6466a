-- How a call begins, or is refused at once.
use Rattle.std.specs.Prelude.{◌≡◌, ℕ, List, Option, Some, None, Result, Ok, Err, slice_set}
use Rattle.kernel_model.specs.declared.SysCall.{SysCall}
use Rattle.kernel_model.specs.declared.Refusal.{Refusal}
use Rattle.kernel_model.specs.World.{World, ImageTable}
use Rattle.kernel_model.specs.Meaning.{Meaning, Stage}
use Rattle.call_pieces.specs.Stores.{world_of_store}
use Rattle.graft_levels.specs.Slots.{table_of}
use Rattle.placed_laws.specs.Keeping.{first_placed}
use Rattle.placed_laws.specs.PlacedSteps.{placed_joins, with_placed_call}
use Rattle.call_pieces.specs.Works.{stage_of}
use Rattle.call_pieces.specs.declared.Work.{Work}
use Rattle.running_kernel.specs.declared.running.InFlight.{InFlight}
use Rattle.running_kernel.specs.declared.running.Flight.{Flight}
use Rattle.running_kernel.specs.declared.running.Running.{Running}
use Rattle.running_kernel.specs.Idle.{joined_in}
use Rattle.running_kernel.specs.Views.{flight_of, placed_of, IsRunning, Simulates}

-- ---- in its place

-- a call of p was granted, and stands there
pub record GrantedIn (m : Meaning) (v : World) (images : ImageTable) (p number : ℕ) (call : SysCall)
    (slot : Option InFlight) : Type 0 where
  pub work : Work
  pub granted : m.early v images p call ≡ Ok (stage_of work)
  pub caller_is : work.caller ≡ p
  pub stands : slot ≡ Some (record { number = number; work = work })

-- a call of p was refused, and none stands there
pub record RefusedIn (m : Meaning) (v : World) (images : ImageTable) (p : ℕ)
    (call : SysCall) (why : Refusal) (slot : Option InFlight) : Type 0 where
  pub refused : m.early v images p call ≡ Err why
  pub none : slot ≡ None

-- a call of p, which is granted or refused, begins in its place
abbrev pub SlotBegins : {A : Type 0} → Meaning → World → ImageTable → (p number : ℕ) → SysCall →
    Option InFlight → Result A Refusal → Type 0
SlotBegins m v images p number call slot (Ok _) = GrantedIn m v images p number call slot
SlotBegins m v images p number call slot (Err why) = RefusedIn m v images p call why slot

-- ---- among the flights

-- p's place has this now, and all else stays
pub record PlaceHas (old new : List Flight) (p : ℕ) (Says : Option InFlight → Type 0) :
    Type 0 where
  pub slot : Option InFlight
  pub flights : new ≡ slice_set old p (record (flight_of old p) { call = slot })
  pub says : Says slot

-- a call of p, which is granted or refused, begins among the flights
abbrev pub FlightBegins : {A : Type 0} → Meaning → World → ImageTable → (p number : ℕ) → SysCall →
    (old new : List Flight) → Result A Refusal → Type 0
FlightBegins m v images p number call old new result =
    PlaceHas old new p (λ slot. SlotBegins m v images p number call slot result)

-- ---- in the running kernel

-- A call of p was granted, and joined the order, with which the kernel is y.
pub record Begun {C B M : Type 0} {P : _} (m : Meaning) (p number : ℕ) (call : SysCall)
    (x y : Running C B M P) : Type 0 where
  pub first : Stage
  pub granted : m.early (world_of_store x.store) (table_of x.images) p call ≡ Ok first
  pub value : Simulates
      (λ r. placed_joins p (with_placed_call p (Some (first_placed number first)) r))
      (placed_of x) (placed_of y)
  pub running : IsRunning y

-- A call of p was refused, and nothing changed.
pub record NotBegun {C B M : Type 0} {P : _} (m : Meaning) (p : ℕ) (call : SysCall) (why : Refusal)
    (x y : Running C B M P) : Type 0 where
  pub refused : m.early (world_of_store x.store) (table_of x.images) p call ≡ Err why
  pub placed : placed_of y ≡ placed_of x
  pub running : IsRunning y

-- a call of p, which is granted or refused, begins in the running kernel; one that is granted is
-- still to join the order
abbrev pub CallBegins : {C B M A : Type 0} {P : _} → Meaning → (p number : ℕ) → SysCall →
    (x y : Running C B M P) → Result A Refusal → Type 0
CallBegins m p number call x y (Ok _) = Begun m p number call x (joined_in p y)
CallBegins m p number call x y (Err why) = NotBegun m p call why x y
