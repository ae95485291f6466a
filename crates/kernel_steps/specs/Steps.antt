-- One step of a call, as the code takes it: a move of its levels, and what that leaves to do.
use Rattle.std.specs.Prelude.{◌≡◌, ◌≢◌, ℕ, zero, suc, ◌≤◌, List, [], Option, Some, None, length}
use Rattle.kernel_model.specs.declared.Micro.{Micro}
use Rattle.kernel_model.specs.declared.Note.TheVariants.{Dropped}
use Rattle.kernel_model.specs.Laws.{IsReady}
use Rattle.kernel_model.specs.Meaning.{Meaning, Answer}
use Rattle.call_pieces.specs.Works.{answer_seen, stage_of}
use Rattle.graft_levels.specs.Masks.{held}
use Rattle.call_pieces.specs.Stores.{world_of_store, objects_of}
use Rattle.graft_levels.specs.Slots.{table_of}
use Rattle.graft_levels.specs.declared.Chain.{Chain}
use Rattle.graft_levels.specs.Calls.{IsPlaced, AreInside}
use Rattle.placed_laws.specs.Placed.{PlacedCall, PlacedRun}
use Rattle.placed_laws.specs.PlacedSteps.{placed_noted, placed_finish_on}
use Rattle.running_kernel.specs.declared.running.InFlight.{InFlight}
use Rattle.running_kernel.specs.declared.running.Running.{Running}
use Rattle.running_kernel.specs.Owned.{AreOwned}
use Rattle.kernel_steps.specs.Moments.{kernel_moment, KernelMoment}
use Rattle.kernel_steps.specs.Refines.{Reaches, Refines}
use Rattle.running_kernel.specs.Views.{placed_of, flight_of, chain_of, call_at}

-- ---- what a move leaves to do

module _ (m : Meaning) where
  -- the piece of a call is done on the store as it is, with an answer or by default
  abbrev pub finishes : ℕ → PlacedCall → Option Answer → PlacedRun → PlacedRun
  finishes p c answer r = placed_finish_on m p c r.placed.objects answer r

  -- level d of a call was dropped: with level 0 the default finishes the piece
  abbrev pub after_drop : ℕ → PlacedCall → (d : ℕ) → PlacedRun → PlacedRun
  after_drop p c zero r = finishes p c None r
  after_drop p c (suc d) r = r

  -- an instruction, or the drop of a level, said this, and left this memory, in which stands what
  -- an answer gives
  abbrev pub after_said : (ram : List ℕ) → ℕ → PlacedCall → Micro → PlacedRun → PlacedRun
  after_said ram p c Micro.Went r = r
  after_said ram p c (Micro.Blocked object holder by_user) r = r
  after_said ram p c (Micro.Completed answer) r = finishes p c (answer_seen ram p (Some answer)) r
  after_said ram p c (Micro.Dropped d q pt cause) r =
      after_drop p c d (placed_noted (Dropped c.number q pt cause) r)

-- the answer with which what was said finishes the piece of a call, if it does
abbrev pub answer_of_drop : (d : ℕ) → Option (Option (List ℕ))
answer_of_drop zero = Some None
answer_of_drop (suc d) = None

abbrev pub answer_said : Micro → Option (Option (List ℕ))
answer_said Micro.Went = None
answer_said (Micro.Blocked object holder by_user) = None
answer_said (Micro.Completed answer) = Some (Some answer)
answer_said (Micro.Dropped d q pt cause) = answer_of_drop d

-- ---- what a step changes

-- the levels of a chain are of one owner
pub record IsOfOne (c : Chain) : Type 0 where
  pub owner : ℕ
  pub own : AreOwned owner c.levels c.undo

-- What must hold of p's call for a step of it, of whatever else is in flight: its levels are in
-- place.
pub record StepsAlone {C B M : Type 0} {P : _} (x : Running C B M P) (p : ℕ) : Type 0 where
  pub sixteen : length x.calls.items ≡ 16
  pub few : (q : ℕ) → length (chain_of x q).levels ≤ 4
  pub caller_is : (f : InFlight) → (flight_of x.calls.items p).call ≡ Some f → f.work.caller ≡ p
  pub placed : IsPlaced x.store x.locks p (chain_of x p).levels (chain_of x p).undo
  pub inside : AreInside (table_of x.images) (objects_of x.store).accounts p (chain_of x p).levels
  pub own : IsOfOne (chain_of x p)

-- The piece of p's call, which has no level, can be done with this answer, or by default.
pub record CanFinish {C B M : Type 0} {P : _} (m : Meaning) (x : Running C B M P) (p : ℕ)
    (answer : Option (List ℕ)) : Type 0 where
  pub none : (chain_of x p).levels ≡ []
  pub ready : (f : InFlight) → (flight_of x.calls.items p).call ≡ Some f →
      IsReady m (world_of_store x.store) (table_of x.images) (objects_of x.store) p
      (stage_of f.work) (answer_seen x.store.ram p answer)

-- A step of the call of p. Of all that is in flight p's alone has changed, the memory of grafts but
-- for p's own, what the others hold, images, clock and order stay; and p's levels are in place
-- again.
pub record Stepped {C B M : Type 0} {P : _} (x y : Running C B M P) (p : ℕ) : Type 0 where
  pub world : world_of_store y.store ≡ world_of_store x.store
  pub sixteen : length y.calls.items ≡ length x.calls.items
  pub caller_is : (f : InFlight) → (flight_of y.calls.items p).call ≡ Some f → f.work.caller ≡ p
  pub calls : (q : ℕ) → q ≢ p → (flight_of y.calls.items q).call ≡ (flight_of x.calls.items q).call
  pub chains : (q : ℕ) → q ≢ p → chain_of y q ≡ chain_of x q
  pub locks : (q d : ℕ) → q ≢ p → held y.locks q d ≡ held x.locks q d
  pub placed : IsPlaced y.store y.locks p (chain_of y p).levels (chain_of y p).undo
  pub inside : AreInside (table_of y.images) (objects_of y.store).accounts p (chain_of y p).levels
  pub images : y.images ≡ x.images
  pub clock : y.clock ≡ x.clock
  pub order : y.order ≡ x.order

-- A step of the call of p, or a part of one, took one moment to another as the definitions say; and
-- p's levels are of one owner again.
pub record StepDone {C B M : Type 0} {P : _} (f : PlacedRun → PlacedRun) (p : ℕ)
    (a b : KernelMoment (Running C B M P)) : Type 0 where
  pub refines : Refines f (kernel_moment (placed_of a.kernel) a.notes a.disk)
      (kernel_moment (placed_of b.kernel) b.notes b.disk)
  pub reaches : Reaches f (placed_of a.kernel) (placed_of b.kernel)
  pub stepped : Stepped a.kernel b.kernel p
  pub own : IsOfOne (chain_of b.kernel p)

-- the same of a step that is said of the call that p has
abbrev pub CallStepDone : {C B M : Type 0} {P : _} → (PlacedCall → PlacedRun → PlacedRun) → ℕ →
    (a b : KernelMoment (Running C B M P)) → Type 0
CallStepDone f p a b = (c : PlacedCall) → call_at a.kernel p ≡ Some c → StepDone (f c) p a b
