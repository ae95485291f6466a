-- Nothing blocks a call that no user lock's holder hinders, where nothing is held.
use Rattle.std.proofs.Common.{◌≡◌, ℕ, List, [], ◌∷◌, length, refl, ap, sym, ◌∙◌, arith, Some, None}
use Rattle.std.specs.Prelude.{option_map}
use Rattle.kernel_model.specs.Laws.{Laws}
use Rattle.kernel_model.specs.Locks.{no_locks}
use Rattle.kernel_model.specs.Meaning.{Meaning}
use Rattle.lock_table.specs.Masks.{held}
use Rattle.call_pieces.specs.Stores.{world_of_store, objects_of}
use Rattle.call_pieces.specs.Works.{call_of, stage_of}
use Rattle.placed_laws.specs.Placed.{placed_blocker, placed_blocker_from}
use Rattle.placed_laws.specs.Soundness.{SoundInPlace}
use Rattle.running_kernel.specs.declared.running.InFlight.{InFlight}
use Rattle.running_kernel.specs.declared.running.Running.{Running}
use Rattle.running_kernel.specs.Idle.{IsFreeOfUsers}
use Rattle.running_kernel.specs.Views.{placed_of, flight_of, chain_of, IsRunning, HasAbstraction}
use Rattle.running_kernel.proofs.FreeLemmas.{none_hinders}
use Rattle.running_kernel.proofs.HinderLemmas.{stands, piece_hindered}

pub plain_unblocked : {C B M : Type 0} {P : _} (m : Meaning) → SoundInPlace m → Laws m →
    (x : Running C B M P) (p : ℕ) (f : InFlight) →
    IsRunning x → HasAbstraction m (placed_of x) → held x.locks ≡ no_locks → (flight_of x.calls.items p).call ≡ Some f →
    IsFreeOfUsers (objects_of x.store).things.lock p (call_of f.work) →
    length (chain_of x p).levels ≡ 0 → placed_blocker m (placed_of x) p ≡ None
plain_unblocked m sound laws x p f running abstraction free there plain none =
    let s = objects_of x.store in
    let stood = stands m sound x p f running abstraction there in
    ap (option_map (placed_blocker_from (placed_of x)))
    (sym (none_hinders (held x.locks) s.things.lock p p (call_of f.work)
    (m.need (world_of_store x.store) s f.work.caller (stage_of f.work)) free plain
    (λ n has. laws.need.user (world_of_store x.store) s f.work.caller (stage_of f.work) n stood.fits has)
    ∙ piece_hindered m x p f running there none))

-- no element
pub no_level : {A : Type 0} (xs : List A) → length xs ≡ 0 → xs ≡ []
no_level [] h = refl
no_level (x ∷ xs) h = absurd (omega (arith, h))
