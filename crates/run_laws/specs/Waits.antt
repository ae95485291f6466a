-- That waiting ends: whatever grafts do, ticks alone let everybody go who waits.
use Rattle.std.specs.Prelude.{◌≡◌, ℕ, zero, suc, ◌*◌, ◌≤◌, Bool, List, [], Some}
use Rattle.script_model.specs.declared.Keys.{Keys}
use Rattle.script_model.specs.Directory.{Disk}
use Rattle.script_model.specs.Events.{tick_event}
use Rattle.script_model.specs.Kernel.{Kernel, Run}
use Rattle.script_model.specs.Laws.{Laws}
use Rattle.script_model.specs.Meaning.{Meaning}
use Rattle.script_model.specs.Session.{Build}
use Rattle.script_model.specs.Sound.{IsSoundKernel, IsAtRest, HasWholeBlocks}
use Rattle.session_laws.specs.Sessions.{run_of, IsRunnable}
use Rattle.session_laws.specs.Slices.{calls_in_flight}

-- so many ticks, one event after another, the first of this number
abbrev pub ticks_on : Meaning → (count number : ℕ) → Run → Run
ticks_on m zero number r = r
ticks_on m (suc n) number r = ticks_on m n (suc number) (tick_event m number r)

-- no kind of object is waited for longer than this
abbrev pub HasPatience : Kernel → (most : ℕ) → Type 0
HasPatience k most = (kind : ℕ) → k.world.patience kind ≤ most

-- After 289 times the longest patience and one more, ticks alone have let everybody go who waited:
-- served, refused by the time-out, or with a level of its own dropped. What is in flight then is in
-- a graft, and waits for nobody. So it is from each sound kernel at rest, over whole blocks.
abbrev pub WaitsEnd : Meaning → Type 0
WaitsEnd m =
    (r : Run) (most number : ℕ) → Laws m → IsSoundKernel m r.kernel →
    HasWholeBlocks r.kernel.world r.blocks → IsAtRest m r.kernel → HasPatience r.kernel most →
    (ticks_on m (289 * suc most) number r).kernel.order ≡ []

-- Where fewer calls are in flight, fewer ticks are enough: 1 + 18 c times the longest patience and
-- one more for c calls. Each can lose at most 15 pieces and three levels.
abbrev pub WaitsEndByCalls : Meaning → Type 0
WaitsEndByCalls m =
    (r : Run) (most number : ℕ) → Laws m → IsSoundKernel m r.kernel →
    HasWholeBlocks r.kernel.world r.blocks → IsAtRest m r.kernel → HasPatience r.kernel most →
    (ticks_on m (suc (18 * calls_in_flight r.kernel) * suc most) number r).kernel.order ≡ []

-- and so it is from each kernel of a run
abbrev pub RunsEndWaits : Type 0
RunsEndWaits =
    (b : Build) (keys : Keys) (d : Disk) (texts : List (List ℕ)) (ios : List (List Bool))
    (k : Kernel) (most number : ℕ) (io : List Bool) →
    IsRunnable b d → (run_of b keys d texts ios).kernel ≡ Some k → HasPatience k most →
    (ticks_on b.meaning (289 * suc most) number (record {
      kernel = k;
      blocks = (run_of b keys d texts ios).blocks;
      notes = [];
      io = io;
    })).kernel.order ≡ []

-- which end the sooner, too, the fewer calls are in flight
abbrev pub RunsEndWaitsByCalls : Type 0
RunsEndWaitsByCalls =
    (b : Build) (keys : Keys) (d : Disk) (texts : List (List ℕ)) (ios : List (List Bool))
    (k : Kernel) (most number : ℕ) (io : List Bool) →
    IsRunnable b d → (run_of b keys d texts ios).kernel ≡ Some k → HasPatience k most →
    (ticks_on b.meaning (suc (18 * calls_in_flight k) * suc most) number (record {
      kernel = k;
      blocks = (run_of b keys d texts ios).blocks;
      notes = [];
      io = io;
    })).kernel.order ≡ []
