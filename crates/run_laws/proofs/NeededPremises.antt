-- Premises that can't be left out: small examples in which a law without them would be false.
use Rattle.std.specs.Prelude.{◌≡◌, ℕ, ◌*◌, suc, false, List, [], ◌∷◌, Option, Some, None}
use Rattle.std.proofs.Common.{refl}
use Rattle.script_model.specs.declared.Object.TheVariants.{Lock}
use Rattle.script_model.specs.declared.Reply.TheVariants.{One}
use Rattle.script_model.specs.declared.SysCall.TheVariants.{Sync}
use Rattle.script_model.specs.World.{World, Blocks}
use Rattle.script_model.specs.Objects.{Objects, CacheValue, FrameValue, at}
use Rattle.script_model.specs.FilePieces.{with_cache}
use Rattle.script_model.specs.Kernel.{Blocker, Waiter, Kernel, Run}
use Rattle.script_model.specs.Meaning.{Meaning, EndsWith}
use Rattle.script_model.specs.Opening.{opening_objects, opening_things, opening_kernel}
use Rattle.script_model.specs.Pieces.{piece_of}
use Rattle.run_laws.specs.Seen.{IsWritten}
use Rattle.run_laws.specs.Waits.{ticks_on}

-- ---- what is written back

-- a world of the least size
abbrev small_world : World
small_world = record { frames = 2; patience = λ kind. 10; grant = 0; disk_size = 1; directory = []; callable = 15 }

-- a clean frame has a byte more than the disk
abbrev other_frame : FrameValue
other_frame = record { owner = 0; block = 0; dirty = false; mark = 0; bytes = 1 ∷ [] }

abbrev other_cache : CacheValue
other_cache = record { frame = at 0 (Some other_frame) opening_things.cache.frame; lru = 0 ∷ [] }

abbrev no_bytes : Blocks
no_bytes b = []

abbrev with_other : Objects
with_other = with_cache other_cache (opening_objects 0)

-- a `sync` ends well
sync_ends : (piece_of Sync 0 small_world with_other no_bytes 0 None []).after ≡ EndsWith (One 0)
sync_ends = refl

-- and the disk isn't as the cache has it
disk_differs : IsWritten (piece_of Sync 0 small_world with_other no_bytes 0 None []).objects.things.cache
    (piece_of Sync 0 small_world with_other no_bytes 0 None []).blocks → ⊥
disk_differs h = differs (h 0 other_frame refl).1
  where
    differs : ◌≡◌ {A = List ℕ} [] (1 ∷ []) → ⊥
    differs e = cc

-- ---- waiting

-- a kernel of a world in which this entry waits, and the run from there
abbrev waiting_kernel : World → Waiter → Kernel
waiting_kernel v e = record (opening_kernel v) { order = e ∷ [] }

abbrev waiting_run : World → Waiter → Run
waiting_run v e = record { kernel = waiting_kernel v e; blocks = no_bytes; notes = []; io = [] }

-- an entry that waits, for a blocker that it keeps or for none, and has been counted so often
abbrev waiter : Option Blocker → (count : ℕ) → Waiter
waiter b count = record { process = 0; blocker = b; count = count }

-- the order after 289 ticks, where no kind of object is waited for longer than so
abbrev order_after : Meaning → (patience : ℕ) → Waiter → List Waiter
order_after m patience e =
    let v = record small_world { patience = λ kind. patience } in
    let r = ticks_on m (289 * suc 0) 1 (waiting_run v e) in
    r.kernel.order

-- without rest: an entry that keeps no blocker stays, where nobody has any patience
stale_waits : (m : Meaning) → order_after m 0 (waiter None 0) ≡ waiter None 289 ∷ []
stale_waits m = refl

-- without the bound: one that may wait for 300 ticks is still there
abbrev a_blocker : Blocker
a_blocker = record { object = Lock 0; holder = 1; call = None }

patient_waits : (m : Meaning) →
    order_after m 300 (waiter (Some a_blocker) 0) ≡ waiter (Some a_blocker) 289 ∷ []
patient_waits m = refl
