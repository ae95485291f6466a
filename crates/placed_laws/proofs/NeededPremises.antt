-- Premises of the laws that can't be left out: for each the smallest example in which the law would be false.
use Rattle.std.specs.Prelude.{◌≡◌, ℕ, ◌==◌, ◌&&◌, true, false, cond, [], ◌∷◌, Some, None}
use Rattle.std.proofs.Common.{refl}
use Rattle.kernel_model.specs.Access.{bare_found}
use Rattle.kernel_model.specs.Boxed.{instr}
use Rattle.kernel_model.specs.declared.Cause.{Cause}
use Rattle.kernel_model.specs.declared.Held.{Held}
use Rattle.kernel_model.specs.declared.Inverse.{Inverse}
use Rattle.kernel_model.specs.declared.Note.TheVariants.{Ended}
use Rattle.kernel_model.specs.declared.Object.TheVariants.{Cell, Lock}
use Rattle.kernel_model.specs.declared.Op.TheVariants.{Call, Ret}
use Rattle.kernel_model.specs.declared.QueueRow.{QueueRow}
use Rattle.kernel_model.specs.declared.Reply.{Reply}
use Rattle.kernel_model.specs.declared.SysCall.TheVariants.{Yield, Peek, Poke}
use Rattle.kernel_model.specs.World.{World, ImageTable, plain_image}
use Rattle.kernel_model.specs.Objects.{Objects, same_object}
use Rattle.kernel_model.specs.Meaning.{stage}
use Rattle.kernel_model.specs.UndoLog.{undo_log}
use Rattle.kernel_model.specs.Levels.{Config}
use Rattle.kernel_model.specs.GraftStep.{micro}
use Rattle.kernel_model.specs.History.{Stepped, begin_at}
use Rattle.kernel_model.specs.Kernel.{Blocker, Kernel, Run, has_level}
use Rattle.kernel_model.specs.Blocking.{blocker}
use Rattle.kernel_model.specs.Settle.{step}
use Rattle.kernel_model.specs.Events.{drop_call}
use Rattle.kernel_model.specs.InPlace.{in_place}
use Rattle.kernel_model.specs.Opening.{opening_accounts, opening_things}
use Rattle.kernel_model.specs.Pieces.{plain_calls}
use Rattle.placed_laws.specs.Placed.{PlacedRun, has_some, placed_holds}
use Rattle.placed_laws.specs.PlacedSteps.{placed_step, placed_drop}
use Rattle.placed_laws.specs.Owners.{AreOfOwner}
use Rattle.placed_laws.proofs.AlignLemmas.{run_over}

-- a world of the least size
abbrev small_world : World
small_world = record { frames = 2; patience = λ kind. 10; grant = 0; disk_size = 1; directory = []; callable = 15 }

-- an image that sets a cell
abbrev setting : ImageTable
setting slot = cond (slot == 0) (Some (plain_image (instr Call 0 0 0 1 ∷ instr Ret 0 0 0 0 ∷ []) [])) None

-- a row of the queue
abbrev row : ℕ → QueueRow
row p = record { process = p; nice = 20; slices = 0 }

-- processes 1 and 0 live, and process 1 has a graft at its slice
abbrev one_graft : Objects
one_graft =
    record {
      accounts = record (opening_accounts 10) {
        graft =
            λ q pt. cond (q == 1 && pt == 5)
            (Some (record { image = 0; limit = 9; billed = false; balance = λ k. 9 })) None;
      };
      things = record opening_things { queue = row 1 ∷ row 0 ∷ [] };
    }

-- a graft call of process 0 that asked process 1's graft
abbrev asked_beside : Config
asked_beside = begin_at setting one_graft 0 [] [] (record { installer = 1; point = 5; args = [] })

-- what it records is the installer's, and not the caller's: the cell that process 1 had
records_are_owners :
    AreOfOwner 1 (micro small_world setting 0 asked_beside).config.levels
    × (undo_log (micro small_world setting 0 asked_beside).config.levels ≡ (bare_found (Inverse.Cell 1 0 0) ∷ []) ∷ [])
unfolding same_object
records_are_owners = ((refl, (refl, tt), tt), refl)

-- so the levels of another owner are not of this one after an instruction
others_levels_stay : AreOfOwner 0 (micro small_world setting 0 asked_beside).config.levels → ⊥
unfolding same_object
others_levels_stay h = one_not_zero h.0
  where
    one_not_zero : ◌≡◌ {A = ℕ} 1 0 → ⊥
    one_not_zero e = cc

-- the slice that process 0 yields is asked of process 1's graft, which has set a cell; process 1 is about to read it
abbrev reads_beside : Run
reads_beside =
    record {
      kernel = record {
        world = small_world;
        images = setting;
        objects = one_graft;
        clock = 0;
        call = λ p. cond (p == 0) (Some (record { number = 1; stage = stage Yield 1; marks = Some (Stepped ∷ []) }))
            (cond (p == 1) (Some (record { number = 2; stage = stage (Peek 1) 0; marks = None })) None);
        order = [];
      };
      blocks = λ b. [];
      notes = [];
      io = [];
    }

-- the same in place
abbrev in_one_store : Run → PlacedRun
in_one_store r = run_over plain_calls (in_place plain_calls r.kernel) r

-- the reader is blocked; a step of it would tell the abstract kernel the committed number, and the
-- kernel in place the other one's
blocked_reader_differs :
    ((step plain_calls 1 reads_beside).notes ≡ Ended 2 (Reply.One 0) ∷ [])
    × ((placed_step plain_calls 1 (in_one_store reads_beside)).notes ≡ Ended 2 (Reply.One 20) ∷ [])
unfolding same_object
blocked_reader_differs = (refl, refl)

-- process 1 is about to write that cell instead
abbrev writes_beside : Run
writes_beside =
    record reads_beside {
      kernel = record (reads_beside.kernel) {
        call =
            λ p.
            cond (p == 1) (Some (record { number = 2; stage = stage (Poke 1 7) 0; marks = None }))
            (reads_beside.kernel.call p);
      };
    }

-- the writer is blocked; a step of it would change in the store what the other call holds exclusively
blocked_writer_takes :
    (placed_holds (in_one_store writes_beside).placed 0 0 (Cell 1 1) ≡ Held.Exclusive)
    × ((in_one_store writes_beside).placed.objects.things.cell 1 1 ≡ 20)
    × ((placed_step plain_calls 1 (in_one_store writes_beside)).placed.objects.things.cell 1 1 ≡ 7)
unfolding same_object
blocked_writer_takes = (refl, refl, refl)

-- the drop of a level that isn't there would take all levels from the kernel in place, and none from the abstract one
absent_drop_differs :
    (has_level ((drop_call plain_calls 0 (reads_beside.kernel.call 0) (Some 3) Cause.DivideByZero
    reads_beside).kernel.call 0) ≡ true)
    × (has_some ((placed_drop plain_calls 0 3 Cause.DivideByZero (in_one_store reads_beside)).placed.levels 0) ≡ false)
unfolding same_object
absent_drop_differs = (refl, refl)

-- a graft that takes lock 1
abbrev locking : ImageTable
locking slot = cond (slot == 0) (Some (plain_image (instr Call 0 0 0 12 ∷ instr Ret 0 0 0 0 ∷ []) [])) None

-- process 0's user lock 1
abbrev user_lock : Blocker
user_lock = record { object = Lock 1; holder = 0; call = None }

-- process 0 yields, and process 1's graft that it asks waits for the lock, which process 0 has as a user lock
abbrev waits_in_graft : Kernel
waits_in_graft =
    record {
      world = small_world;
      images = locking;
      objects = record one_graft { things = record (one_graft.things) { lock = λ u. cond (u == 1) (Some 0) None } };
      clock = 0;
      call = λ p. cond (p == 0) (Some (record { number = 1; stage = stage Yield 1; marks = Some [] })) None;
      order = record { process = 0; blocker = Some user_lock; count = 0 } ∷ [];
    }

-- it rests; with a table that lacks the image, not with more images, the graft would wait for nothing
lost_image_wakes : (blocker plain_calls waits_in_graft 0 ≡ Some user_lock)
    × (blocker plain_calls (record waits_in_graft { images = λ slot. None }) 0 ≡ None)
unfolding same_object
lost_image_wakes = (refl, refl)
