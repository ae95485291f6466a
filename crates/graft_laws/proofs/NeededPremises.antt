-- Premises of the laws that can't be left out: for each the smallest example in which the law would be false.
use Rattle.std.specs.Prelude.{◌≡◌, ℕ, ◌==◌, ◌&&◌, true, false, cond, List, [], ◌∷◌, length, Option, Some, None}
use Rattle.std.proofs.Common.{refl}
use Rattle.kernel_model.specs.declared.Cause.{Cause}
use Rattle.kernel_model.specs.declared.Cause.TheVariants.{RefusedAnswer}
use Rattle.kernel_model.specs.declared.Instr.{Instr}
use Rattle.kernel_model.specs.declared.Micro.{Micro}
use Rattle.kernel_model.specs.declared.Op.{Op}
use Rattle.kernel_model.specs.declared.Op.TheVariants.{Call, Ret}
use Rattle.kernel_model.specs.declared.QueueRow.{QueueRow}
use Rattle.kernel_model.specs.World.{World, ImageTable, plain_image}
use Rattle.kernel_model.specs.Objects.{Objects, Things, FrameValue, same_object}
use Rattle.kernel_model.specs.Locks.{touch, untouched}
use Rattle.kernel_model.specs.Opening.{opening_things}
use Rattle.kernel_model.specs.Levels.{Level, Config, Charged, drop_level}
use Rattle.kernel_model.specs.GraftStep.{micro}
use Rattle.kernel_model.specs.Meaning.{stage}
use Rattle.kernel_model.specs.Kernel.{Call as CallInFlight, Kernel, Run}
use Rattle.kernel_model.specs.Blocking.{config_of, holds}
use Rattle.kernel_model.specs.Settle.{step}
use Rattle.kernel_model.specs.Pieces.{plain_calls}
use Rattle.kernel_model.specs.Events.{drop_call}
use Rattle.kernel_model.specs.Sound.{clash}
use Rattle.kernel_model.specs.declared.SysCall.TheVariants.{Yield, Spawn}
use Rattle.kernel_model.specs.Charges.{funds}
use Rattle.kernel_model.specs.History.{Mark, Stepped, effect}
use Rattle.kernel_model.specs.InPlace.{is_changed_in}
use Rattle.kernel_model.specs.declared.Kind.TheVariants.{Steps}
use Rattle.kernel_model.specs.declared.Mode.{Mode}
use Rattle.kernel_model.specs.declared.Object.TheVariants.{Graft, Queue}

-- a world of the least size
abbrev small_world : World
small_world = record { frames = 2; patience = λ kind. 10; grant = 0; disk_size = 1; directory = []; callable = 15 }

-- an instruction with its immediate number
abbrev instr : Op → ℕ → Instr
instr op imm = record { op = op; a = 0; b = 0; c = 0; imm = imm }

-- one image of one instruction
abbrev image_of_one : Instr → ImageTable
image_of_one i slot = Some (plain_image (i ∷ []) [])

-- grafts of process 0 at every point, which can pay for 10 of each kind, over these things
abbrev with_grafts : Things → Objects
with_grafts w =
    record {
      accounts = record {
        graft = λ q pt. cond (q == 0) (Some (record { image = 0; limit = 10; billed = false; balance = λ k. 10 })) None;
        acct = λ q. record { balance = λ k. 0; spent = λ k. 0 };
      };
      things = w;
    }

-- a level of process 0 at a point, whose registers are all this number, and which found these things
abbrev level : (point number : ℕ) → Things → Level
level pt n w =
    record {
      owner = 0;
      point = pt;
      machine = record { regs = λ r. n; pc = 0; memory = λ a. 0 };
      count = 0;
      touched = untouched;
      args = [];
      records = [];
      kept = w;
    }

-- register 0 of the innermost level
abbrev first_register : List Level → ℕ
first_register [] = 0
first_register (l ∷ ls) = l.machine.regs 0

-- ---- calls that are alike

-- cell 0 of process 0 has this value
abbrev with_cell : ℕ → Things
with_cell x = record opening_things { cell = λ q k. cond (q == 0 && k == 0) x 0 }

-- a graft that reads a cell, on which the states don't agree
abbrev reads_cell : ℕ → Config
reads_cell x = record { now = with_grafts (with_cell x); levels = level 5 0 (with_cell x) ∷ [] }

-- the instruction finds different values
needed_cell_differs : (first_register
    (micro small_world (image_of_one (instr Call 0)) 0 (reads_cell 7)).config.levels ≡ 7)
    × (first_register (micro small_world (image_of_one (instr Call 0)) 0 (reads_cell 8)).config.levels ≡ 8)
needed_cell_differs = (refl, refl)

-- frame 1 is of process 0, or no frame is in use
abbrev with_frame : Option FrameValue → List ℕ → Things
with_frame x lru = record opening_things { cache = record { frame = λ f. cond (f == 1) x None; lru = lru } }

abbrev frame_of_root : FrameValue
frame_of_root = record { owner = 0; block = 0; dirty = false; mark = 0; bytes = [] }

-- a level that asked which frame goes, and doesn't hold the cache
abbrev asked_in_vain : Things → Config
asked_in_vain w = record { now = with_grafts w; levels = level 4 0 w ∷ level 5 0 w ∷ [] }

-- the drop of the level that was asked gives its asker different frames
unheld_default_differs : (first_register (drop_level small_world
    (asked_in_vain (with_frame (Some frame_of_root) (1 ∷ []))).now (asked_in_vain
    (with_frame (Some frame_of_root) (1 ∷ []))).levels 1 Cause.DivideByZero).config.levels ≡ 1)
    × (first_register (drop_level small_world (asked_in_vain (with_frame None [])).now
    (asked_in_vain (with_frame None [])).levels 1 Cause.DivideByZero).config.levels ≡ 0)
unheld_default_differs = (refl, refl)

-- these processes live
abbrev with_living : List ℕ → Things
with_living ps = record opening_things { queue = rows ps }
  where
    rows : List ℕ → List QueueRow
    rows [] = []
    rows (p ∷ ps) = record { process = p; nice = 20; slices = 0 } ∷ rows ps

-- a graft that chooses process 1, and doesn't hold the queue
abbrev chooses_one : Things → Config
chooses_one w = record { now = with_grafts w; levels = level 5 1 w ∷ [] }

-- its answer is valid where process 1 lives, and else refused
unheld_answer_differs : ((micro small_world (image_of_one (instr Ret 0)) 0
    (chooses_one (with_living (0 ∷ 1 ∷ [])))).said ≡ Micro.Completed (1 ∷ 1 ∷ 1 ∷ 1 ∷ []))
    × ((micro small_world (image_of_one (instr Ret 0)) 0 (chooses_one (with_living (0 ∷ [])))).said
    ≡ Micro.Dropped 0 0 5 (RefusedAnswer 1 1))
unheld_answer_differs = (refl, refl)

-- ---- what levels found, and what they hold

-- what the innermost level found
abbrev first_kept : List Level → Things
first_kept [] = opening_things
first_kept (l ∷ ls) = l.kept

-- a level that changed a cell of 0 to 7, and asks another point
abbrev asks_after_change : Config
asks_after_change = record { now = with_grafts (with_cell 7); levels = level 4 0 (with_cell 0) ∷ [] }

-- the level that begins finds the change
outer_change_is_found : (first_kept (micro small_world (image_of_one (instr Call 15)) 0
    asks_after_change).config.levels).cell 0 0 ≡ 7
outer_change_is_found = refl

-- a level that holds the graft of point 1 shared, as a piece that needs it so would
abbrev shares_graft : Config
shares_graft =
    record {
      now = with_grafts opening_things;
      levels = record (level 5 0 opening_things) { touched = touch (Graft 0 1) Mode.Shared untouched } ∷ [];
    }

-- what the graft of point 1 has of steps
abbrev steps_left : Option Config → ℕ
steps_left None = 0
steps_left (Some c) = funds c.now.accounts 0 1 Steps

-- an effect that is made again changes it, though no level holds it exclusively
shared_graft_is_charged : (steps_left (effect 0 (Charged 1 Steps) shares_graft) ≡ 9)
    × (is_changed_in shares_graft.levels (Graft 0 1) ≡ false)
unfolding same_object
shared_graft_is_charged = (refl, refl)

-- ---- kept segments

-- each byte of what is kept for each graft is this number
abbrev with_segments : ℕ → Things
with_segments b = record opening_things { segment = λ q pt. Some (λ a. b) }

-- one image of one instruction whose grafts keep their segments
abbrev keeping_image_of_one : Instr → ImageTable
keeping_image_of_one i slot = Some (record { code = i ∷ []; body = []; keep = true })

-- a level that asks another point
abbrev asks_kept : ℕ → Config
asks_kept b = record { now = with_grafts (with_segments b); levels = level 4 0 (with_segments b) ∷ [] }

-- byte 0 of the innermost level's segment
abbrev first_byte : List Level → ℕ
first_byte [] = 0
first_byte (l ∷ ls) = l.machine.memory 0

-- the level that begins finds what was kept, on which the states don't agree
needed_segment_differs : (first_byte
    (micro small_world (keeping_image_of_one (instr Call 15)) 0 (asks_kept 7)).config.levels ≡ 7)
    × (first_byte (micro small_world (keeping_image_of_one (instr Call 15)) 0 (asks_kept 8)).config.levels ≡ 8)
needed_segment_differs = (refl, refl)

-- byte 0 of what is kept
abbrev kept_byte : Option (ℕ → ℕ) → ℕ
kept_byte None = 0
kept_byte (Some bytes) = bytes 0

-- a level whose graft keeps its segment answers a level that holds neither graft exclusively
abbrev answers_unheld : Config
answers_unheld =
    record {
      now = with_grafts (with_segments 7);
      levels = level 5 0 (with_segments 7) ∷ level 4 0 (with_segments 7) ∷ [];
    }

-- its segment changes, though no level holds it
unheld_segment_changes : (kept_byte ((micro small_world (keeping_image_of_one (instr Ret 0)) 0
    answers_unheld).config.now.things.segment 0 5) ≡ 0)
    × (is_changed_in answers_unheld.levels (Graft 0 5) ≡ false)
unheld_segment_changes = (refl, refl)

-- ---- calls beside each other

-- process 0's slice is asked of its graft, which has begun, and process 1 is about to spawn
abbrev two_calls : Kernel
two_calls =
    record {
      world = small_world;
      images = image_of_one (instr Ret 0);
      objects = with_grafts (with_living (0 ∷ 1 ∷ []));
      clock = 0;
      call = λ p. cond (p == 0) (Some (record { number = 1; stage = stage Yield 1; marks = Some [] }))
          (cond (p == 1) (Some (record { number = 2; stage = stage Spawn 0; marks = None })) None);
      order = [];
    }

-- how many processes a call's graft sees
abbrev seen_processes : Option Config → ℕ
seen_processes None = 0
seen_processes (Some c) = length c.now.things.queue

-- the spawn is blocked by the graft call, which holds the queue; a step of it would change what that call holds
blocked_step_changes_held : (seen_processes (config_of plain_calls two_calls 0) ≡ 2)
    × (seen_processes (config_of plain_calls (step plain_calls 1
    (record { kernel = two_calls; blocks = λ b. []; notes = []; io = [] })).kernel 0) ≡ 3)
blocked_step_changes_held = (refl, refl)

-- ---- sound kernels

-- process 0's slice is asked of its graft, which has begun, and the graft of process 0 is to be
-- asked for process 1's yield too
abbrev two_yields : Kernel
two_yields =
    record two_calls {
      call = λ p. cond (p == 0) (Some (record { number = 1; stage = stage Yield 1; marks = Some [] }))
          (cond (p == 1) (Some (record { number = 2; stage = stage Yield 1; marks = None })) None);
    }

-- a run of a kernel over empty blocks
abbrev run_of : Kernel → Run
run_of k = record { kernel = k; blocks = λ b. []; notes = []; io = [] }

-- a step of process 1, which is blocked, makes two calls hold the queue exclusively
blocked_step_clashes : (clash (holds plain_calls two_yields 0 0 Queue) (holds plain_calls two_yields 1 0 Queue) ≡ false)
    × (clash (holds plain_calls (step plain_calls 1 (run_of two_yields)).kernel 0 0 Queue)
    (holds plain_calls (step plain_calls 1 (run_of two_yields)).kernel 1 0 Queue) ≡ true)
unfolding same_object
blocked_step_clashes = (refl, refl)

-- the history of a process's call
abbrev history_of : Option CallInFlight → Option (List Mark)
history_of None = None
history_of (Some c) = c.marks

-- the drop of a level that isn't there writes an instruction into the history that nobody did
absent_drop_writes : history_of ((drop_call plain_calls 0 (two_calls.call 0)
    (Some 3) Cause.DivideByZero (run_of two_calls)).kernel.call 0) ≡ Some (Stepped ∷ [])
absent_drop_writes = refl
