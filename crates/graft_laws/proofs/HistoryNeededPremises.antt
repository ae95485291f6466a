-- Premises of the laws that can't be left out: for each the smallest example in which the law would be false.
use Rattle.std.specs.Prelude.{◌≡◌, ℕ, ◌==◌, ◌&&◌, Bool, true, false, cond, nat_lt, ◌||◌, List, []}
use Rattle.std.specs.Prelude.{◌∷◌, reverse, Option, Some, None, option_map, is_some}
use Rattle.std.proofs.Common.{refl}
use Rattle.kernel_model.specs.Boxed.{instr}
use Rattle.kernel_model.specs.declared.Kind.TheVariants.{Steps}
use Rattle.kernel_model.specs.declared.Cause.TheVariants.{Reentered, SpentSteps}
use Rattle.kernel_model.specs.declared.Micro.{Micro}
use Rattle.kernel_model.specs.declared.Op.TheVariants.{Call, Li}
use Rattle.kernel_model.specs.declared.SysCall.TheVariants.{Yield, Peek}
use Rattle.kernel_model.specs.declared.Need.{Need}
use Rattle.kernel_model.specs.declared.Mode.TheVariants.{Shared, Exclusive}
use Rattle.kernel_model.specs.declared.Object.TheVariants.{Cell}
use Rattle.kernel_model.specs.declared.QueueRow.{QueueRow}
use Rattle.kernel_model.specs.Access.{needed}
use Rattle.kernel_model.specs.Events.{expired, tick_event}
use Rattle.kernel_model.specs.World.{World, ImageTable, plain_image}
use Rattle.kernel_model.specs.Objects.{Objects, same_object}
use Rattle.kernel_model.specs.Meaning.{Meaning, stage}
use Rattle.kernel_model.specs.Levels.{Config, Charged, Removed}
use Rattle.kernel_model.specs.GraftStep.{micro}
use Rattle.kernel_model.specs.History.{Mark, Stepped, Fell, Trace, replay, fallen}
use Rattle.kernel_model.specs.UndoLog.{undo_log, undo_on, records_from}
use Rattle.kernel_model.specs.Kernel.{Kernel}
use Rattle.kernel_model.specs.Blocking.{config_in, levels_of}
use Rattle.kernel_model.specs.InPlace.{Cut, in_place, undone, store_below}
use Rattle.kernel_model.specs.Opening.{opening_accounts, opening_things}
use Rattle.kernel_model.specs.Pieces.{plain_calls}

-- ---- fallen levels

-- a world of the least size with one file, of one block
abbrev one_file : World
one_file =
    record {
      frames = 2;
      patience = λ kind. 10;
      grant = 10;
      disk_size = 1;
      directory = Some (record { name = 65 ∷ []; start = 0; blocks = 1; length = 1 }) ∷ [];
      callable = 15;
    }

-- an image that asks to read ahead in the file of the descriptor in r0
abbrev asking : ImageTable
asking slot = cond (slot == 0) (Some (plain_image (instr Call 0 0 0 13 ∷ []) [])) None

-- grafts of process 0 at its slice and at two open files, which are read to their ends
abbrev three_grafts : Objects
three_grafts =
    record {
      accounts = record (opening_accounts 10) {
        graft =
            λ q pt. cond (q == 0 && (nat_lt pt 2 || pt == 5))
            (Some (record { image = 0; limit = 9; billed = true; balance = λ k. 0 })) None;
      };
      things = record opening_things {
        file =
            λ q fd. cond (q == 0 && nat_lt fd 2) (Some
            (record { file = 0; next = 1; window = 0; seq = true; start = 0; count = 0 })) None;
      };
    }

-- the slice's graft asks that of file 0, which asks that of file 1, and this one falls; its mark
-- takes out the wrong graft
abbrev wrong_history : List Mark
wrong_history = Stepped ∷ Fell (Removed 0 ∷ []) ∷ []

-- where that history leads
abbrev wrong_trace : Option Trace
wrong_trace = replay plain_calls one_file asking three_grafts 0 (stage Yield 1) wrong_history

-- what the next instruction is said to do
abbrev said_next : Option Trace → Option Micro
said_next x = option_map (λ (t : Trace). (micro one_file asking 0 t.config).said) x

-- where the history leads after that drop
abbrev after_next : List Mark → Option Trace → Option Config
after_next ks x =
    elim x [
      | None ↦ None
      | Some t ↦ config_in (replay plain_calls one_file asking three_grafts 0 (stage Yield 1)
          (fallen t ks (micro one_file asking 0 t.config).effects 1))
    ]

-- the level whose graft is gone is dropped
its_level_is_dropped : said_next wrong_trace ≡ Some (Micro.Dropped 1 0 0 SpentSteps)
unfolding same_object
its_level_is_dropped = refl

-- and the history after it leads nowhere
its_fall_leads_nowhere : after_next wrong_history wrong_trace ≡ None
unfolding same_object
its_fall_leads_nowhere = refl

-- where a history leads
abbrev leads : List Mark → Option Trace
leads ks = replay plain_calls one_file asking three_grafts 0 (stage Yield 1) ks

-- a third level asks itself, and is dropped
third_level_is_dropped : said_next (leads (Stepped ∷ Stepped ∷ [])) ≡ Some (Micro.Dropped 2 0 1 Reentered)
unfolding same_object
third_level_is_dropped = refl

-- its charge and its graft's end, in that order, can be made again
oldest_first_leads_on : is_some (leads (Stepped ∷ Fell (Charged 1 Steps ∷ Removed 1 ∷ []) ∷ [])) ≡ true
unfolding same_object
oldest_first_leads_on = refl

-- the other way round they can't
newest_first_leads_nowhere : leads (Stepped ∷ Fell (Removed 1 ∷ Charged 1 Steps ∷ []) ∷ []) ≡ None
unfolding same_object
newest_first_leads_nowhere = refl

-- ---- the store in place

-- an image that sets cell 0 to 20, and then to 9
abbrev setting_twice : ImageTable
setting_twice slot =
    cond (slot == 0) (Some (plain_image
    (instr Call 0 0 0 1 ∷ instr Li 0 0 0 0 ∷ instr Li 1 0 0 9 ∷ instr Call 0 0 0 1 ∷ []) [])) None

-- the calls of processes 0 and 1 that have taken so many instructions, in the slice's graft of process 0
abbrev in_flight : (ks : ℕ → Option (List Mark)) → Kernel
in_flight ks =
    record {
      world = one_file;
      images = setting_twice;
      objects = three_grafts;
      clock = 0;
      call = λ p. option_map (λ marks. record { number = p; stage = stage Yield 1; marks = Some marks }) (ks p);
      order = [];
    }

-- process 0 alone, after both changes
abbrev one_call : Kernel
one_call = in_flight (λ p. cond (p == 0) (Some (Stepped ∷ Stepped ∷ Stepped ∷ Stepped ∷ [])) None)

-- all that process p did is cut
abbrev cut_of : ℕ → Cut
cut_of p q = cond (q == p) (Some 0) None

-- a cell of process 0
abbrev cell_0 : Objects → ℕ
cell_0 s = s.things.cell 0 0

-- undone newest first the cell is what it was
newest_first_is_below : cell_0 (undone plain_calls one_call (cut_of 0) (0 ∷ []))
    ≡ cell_0 (store_below plain_calls one_call (cut_of 0))
unfolding same_object
newest_first_is_below = refl

-- oldest first it isn't
oldest_first_is_not :
    cell_0 (undo_on (reverse (records_from 0 (undo_log (levels_of plain_calls one_call 0)))) (in_place
    plain_calls one_call)) ∷ cell_0 (store_below plain_calls one_call (cut_of 0)) ∷ [] ≡ 20 ∷ 0 ∷ []
unfolding same_object
oldest_first_is_not = refl

-- a call that is cut and isn't undone
left_out_is_not : cell_0 (undone plain_calls one_call (cut_of 0) [])
    ∷ cell_0 (store_below plain_calls one_call (cut_of 0)) ∷ [] ≡ 9 ∷ 0 ∷ []
unfolding same_object
left_out_is_not = refl

-- two calls that hold the same cell exclusively, which no sound kernel has
abbrev two_calls : Kernel
two_calls =
    in_flight (λ p. cond (p == 0) (Some (Stepped ∷ Stepped ∷ Stepped ∷ Stepped ∷ []))
    (cond (p == 1) (Some (Stepped ∷ [])) None))

-- undone the second has taken the first one's change too
shared_is_not : cell_0 (undone plain_calls two_calls (cut_of 1) (1 ∷ []))
    ∷ cell_0 (store_below plain_calls two_calls (cut_of 1)) ∷ [] ≡ 0 ∷ 9 ∷ []
unfolding same_object
shared_is_not = refl

-- ---- ticks

-- a row of the queue
abbrev row : ℕ → QueueRow
row p = record { process = p; nice = 20; slices = 0 }

-- an image that reads cell 0
abbrev reading : ImageTable
reading slot = cond (slot == 0) (Some (plain_image (instr Call 0 0 0 0 ∷ []) [])) None

-- a call of process 1 that needs a cell which the graft of process 0 read
abbrev needing : List Need → Meaning
needing ns = record plain_calls { need = λ v s p t. cond (p == 1) ns (plain_calls.need v s p t) }

-- it waits for one tick
abbrev waiting_kernel : Kernel
waiting_kernel =
    record {
      world = record one_file { patience = λ kind. 1 };
      images = reading;
      objects = record three_grafts { things = record (three_grafts.things) { queue = row 0 ∷ row 1 ∷ [] } };
      clock = 0;
      call = λ p. cond (p == 0) (Some (record { number = 1; stage = stage Yield 1; marks = Some (Stepped ∷ []) }))
          (cond (p == 1) (Some (record { number = 2; stage = stage (Peek 0) 0; marks = None })) None);
      order =
          record {
            process = 1;
            blocker = Some (record { object = Cell 0 0; holder = 0; call = Some 1 });
            count = 0;
          } ∷ [];
    }

-- some call has waited too long after a tick
abbrev is_waiting_on : Meaning → Bool
is_waiting_on m =
    let k = (tick_event m 3
    (record { kernel = waiting_kernel; blocks = λ b. []; notes = []; io = [] })).kernel in
    is_some (expired k k.order)

-- where the object is needed in one mode the tick ends
one_mode_ends : is_waiting_on (needing (needed (Cell 0 0) Exclusive ∷ [])) ≡ false
unfolding same_object
one_mode_ends = refl

-- where it is needed shared first and then exclusively, nothing is dropped
two_modes_wait : is_waiting_on (needing (needed (Cell 0 0) Shared ∷ needed (Cell 0 0) Exclusive ∷ [])) ≡ true
unfolding same_object
two_modes_wait = refl
