-- What is known of each level of each process.
use Rattle.std.specs.Prelude.{ℕ, ◌+◌, ◌*◌, Bool, false, not, ◌||◌, nat_lt, List, Option, None, Some}
use Rattle.std.specs.Prelude.{slice_index, slice_index_or, slice_set}
use Rattle.script_model.specs.declared.Instr.{Instr}
use Rattle.lab_levels.specs.declared.seats.Seat.{Seat}
use Rattle.lab_levels.specs.declared.view.LevelRow.{LevelRow}
use Rattle.lab_levels.specs.Places.{seat_after}

-- the seats, four for each process; of each 16 registers and the 4,096 bytes of a segment, one
-- behind another
pub record Known : Type 0 where
  pub seats : List Seat
  pub registers : List ℕ
  pub bytes : List ℕ

-- no level
abbrev pub nobody : Seat
nobody = record { live = false; count = 0; place = None }

-- the number of the seat of a level
abbrev pub seat_number : (process depth : ℕ) → ℕ
seat_number process depth = 4 * process + depth

-- what was last seen of a level
abbrev pub seat_of : (process depth : ℕ) → Known → Seat
seat_of process depth k = slice_index_or k.seats (seat_number process depth) nobody

-- a register of a level as it was last seen
abbrev pub register_of : (process depth i : ℕ) → Known → ℕ
register_of process depth i k = slice_index k.registers (16 * seat_number process depth + i)

-- a level has another seat
abbrev pub with_seat : (process depth : ℕ) → Seat → Known → Known
with_seat process depth seat k =
    record k { seats = slice_set k.seats (seat_number process depth) seat }

-- a register of a level is another one
abbrev pub with_register : (process depth i value : ℕ) → Known → Known
with_register process depth i value k =
    record k { registers = slice_set k.registers (16 * seat_number process depth + i) value }

-- an instruction with the value of its first register
abbrev pub with_value : (process depth : ℕ) → Known → Option Instr → Option (Instr × ℕ)
with_value process depth k None = None
with_value process depth k (Some i) = Some (i, register_of process depth i.a k)

-- a level is there now, and took this instruction if its count rose
abbrev pub followed : LevelRow → (taken : Option Instr) → Known → Known
followed l taken k =
    with_seat l.process l.depth
    (seat_after (seat_of l.process l.depth k) l.count (with_value l.process l.depth k taken)) k

-- it is a new one: none was there, or one that had taken more instructions
abbrev pub is_new : LevelRow → Known → Bool
is_new l k =
    not (seat_of l.process l.depth k).live || nat_lt l.count (seat_of l.process l.depth k).count
