-- Where an instruction leads, and where a level stands from one moment to the next.
use Rattle.std.specs.Prelude.{ℕ, ◌+◌, ◌-◌, ◌^◌, ◌==◌, ◌&&◌, Bool, true, cond, min, nat_lt, Option, None, Some}
use Rattle.script_model.specs.declared.Instr.{Instr}
use Rattle.script_model.specs.declared.Op.{Op}
use Rattle.script_model.specs.declared.Op.TheVariants.{Jmp, Jz, Jnz}
use Rattle.lab_levels.specs.declared.seats.Seat.{Seat}
use Rattle.lab_levels.specs.declared.view.LevelRow.{LevelRow}

-- the place behind an operation at this place, whose first register holds this value
abbrev pub led_by : Op → (imm place value : ℕ) → ℕ
led_by Jmp imm place value = imm
led_by Jz imm place value = cond (value == 0) imm (place + 1)
led_by Jnz imm place value = cond (value == 0) (place + 1) imm
led_by _ imm place value = place + 1

-- the place behind an instruction that doesn't end the run
abbrev pub next_place : Instr → (place value : ℕ) → ℕ
next_place i place value = led_by i.op i.imm place value

-- the place behind an instruction that was taken, with the value of its first register; none where
-- the instruction or its own place isn't known
abbrev pub place_behind : Option ℕ → Option (Instr × ℕ) → Option ℕ
place_behind None taken = None
place_behind (Some place) None = None
place_behind (Some place) (Some t) =
    cond (nat_lt place (2 ^ 32 - 1)) (Some (next_place t.0 place t.1)) None

-- where a level stands that has taken so many instructions by now: one that took none at its first
-- instruction, one that took none more where it stood, and one that took one more behind that
abbrev pub place_now : Seat → (count : ℕ) → Option (Instr × ℕ) → Option ℕ
place_now seat count taken =
    cond (count == 0) (Some 0)
    (cond (seat.live && seat.count == count) seat.place
    (cond (seat.live && seat.count == count - 1) (place_behind seat.place taken) None))

-- what is known of it then
abbrev pub seat_after : Seat → (count : ℕ) → Option (Instr × ℕ) → Seat
seat_after seat count taken =
    record { live = true; count = count; place = place_now seat count taken }

-- a level took one instruction between two moments, and went on
abbrev pub has_gone_on : (before after : LevelRow) → Bool
has_gone_on before after =
    before.depth == after.depth && min (before.count + 1) (2 ^ 32 - 1) == after.count
