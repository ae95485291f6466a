-- The machine of a plug-in: registers and a place, over a segment of 4,096 bytes. Its code is what
-- stands in the caller's bytes, whatever that is: a number that is no operation's traps, and
-- registers count modulo 16.
use Rattle.std.specs.Prelude.{ℕ, ◌+◌, ◌*◌, ◌%◌, ◌<◌, ◌==◌, Bool, true, false, cond, List, [], ◌∷◌, slice_index}
use Rattle.std.specs.Prelude.{Some}
use Rattle.graft_code.specs.declared.Instr.{Instr}
use Rattle.graft_code.specs.declared.Op.{Op}
use Rattle.graft_code.specs.declared.Op.TheVariants.{Li, Mov, Add, Sub, Mul, And, Or, Xor, Shl}
use Rattle.graft_code.specs.declared.Op.TheVariants.{Shr, Divu, Remu, Sltu, Addi, Andi, Ldw, Stw}
use Rattle.graft_code.specs.declared.Op.TheVariants.{Ldb, Stb, Jmp, Jz, Jnz, Call, Callr, Trap}
use Rattle.graft_code.specs.declared.Op.TheVariants.{Ret}
use Rattle.graft_code.specs.Boxed.{instr}
use Rattle.graft_code.specs.Machine.{Done, Places, aligned, step_by}
use Rattle.graft_code.specs.Machine as model
use Rattle.vino_host.specs.declared.Machine.{Machine}
use Rattle.vino_host.specs.declared.Outcome.{Outcome}
use Rattle.vino_host.specs.declared.Outcome.TheVariants.{Went, Called, Returned, DividedByZero, Trapped, PastEnd}

-- the operation of a number; one that is none traps
abbrev pub operation : ℕ → Op
operation n =
    cond (n == 1) Li (cond (n == 2) Mov (cond (n == 3) Add (cond (n == 4) Sub (cond (n == 5) Mul
    (cond (n == 6) And (cond (n == 7) Or (cond (n == 8) Xor (cond (n == 9) Shl (cond (n == 10) Shr
    (cond (n == 11) Divu (cond (n == 12) Remu (cond (n == 13) Sltu (cond (n == 14) Addi
    (cond (n == 15) Andi (cond (n == 16) Ldw (cond (n == 17) Stw (cond (n == 18) Ldb
    (cond (n == 19) Stb (cond (n == 20) Jmp (cond (n == 21) Jz (cond (n == 22) Jnz
    (cond (n == 23) Call (cond (n == 24) Callr (cond (n == 26) Ret Trap))))))))))))))))))))))))

-- the instruction that eight bytes stand for: an operation, three registers, and a word, its lowest
-- byte first
abbrev pub instr_by : (o a b c w x y z : ℕ) → Instr
instr_by o a b c w x y z =
    instr (operation o) (a % 16) (b % 16) (c % 16) (w + 256 * x + 65536 * y + 16777216 * z)

-- the code that bytes stand for
unfoldable pub code_in : List ℕ → List Instr
code_in (o ∷ a ∷ b ∷ c ∷ w ∷ x ∷ y ∷ z ∷ bytes) = instr_by o a b c w x y z ∷ code_in bytes
code_in _ = []

-- a list of numbers by place, 0 past its end
abbrev pub by_place : List ℕ → ℕ → ℕ
by_place xs = λ k. slice_index xs k

-- the machine of the definitions that registers and a place are over a segment
abbrev pub machine_of : Machine → List ℕ → model.Machine
machine_of cpu segment =
    record { regs = by_place cpu.regs; pc = cpu.pc; memory = by_place segment }

-- an address counts modulo the segment's size, and a word access clears its low two bits
abbrev pub wrapped_place : Places
wrapped_place m width a = Some (aligned width (a % 4096))

-- an instruction at a place of a plug-in's code: its registers are below 16, and there is a place
-- behind it
pub record IsPlaced (pc : ℕ) (i : Instr) : Type 0 where
  pub a : i.a < 16
  pub b : i.b < 16
  pub c : i.c < 16
  pub place : pc < 1024

-- one instruction of a plug-in's code
abbrev pub host_step : List Instr → model.Machine → Done
host_step code m = step_by wrapped_place code m

-- what an outcome says was done, where this is the machine afterwards
abbrev pub done_of : Outcome → model.Machine → Done
done_of Went m = Done.Went m
done_of (Called id) m = Done.Called id m
done_of Returned m = Done.Returned
done_of DividedByZero m = Done.DividedByZero
done_of (Trapped code) m = Done.Trapped code
done_of PastEnd m = Done.PastEnd

-- the machine goes on after this outcome
abbrev pub goes_on : Outcome → Bool
goes_on Went = true
goes_on (Called id) = true
goes_on _ = false
