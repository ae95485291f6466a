-- The id that an instruction calls is the one that its needs are told by.
use Rattle.std.specs.Prelude.{◌≡◌, ℕ, ◌+◌, ◌/◌, ◌%◌, ◌==◌, Bool, true, false, List, slice_get, Option, Some, None}
use Rattle.std.proofs.Common.{refl}
use Rattle.kernel_model.specs.declared.Instr.{Instr}
use Rattle.kernel_model.specs.declared.Op.{Op}
use Rattle.kernel_model.specs.declared.Op.TheVariants.{Divu, Remu, Ldw, Stw, Ldb, Stb, Jz, Jnz}
use Rattle.kernel_model.specs.Machine.{Machine, Done, Called, Width, Word, Byte, Places}
use Rattle.kernel_model.specs.Machine.{segment_place, sets, jumps, reads, writes, exec, called_id}
use Rattle.kernel_model.specs.Machine.{next_call, seg_step}

-- the id that was called
abbrev pub called_in : Done → Option ℕ
called_in (Called id m) = Some id
called_in d = None

reads_none : (m : Machine) (width : Width) (a : ℕ) (x : Option ℕ) → called_in (reads m width a x) ≡ None
reads_none m width a None = refl
reads_none m width a (Some x) = refl

writes_none : (m : Machine) (width : Width) (v : ℕ) (x : Option ℕ) → called_in (writes m width v x) ≡ None
writes_none m width v None = refl
writes_none m width v (Some x) = refl

-- a quotient, or none
sets_none : (b : Bool) (m : Machine) (a x : ℕ) →
    called_in (elim b as (λ _. Done) [ true ↦ Done.DividedByZero | false ↦ sets m a x ]) ≡ None
sets_none true m a x = refl
sets_none false m a x = refl

jumps_none : (b : Bool) (m : Machine) (x y : ℕ) →
    called_in (elim b as (λ _. Done) [ true ↦ jumps m x | false ↦ jumps m y ]) ≡ None
jumps_none true m x y = refl
jumps_none false m x y = refl

exec_calls : (place : Places) (op : Op) (a b c imm : ℕ) (m : Machine) →
    called_in (exec place op a b c imm m) ≡ called_id op a imm m
exec_calls place Divu a b c imm m = sets_none (m.regs c == 0) m a (m.regs b / m.regs c)
exec_calls place Remu a b c imm m = sets_none (m.regs c == 0) m a (m.regs b % m.regs c)
exec_calls place Ldw a b c imm m = reads_none m Word a (place m Word (m.regs b))
exec_calls place Stw a b c imm m = writes_none m Word (m.regs a) (place m Word (m.regs b))
exec_calls place Ldb a b c imm m = reads_none m Byte a (place m Byte (m.regs b))
exec_calls place Stb a b c imm m = writes_none m Byte (m.regs a) (place m Byte (m.regs b))
exec_calls place Jz a b c imm m = jumps_none (m.regs a == 0) m imm (m.pc + 1)
exec_calls place Jnz a b c imm m = jumps_none (m.regs a == 0) m (m.pc + 1) imm
exec_calls place _ a b c imm m = refl

-- the next instruction calls the id that `next_call` tells
pub step_calls : (code : List Instr) (m : Machine) → called_in (seg_step code m) ≡ next_call code m
step_calls code m = calls_by (slice_get code m.pc)
  where
    calls_by : (x : Option Instr) →
        called_in (elim x as (λ _. Done) [ None ↦ Done.PastEnd | Some i ↦ exec segment_place i.op i.a i.b i.c i.imm m ])
        ≡ elim x as (λ _. Option ℕ) [ None ↦ None | Some i ↦ called_id i.op i.a i.imm m ]
    calls_by None = refl
    calls_by (Some i) = exec_calls segment_place i.op i.a i.b i.c i.imm m
