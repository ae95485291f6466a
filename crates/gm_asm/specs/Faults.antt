-- What the faults of the assembler stand for.
use Rattle.std.specs.Prelude.{◌≡◌, Result, Err}
use Rattle.graft_texts.specs.Assembler.{LineFault}
use Rattle.gm_asm.specs.declared.AsmFault.{AsmFault}
use Rattle.gm_asm.specs.declared.AsmFault.TheVariants.{At, NoMemory}

-- a fault is the refusal that is said; want of memory stands for none
abbrev pub Refuses : {A : Type 0} → AsmFault → Result A LineFault → Type 0
Refuses (At line kind) said = said ≡ Err (record { line = line; kind = kind })
Refuses NoMemory said = Unit {0}
