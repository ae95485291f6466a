-- What the faults of the rewriter stand for.
use Rattle.std.specs.Prelude.{◌≡◌, List, Option, Some, Result, Err}
use Rattle.graft_code.specs.declared.Instr.{Instr}
use Rattle.graft_code.specs.Boxed as model
use Rattle.box_rewriter.specs.declared.RewriteFault.{RewriteFault}
use Rattle.box_rewriter.specs.declared.RewriteFault.TheVariants.{Register, Jump, Call, End, TooLarge, NoMemory}

-- a fault is the one that is found in code; want of memory is found in none
abbrev pub IsFound : RewriteFault → Option model.RewriteFault → Type 0
IsFound (Register pc) found = found ≡ Some (model.NamesReserved pc)
IsFound (Jump pc) found = found ≡ Some (model.JumpsOut pc)
IsFound (Call pc) found = found ≡ Some (model.CallsUnknown pc)
IsFound End found = found ≡ Some model.NoEnd
IsFound TooLarge found = found ≡ Some model.TooLong
IsFound NoMemory found = ⊥

-- a fault is the refusal that is said; want of memory stands for none
abbrev pub Refuses : RewriteFault → Result (List Instr) model.RewriteFault → Type 0
Refuses (Register pc) said = said ≡ Err (model.NamesReserved pc)
Refuses (Jump pc) said = said ≡ Err (model.JumpsOut pc)
Refuses (Call pc) said = said ≡ Err (model.CallsUnknown pc)
Refuses End said = said ≡ Err model.NoEnd
Refuses TooLarge said = said ≡ Err model.TooLong
Refuses NoMemory said = Unit {0}
