-- What loading answers.
use Rattle.std.specs.Prelude.{ℕ, ◌==◌, cond, nat_le, Option, Some, None, Result, Ok, Err}
use Rattle.graft_code.specs.World.{Image}
use Rattle.graft_code.specs.declared.Keys.{Keys}
use Rattle.graft_code.specs.Images.{LoadFault, Length, Magic, Version, TooLarge, BadFlags, NoKey}
use Rattle.graft_code.specs.Images.{Seal, BadOp, Register, Jump, Memory, DirectCall, End}
use Rattle.graft_loader.specs.declared.LoadFault as loader
use Rattle.graft_loader.specs.Faults.{refusal_of}
use Rattle.vino_host.specs.declared.KeyPair.{KeyPair}
use Rattle.vino_host.specs.Plugins.{needed}

-- the keys in a caller's struct: one, or two
abbrev pub keys_of : KeyPair → Keys
keys_of pair =
    record { first = pair.first; second = cond (pair.count == 2) (Some pair.second) None }

-- the number of a refusal, which is that of its code L1 to L13, and the place of the instruction
abbrev pub fault_number : LoadFault → ℕ × ℕ
fault_number Length = (1, 0)
fault_number Magic = (2, 0)
fault_number Version = (3, 0)
fault_number TooLarge = (4, 0)
fault_number Seal = (5, 0)
fault_number (BadOp pc) = (6, pc)
fault_number (Register pc) = (7, pc)
fault_number (Jump pc) = (8, pc)
fault_number (Memory pc) = (9, pc)
fault_number (DirectCall pc) = (10, pc)
fault_number End = (11, 0)
fault_number BadFlags = (12, 0)
fault_number NoKey = (13, 0)

-- What is said of an image where there are so many bytes for it: 0 and no place where it loads, 15
-- and how many it needs where these are too few.
abbrev pub verdict_of : (room : ℕ) → Result Image LoadFault → ℕ × ℕ
verdict_of room (Ok i) = cond (nat_le (needed i) room) (0, 0) (15, needed i)
verdict_of room (Err fault) = fault_number fault

-- the number and the place of a refusal, if it is one; want of memory is none
abbrev pub number_by : Option LoadFault → ℕ × ℕ
number_by None = (14, 0)
number_by (Some fault) = fault_number fault

-- the same of a fault of the loader
abbrev pub number_of : loader.LoadFault → ℕ × ℕ
number_of fault = number_by (refusal_of fault)
