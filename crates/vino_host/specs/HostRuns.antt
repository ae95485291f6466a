-- A run of a plug-in: instruction by instruction up to a limit. Ids 0 and 1 read and change the
-- table of words; at ids 2 to 15 the run waits for an answer of the host.
use Rattle.std.specs.Prelude.{ℕ, zero, suc, true, false, nat_le, List}
use Rattle.graft_code.specs.Objects.{at}
use Rattle.graft_code.specs.Machine.{Machine, Done, Went, Called, Returned, DividedByZero, Trapped, Outside, PastEnd}
use Rattle.graft_code.specs.declared.Instr.{Instr}
use Rattle.vino_host.specs.declared.Word.{Word}
use Rattle.vino_host.specs.declared.Record.{Record}
use Rattle.vino_host.specs.declared.Reply.{Reply}
use Rattle.vino_host.specs.declared.Reply.TheVariants as reply
use Rattle.vino_host.specs.declared.Stop.{Stop}
use Rattle.vino_host.specs.declared.Stop.TheVariants.{Returns, Waits, Drops}
use Rattle.vino_host.specs.Codes.{DIVIDED, TRAPPED, NOT_CALLABLE, NO_STEPS, BROKEN}
use Rattle.vino_host.specs.HostMachine.{host_step}
use Rattle.vino_host.specs.Tables.{Serves, Gives, Refuses, serves}

-- a run at a moment: its machine, whose memory is the segment, the table of words, and its records
pub record State : Type 0 where
  pub machine : Machine
  pub table : List Word
  pub records : List Record

-- the same by its parts
abbrev pub state : Machine → List Word → List Record → State
state m table records = record { machine = m; table = table; records = records }

-- how a run stopped: why, how many instructions were left, and the moment
pub record Ended : Type 0 where
  pub stop : Stop
  pub left : ℕ
  pub state : State

-- the same by its parts
abbrev pub ended : Stop → ℕ → State → Ended
ended stop left s = record { stop = stop; left = left; state = s }

-- a machine with a word in r0
abbrev pub with_r0 : ℕ → Machine → Machine
with_r0 x m = record { regs = at 0 x m.regs; pc = m.pc; memory = m.memory }

-- a run goes on after what it called, or stops
pub data Answered : Type 0 where
  Goes : State → Answered
  Stops : Stop → State → Answered

-- a run after what its call of the table gave
abbrev pub after_word : (id : ℕ) → State → Serves → Answered
after_word id s (Gives x table records) = Goes (state (with_r0 x s.machine) table records)
after_word id s (Refuses cause) = Stops (Drops cause id) s

-- a run after its call of an id
abbrev pub answered : (number id : ℕ) → State → Answered
answered number id s =
    elim (nat_le id 1) [
      | true ↦ after_word id s
          (serves number id (s.machine.regs 0) (s.machine.regs 1) s.table s.records)
      | false ↦ elim (nat_le id 15) [
        | true ↦ Stops (Waits id) s
        | false ↦ Stops (Drops NOT_CALLABLE id) s
      ]
    ]

-- the rest of a run that goes on, where so many instructions are left
abbrev pub after_answer : (State → Ended) → ℕ → Answered → Ended
after_answer rest left (Goes s) = rest s
after_answer rest left (Stops stop s) = ended stop left s

-- a run after what an instruction did
abbrev pub after_done : (number : ℕ) → (State → Ended) → ℕ → Done → State → Ended
after_done number rest left (Went m) s = rest (state m s.table s.records)
after_done number rest left (Called id m) s =
    after_answer rest left (answered number id (state m s.table s.records))
after_done number rest left Returned s = ended Returns left s
after_done number rest left DividedByZero s = ended (Drops DIVIDED 0) left s
after_done number rest left (Trapped code) s = ended (Drops TRAPPED code) left s
after_done number rest left Outside s = ended (Drops BROKEN 0) left s
after_done number rest left PastEnd s = ended (Drops BROKEN 0) left s

-- the run of code for a call of this number, which may take n instructions more
unfoldable pub host_run : (number : ℕ) → List Instr → (n : ℕ) → State → Ended
host_run number code zero s = ended (Drops NO_STEPS 0) 0 s
host_run number code (suc n) s =
    after_done number (host_run number code n) n (host_step code s.machine) s

-- what the code says of a call, where this is the machine behind it
abbrev pub replied : Reply → Machine → List Word → List Record → Answered
replied (reply.Gave x) m table records = Goes (state (with_r0 x m) table records)
replied (reply.Stopped stop) m table records = Stops stop (state m table records)
