-- The run of a plug-in as a run of code alone: what it called is answered from a list.
use Rattle.std.specs.Prelude.{ℕ, zero, suc, ◌==◌, cond, List, [], ◌∷◌, Option, None, Some}
use Rattle.graft_code.specs.Machine.{Done, Went, Called, Returned, DividedByZero, Trapped, Outside, PastEnd}
use Rattle.graft_code.specs.Runs.{Halt, Unanswered, AtReturn, AtDivision, AtTrap, Astray}
use Rattle.graft_code.specs.declared.Instr.{Instr}
use Rattle.vino_host.specs.declared.Stop.{Stop}
use Rattle.vino_host.specs.declared.Stop.TheVariants as stop
use Rattle.vino_host.specs.HostMachine.{host_step}
use Rattle.vino_host.specs.HostRuns.{State, state, Answered, Goes, Stops, answered}

-- the answer that the machine of a run shows, before those of the rest
abbrev pub answer_of : (State → List (ℕ × ℕ)) → Answered → List (ℕ × ℕ)
answer_of rest (Goes s) = (s.machine.regs 0, s.machine.regs 1) ∷ rest s
answer_of rest (Stops why s) = []

-- the answers of a run after what an instruction did
abbrev pub answers_after : (number : ℕ) → (State → List (ℕ × ℕ)) → Done → State → List (ℕ × ℕ)
answers_after number rest (Went m) s = rest (state m s.table s.records)
answers_after number rest (Called id m) s = answer_of rest (answered number id (state m s.table s.records))
answers_after number rest Returned s = []
answers_after number rest DividedByZero s = []
answers_after number rest (Trapped code) s = []
answers_after number rest Outside s = []
answers_after number rest PastEnd s = []

-- the words that the table gives a run of at most n instructions
unfoldable pub answers_of : (number : ℕ) → List Instr → (n : ℕ) → State → List (ℕ × ℕ)
answers_of number code zero s = []
answers_of number code (suc n) s =
    answers_after number (answers_of number code n) (host_step code s.machine) s

-- how a run of code alone ends where a plug-in's is dropped for a cause: at a limit it hasn't ended
abbrev pub halt_by : (cause detail : ℕ) → Option Halt
halt_by cause detail =
    cond (cause == 1) (Some AtDivision) (cond (cause == 2) (Some (AtTrap detail))
    (cond (cause == 9) None (cond (cause == 17) (Some Astray) (Some (Unanswered detail)))))

-- how a run of code alone ends where a plug-in's stops
abbrev pub halt_of : Stop → Option Halt
halt_of stop.Returns = Some AtReturn
halt_of (stop.Waits id) = Some (Unanswered id)
halt_of (stop.Drops cause detail) = halt_by cause detail
