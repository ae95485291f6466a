-- What is claimed of hosted plug-ins.
use Rattle.std.specs.Prelude.{◌≡◌, ℕ, ◌-◌, false, List, None, Some, slice_get}
use Rattle.graft_code.specs.Machine.{Machine, masked_place, step_by}
use Rattle.graft_code.specs.Runs.{CodeRun, raw_run}
use Rattle.graft_code.specs.declared.Instr.{Instr}
use Rattle.vino_host.specs.declared.Stop.TheVariants as stop
use Rattle.vino_host.specs.HostMachine.{host_step}
use Rattle.vino_host.specs.HostRuns.{State, Ended, host_run}
use Rattle.vino_host.specs.declared.Word.{Word}
use Rattle.vino_host.specs.Tables.{is_open_to, undone}
use Rattle.host_laws.specs.RawAnswers.{answers_of, halt_of}

-- an instruction is one of the code with each address masked
abbrev pub StepsAreRaw : Type 0
StepsAreRaw = (code : List Instr) (m : Machine) →
    host_step code m ≡ step_by masked_place (code) m

-- a run of code alone has come as far as a plug-in's run
pub record IsRawRun (e : Ended) (r : CodeRun) : Type 0 where
  -- it ended in the same way
  pub ended : r.ended ≡ halt_of e.stop
  -- where the plug-in returned, with the same registers and the same segment
  pub machine : e.stop ≡ stop.Returns → r.machine ≡ e.state.machine

-- from the same machine on, with the words that the table gives as its answers, the code with each
-- address masked comes after as many instructions as far as the plug-in
abbrev pub RunsAreRaw : Type 0
RunsAreRaw =
    (number : ℕ) (code : List Instr) (n : ℕ) (s : State) (r : CodeRun) → r.machine ≡ s.machine →
    r.ended ≡ None → r.answers ≡ answers_of number code n s →
    IsRawRun (host_run number code n s)
    (raw_run (code) (n - (host_run number code n s).left) r)

-- what a run's records put back is the table with which it began
abbrev pub RunsKeepTheTable : Type 0
RunsKeepTheTable =
    (number : ℕ) (code : List Instr) (n : ℕ) (s : State) →
    undone (host_run number code n s).state.records (host_run number code n s).state.table
    ≡ undone s.records s.table

-- each word of the first table that belongs to another call than that of this number stands in the
-- second one as it is
abbrev pub LeavesOthers : (number : ℕ) → List Word → List Word → Type 0
LeavesOthers number old new =
    (k : ℕ) (w : Word) → slice_get old k ≡ Some w → is_open_to number w ≡ false →
    slice_get new k ≡ Some w

-- a run leaves each word that belongs to another call as it is
abbrev pub RunsLeaveOthers : Type 0
RunsLeaveOthers =
    (number : ℕ) (code : List Instr) (n : ℕ) (s : State) →
    LeavesOthers number s.table (host_run number code n s).state.table
