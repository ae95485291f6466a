use Rattle.std.proofs.Common.{◌≡◌}
use Rattle.vino_host.specs.HostMachine.{code_in, machine_of}
use Rattle.vino_host.specs.HostRuns.{state, host_run}
use Rattle.vino_host.specs.Tables.{records_of}
use Rattle.vino_host.proofs.running.run.Given as goal

abbrev pub invariant-turns : goal.invariant-turns
invariant-turns l =
    host_run l.number (code_in l.code) l.left (state (machine_of l.machine l.segment) l.table (records_of l.log))
    ≡ host_run l.number (code_in l.code) l.limit
    (state (machine_of l.fn.machine l.fn.segment) l.fn.table (records_of l.fn.log))

abbrev pub decreases-turns : goal.decreases-turns
decreases-turns l = l.left
