use Rattle.std.proofs.Common.{◌≡◌, ◌≤◌, length, take}
use Rattle.vino_host.specs.Tables.{records_of, released}
use Rattle.vino_host.proofs.table.release.Given as goal

abbrev pub invariant-records : goal.invariant-records
invariant-records l =
    (l.n ≤ length l.log.records)
    × (released (take l.n l.log.records) l.table ≡ released (records_of l.log) l.fn.table)

abbrev pub decreases-records : goal.decreases-records
decreases-records l = l.n
