use Rattle.std.proofs.Common.{◌≡◌, ◌+◌, ◌≤◌, length, take}
use Rattle.vino_host.specs.Tables.{records_of, readings}
use Rattle.vino_host.proofs.Log.readings.Given as goal

abbrev pub invariant-records : goal.invariant-records
invariant-records l =
    (l.n ≤ length l.self.records)
    × (l.found + readings l.k (take l.n l.self.records) ≡ readings l.k (records_of l.self))
    × (l.found + l.n ≤ length l.self.records)

abbrev pub decreases-records : goal.decreases-records
decreases-records l = l.n
