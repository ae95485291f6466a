use Rattle.std.proofs.Common.{arith}
use Rattle.vino_host.specs.Tables.{records_of, readings}
use Rattle.vino_host.proofs.Undoing.{readings_step}
use Rattle.vino_host.proofs.Log.readings.Goals as goal

pub records-preserved : goal.records-preserved
records-preserved c =
    let all = c.records.invariant in
    let some = c.records-test.true in
    let few = c.readings_in-found.ensures.few in
    let most = all.2 in (
      omega (arith, all.0),
      readings_step c.args.k c.args.self.now.records c.records.n _ c.records.found c.readings_in-found.result
          (readings c.args.k (records_of c.args.self.now)) some all.0 c.readings_in-found.ensures.exact all.1,
      omega (arith, few, most, some),
    )
