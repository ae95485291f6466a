use Rattle.std.proofs.Common.{arith}
use Rattle.process_table.proofs.Rows.{turned_more}
use Rattle.process_table.proofs.arrays.put_behind.Goals as goal

pub loop-preserved : goal.loop-preserved
loop-preserved c = record {
  turned =
      turned_more c.args.p c.loop.counter c.args.rows.now c.loop.rows c.pass-at.new.rows
      c.loop.at c.pass-at.result (omega arith) c.loop.invariant.turned c.pass-at.ensures.rows
      c.pass-at.ensures.place;
}
