use Rattle.process_table.proofs.Rows.{IsTurned}
use Rattle.process_table.proofs.arrays.put_behind.Given as goal

abbrev pub invariant-loop : goal.invariant-loop
invariant-loop l = record { turned : IsTurned l.p l.counter l.initial.rows l.rows l.at }
