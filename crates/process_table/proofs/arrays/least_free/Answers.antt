use Rattle.std.proofs.Common.{arith}
use Rattle.std.proofs.lemmas.Grind.{common_steps}
use Rattle.process_table.proofs.Rows.{free_process-living, free_process-free, free_process-none}
use Rattle.process_table.proofs.arrays.least_free.Goals as goal

pub loop-p-preserved : goal.loop-p-preserved
loop-p-preserved c = grind (arith, common_steps, free_process-living)

pub returns-then-not-is_listed-clause-number : goal.returns-then-not-is_listed-clause-number
returns-then-not-is_listed-clause-number c = grind (arith, common_steps, free_process-free)

pub returns-clause-number : goal.returns-clause-number
returns-clause-number c = grind (arith, common_steps, free_process-none)
