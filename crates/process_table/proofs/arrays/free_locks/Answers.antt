use Rattle.std.proofs.Common.{arith}
use Rattle.std.proofs.lemmas.Grind.{common_steps}
use Rattle.std.proofs.lemmas.List.Edits.{map_over_more}
use Rattle.kernel_model.specs.Pieces.{freed_by}
use Rattle.process_table.proofs.arrays.free_locks.Goals as goal

pub loop-holder-preserved : goal.loop-holder-preserved
loop-holder-preserved c = grind (arith, common_steps, map_over_more (freed_by c.args.p))
