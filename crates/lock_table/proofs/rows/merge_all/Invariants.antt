use Rattle.std.proofs.Common.{take}
use Rattle.lock_table.specs.Masks.{merged}
use Rattle.lock_table.proofs.NotedLemmas.{Changed}
use Rattle.lock_table.proofs.rows.merge_all.Given as goal

abbrev pub invariant-loop-number : goal.invariant-loop-number
invariant-loop-number l = Changed (merged l.depth.level) l.initial.masks l.masks (take l.number-index l.numbers)
