use Rattle.std.proofs.Common.{take}
use Rattle.lock_table.specs.Masks.{released}
use Rattle.lock_table.specs.Takers.{HasTaker, AreOthersSame}
use Rattle.lock_table.proofs.NotedLemmas.{Changed}
use Rattle.lock_table.proofs.rows.release_all.Given as goal

abbrev pub invariant-loop-number : goal.invariant-loop-number
invariant-loop-number l = record {
  levels : Changed (released l.by.level) l.initial.masks l.masks (take l.number-index l.numbers);
  taker : HasTaker l.takers l.by.process l.masks;
  others : AreOthersSame l.by.process l.initial.takers l.takers;
}
