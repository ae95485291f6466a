use Rattle.std.proofs.Common.{refl}
use Rattle.lock_table.specs.Masks.{merged}
use Rattle.lock_table.proofs.Used.{merge-free}
use Rattle.lock_table.proofs.NotedLemmas.{goes_on, ends, noted_inside, noted_merge}
use Rattle.lock_table.proofs.rows.merge_all.Goals as goal

pub bounds-masks-number : goal.bounds-masks-number
bounds-masks-number c =
    rw c.loop-number.auto.masks (noted_inside c.args.masks.now c.args.numbers.now
    c.loop-number.number-index c.requires.noted c.loop-number-test.true)

pub loop-number-preserved : goal.loop-number-preserved
loop-number-preserved c =
    goes_on (merged c.args.depth.level) c.args.masks.now c.loop-number.masks c.args.numbers.now
    c.loop-number.number-index _ c.merged_out.result c.requires.noted c.loop-number.auto.masks
    c.loop-number-test.true refl c.merged_out.ensures c.loop-number.invariant

pub returns-clause-merged : goal.returns-clause-merged
returns-clause-merged c =
    ends (merged c.args.depth.level) c.args.masks.now c.loop-number.masks c.args.numbers.now
    c.loop-number.number-index c.loop-number-test.false (merge-free c.args.depth.level)
    c.requires.noted c.loop-number.invariant

pub returns-clause-noted : goal.returns-clause-noted
returns-clause-noted c =
    noted_merge c.args.masks.now c.loop-number.masks c.args.numbers.now c.args.depth.level
    c.requires.inner c.args.depth.below c.requires.noted (returns-clause-merged c)
