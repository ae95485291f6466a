use Rattle.std.proofs.Common.{◌<◌, refl, get_or, length, arith}
use Rattle.lock_table.specs.Masks.{released}
use Rattle.lock_table.proofs.Used.{release-free}
use Rattle.lock_table.proofs.NotedLemmas.{goes_on, ends, noted_inside}
use Rattle.lock_table.proofs.TakerLemmas.{one_kept, others_kept}
use Rattle.lock_table.proofs.rows.release_all.Goals as goal

pub bounds-masks-number : goal.bounds-masks-number
bounds-masks-number c =
    rw c.loop-number.auto.masks (noted_inside c.args.masks.now c.args.numbers.now
    c.loop-number.number-index c.requires.noted c.loop-number-test.true)

pub bounds-takers-number : goal.bounds-takers-number
bounds-takers-number c =
    let inside = noted_inside c.args.masks.now c.args.numbers.now c.loop-number.number-index
    c.requires.noted c.loop-number-test.true in
    omega (arith, inside, c.loop-number.auto.takers, c.requires.size)

pub loop-number-preserved : goal.loop-number-preserved
loop-number-preserved c =
    let number = get_or c.args.numbers.now c.loop-number.number-index 0 in
    let inside = noted_inside c.args.masks.now c.args.numbers.now c.loop-number.number-index
    c.requires.noted c.loop-number-test.true in
    let within : number < length c.loop-number.masks = omega (arith, inside, c.loop-number.auto.masks) in
    let beside : number < length c.loop-number.takers =
    omega (arith, inside, c.loop-number.auto.takers, c.requires.size) in
    record {
      levels =
          goes_on (released c.args.by.level) c.args.masks.now c.loop-number.masks c.args.numbers.now
          c.loop-number.number-index _ c.released_from-kept.result c.requires.noted
          c.loop-number.auto.masks
          c.loop-number-test.true refl c.released_from-kept.ensures c.loop-number.invariant.levels;
      taker =
          one_kept c.loop-number.takers c.loop-number.masks c.args.by.process
          number c.holding_so.result c.released_from-kept.result beside within
          c.loop-number.invariant.taker c.holding_so.ensures;
      others =
          others_kept c.args.takers.now c.loop-number.takers c.args.by.process number
          c.holding_so.result c.released_from-kept.result beside c.loop-number.invariant.others
          c.holding_so.ensures;
    }

pub returns-clause-released : goal.returns-clause-released
returns-clause-released c =
    ends (released c.args.by.level) c.args.masks.now c.loop-number.masks c.args.numbers.now
    c.loop-number.number-index c.loop-number-test.false (release-free c.args.by.level)
    c.requires.noted c.loop-number.invariant.levels
