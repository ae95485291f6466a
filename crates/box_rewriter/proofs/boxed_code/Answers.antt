use Rattle.std.proofs.Common.{◌<◌, length, arith}
use Rattle.std.proofs.lemmas.Option.{slice_get-get_or}
use Rattle.box_rewriter.proofs.Faults.{targets_from}
use Rattle.box_rewriter.proofs.Places.{blocks_more}
use Rattle.box_rewriter.proofs.boxed_code.Goals as goal

pub push_boxed-requires : goal.push_boxed-requires
push_boxed-requires c jump =
    let l : c.loop-i.i-index < length c.args.code.now = omega (arith, c.loop-i-test.true) in
    omega (
      arith,
      c.requires.places.count,
      targets_from c.args.code.now c.requires.allowed
          c.loop-i.i-index _ (slice_get-get_or c.args.code.now c.loop-i.i-index _ l) jump,
    )

pub loop-i-preserved : goal.loop-i-preserved
loop-i-preserved c =
    let l : c.loop-i.i-index < length c.args.code.now = omega (arith, c.loop-i-test.true) in
    blocks_more c.args.code.now c.args.places.now c.loop-i.i-index _ c.loop-i.out.items
    c.push_boxed.new.out.items c.requires.places
    (targets_from c.args.code.now c.requires.allowed c.loop-i.i-index _
    (slice_get-get_or c.args.code.now c.loop-i.i-index _ l)) l c.loop-i.invariant
    c.in_ok-push_boxed.ensures.ok
