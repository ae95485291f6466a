use Rattle.std.proofs.Common.{ℕ, ◌+◌, List, subst, sym, arith}
use Rattle.box_rewriter.proofs.Places.{Passed, Passed-none, Passed-more}
use Rattle.box_rewriter.proofs.boxed_places.Goals as goal

pub loop-i-init : goal.loop-i-init
loop-i-init c = Passed-none c.args.code.now c.in_ok-places.places.items c.in_ok-places.ensures.items

pub loop-i-preserved : goal.loop-i-preserved
loop-i-preserved c =
    subst (λ (xs : List ℕ). Passed c.args.code.now (c.loop-i.i-index + 1)
    (c.loop-i.place + c.boxed_length-place.result) xs) (sym c.in_ok-push.ensures.ok)
    (Passed-more c.args.code.now c.loop-i.i-index c.loop-i.place c.boxed_length-place.result
    c.loop-i.places.items _ c.loop-i.invariant (omega (arith, c.loop-i-test.true))
    c.boxed_length-place.ensures.value c.boxed_length-place.ensures.few)
