use Rattle.std.proofs.Common.{◌≤◌, length, arith}
use Rattle.gm_image.proofs.Splitting.{Splits-more}
use Rattle.gm_image.proofs.sealed.read_words.Goals as goal

pub loop-word-preserved : goal.loop-word-preserved
loop-word-preserved c =
    let room : 8 ≤ length c.loop-word.rest.now = omega (arith, c.in-Some.ensures.cases.2) in
    rw (c.in_ok-push.ensures.ok, c.in-Some.ensures.cases.0, c.in-Some.ensures.cases.1)
    (Splits-more _ _ _ _ c.loop-word.invariant room)
