use Rattle.std.proofs.Common.{arith}
use Rattle.box_rewriter.proofs.Fits.{boxed_image}
use Rattle.box_rewriter.proofs.rewrite.Goals as goal

pub invariant_of-result : goal.invariant_of-result
invariant_of-result c =
    boxed_image c.code.result.now c.in_ok-code.code.items c.in_ok-body.body.items
    c.in_ok-code.ensures.ok c.code.ensures.code_fits
    (omega (arith, c.in_ok-body.ensures.len, c.body.ensures.body_len, c.in_ok-body.ensures.items))
