use Rattle.std.proofs.Common.{◌≡◌, ◌==◌, false, ◌∙◌, refl, arith}
use Rattle.std.proofs.lemmas.Bool.Decides.{nat_tests}
use Rattle.audit_pieces.proofs.Sampling.{block_first, block_later}
use Rattle.audit_pieces.proofs.sample.sample_block.Goals as goal

pub returns-in_ok-bytes : goal.returns-in_ok-bytes
returns-in_ok-bytes c = c.in_ok-bytes.ensures ∙ block_first c.args.b c.if-b-eq0.true

pub returns-in_ok-bytes-2 : goal.returns-in_ok-bytes-2
returns-in_ok-bytes-2 c =
    let some = c.if-b-eq0.false in
    let later : (c.args.b == 0) ≡ false = grind (arith, nat_tests) in
    c.in_ok-bytes-2.ensures ∙ block_later c.args.b 512 later refl
