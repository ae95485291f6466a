use Rattle.std.proofs.Common.{arith, rules}
use Rattle.call_needs.proofs.BodyLaws.{put_front}
use Rattle.call_needs.proofs.gifts.put_at.Goals as goal

pub returns-else-count-gt-FEW-clause-bytes : goal.returns-else-count-gt-FEW-clause-bytes
returns-else-count-gt-FEW-clause-bytes c =
    let few = c.if-count-gt-FEW.false in
    put_front c.args.at c.args.count 16 c.args.bytes.now c.put_over-else-count-gt-FEW.new.bytes
    c.args.block.now _ c.requires.fits c.requires.block (omega (arith, few)) (omega arith)
    (search rules) c.put_over-else-count-gt-FEW.ensures
