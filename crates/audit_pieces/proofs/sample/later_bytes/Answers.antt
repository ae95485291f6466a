use Rattle.std.proofs.Common.{arith}
use Rattle.audit_pieces.proofs.Sampling.{byte_more}
use Rattle.audit_pieces.proofs.sample.later_bytes.Goals as goal

pub loop-i-preserved : goal.loop-i-preserved
loop-i-preserved c =
    byte_more c.args.b c.loop-i.i _ c.loop-i.bytes.items c.put_last.new.items.items
    c.loop-i.invariant c.in_ok-put_last.ensures (grind (arith, c.from.ensures, c.from-in-loop-i.ensures))
