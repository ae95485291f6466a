use Rattle.std.proofs.Common.{◌∙◌}
use Rattle.graft_lang.proofs.Spelled.{zeros_more}
use Rattle.graft_lang.proofs.writer.Writer.zeros.Goals as goal

pub loop-i-preserved : goal.loop-i-preserved
loop-i-preserved c =
    zeros_more c.args.variables c.loop-i.i c.loop-i.self c.put.new.self c.loop-i-test.true
    c.in_ok-put.ensures.code ∙ c.loop-i.invariant
