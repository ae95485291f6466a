use Rattle.std.proofs.Common.{rules}
use Rattle.demo_text.proofs.LineLemmas.{one_more}
use Rattle.demo_text.proofs.lines.demo_script.Goals as goal

pub loop-line-preserved : goal.loop-line-preserved
loop-line-preserved c =
    one_more c.loop-line.bytes.items c.append.new.out.items c.append-in-loop-line.new.out.items
    c.next.new.line c.loop-line.lines c.next.new.self _
    (search rules) (search rules) (search rules) c.loop-line.invariant
