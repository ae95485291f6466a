use Rattle.script_text.proofs.Newlines.{first_newline-is}
use Rattle.script_text.proofs.line_buf.first_newline.Goals as goal

pub returns : goal.returns
returns c =
    first_newline-is c.args.bytes.now c.next.new.self c.next.result
    (rw c.memchr_iter.ensures.value at c.next.ensures.steps)
