use Rattle.graft_lang.proofs.CallWriting.{call_written}
use Rattle.graft_lang.proofs.writer.Writer.call.Goals as goal

pub returns-clause-writes : goal.returns-clause-writes
returns-clause-writes c =
    call_written _ _ c.args.to c.args.id c.in_ok-count.count c.args.self.now c.skip.new.self c.arguments.new.self
    c.load_argument.new.self c.load_argument-2.new.self c.load_argument-3.new.self c.append.new.self
    c.put.new.self _ c.skip.ensures c.in_ok-count.ensures.writes c.in_ok-load_argument.ensures.code
    c.in_ok-load_argument-2.ensures.code c.in_ok-load_argument-3.ensures.code (rw c.instr.ensures at c.in_ok-append.ensures)
    c.in_ok-put.ensures.code c.skip-2.ensures
