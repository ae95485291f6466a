use Rattle.std.proofs.Common.{◌+◌, refl, sym, arith}
use Rattle.graft_lang.proofs.Writing.{arguments_ended, arguments_missing, arguments_more}
use Rattle.graft_lang.proofs.writer.Writer.+arguments.Goals as goal

pub returns-then-takes-clause-writes : goal.returns-then-takes-clause-writes
returns-then-takes-clause-writes t c =
    arguments_ended _ _ c.args.self.now _ (sym c.if-takes.ensures.next) c.takes.ensures.skips

pub returns-then-is_done-clause-writes : goal.returns-then-is_done-clause-writes
returns-then-is_done-clause-writes t c =
    arguments_missing _ _ 0 c.args.self.now c.takes.new.self _ (sym c.if-takes.ensures.next)
    c.takes.ensures.skips (c.if-is_done.ensures.0 refl)

pub returns-clause-writes : goal.returns-clause-writes
returns-clause-writes t c =
    arguments_more _ _ (c.args.top + 1) c.in_ok-others.others c.args.self.now c.takes.new.self
    c.expression.new.self c.put.new.self c.takes-2.new.self _
    (sym c.if-takes.ensures.next) c.takes.ensures.skips c.in_ok-expression.ensures.writes
    c.in_ok-put.ensures.code c.takes-2.ensures.skips (omega arith) c.in_ok-others.ensures.writes
