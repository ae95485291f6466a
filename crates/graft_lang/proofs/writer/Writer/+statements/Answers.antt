use Rattle.std.proofs.Common.{sym, subst, rules}
use Rattle.std.proofs.lemmas.Result.{on_ok_weaker}
use Rattle.graft_texts.specs.declared.Op.TheVariants.{Ret}
use Rattle.graft_texts.specs.Boxed.{instr}
use Rattle.graft_lang.specs.Writing.{WritesStatements}
use Rattle.graft_lang.proofs.Writing.{symbol_leads, token_leads, else_written, if_written, either_written}
use Rattle.graft_lang.proofs.Writing.{while_written, if_leads, while_leads, trap_leads, answer_leads}
use Rattle.graft_lang.proofs.Writing.{none_left}
use Rattle.graft_lang.proofs.writer.Writer.+statements.Goals as goal

pub command-returns-in-If-clause-leads : goal.command-returns-in-If-clause-leads
command-returns-in-If-clause-leads t c = rw c.in-If.is
    (on_ok_weaker c.conditional.result (if_leads _ _ _ _) c.conditional.ensures.writes)

pub command-returns-in-While-clause-leads : goal.command-returns-in-While-clause-leads
command-returns-in-While-clause-leads t c =
    rw c.in-While.is (on_ok_weaker c.repetition.result (while_leads _ _ _ _)
    c.repetition.ensures.writes)

pub command-returns-in-Trap-clause-leads : goal.command-returns-in-Trap-clause-leads
command-returns-in-Trap-clause-leads t c =
    rw c.in-Trap.is (on_ok_weaker c.trap.result (trap_leads _ _ _ _) c.trap.ensures.writes)

pub command-returns-in-Answer-clause-leads : goal.command-returns-in-Answer-clause-leads
command-returns-in-Answer-clause-leads t c =
    rw c.in-Answer.is (on_ok_weaker c.answer.result (answer_leads _ _ _ _) c.answer.ensures.writes)

pub command-returns-in_default-clause-leads : goal.command-returns-in_default-clause-leads
command-returns-in_default-clause-leads t c =
    symbol_leads _ _ _ _ c.requires.begins c.in_default.not-If c.in_default.not-While
    c.in_default.not-Trap c.in_default.not-Answer

pub statement-returns-in-Variable-clause-leads : goal.statement-returns-in-Variable-clause-leads
statement-returns-in-Variable-clause-leads t c = rw c.in-Variable.is c.assignment.ensures.leads

pub statement-returns-in-Mark-clause-leads : goal.statement-returns-in-Mark-clause-leads
statement-returns-in-Mark-clause-leads t c = rw c.in-Mark.is c.command.ensures.leads

pub statement-returns-in_default-clause-leads : goal.statement-returns-in_default-clause-leads
statement-returns-in_default-clause-leads t c =
    token_leads _ _ _ _ c.requires.begins c.in_default.not-Variable c.in_default.not-Mark

pub alternative-returns-clause-writes : goal.alternative-returns-clause-writes
alternative-returns-clause-writes t c =
    else_written _ _ _ c.in_ok-end.end c.place-begin.result c.place-behind.result c.args.self.now
    c.hole.new.self c.patch.new.self c.block.new.self _
    (instr Ret 0 0 0 0) c.jump_unless.result c.jump.result c.requires.test c.in_ok-end.ensures.place
    c.in_ok-end.ensures.hole c.place-begin.ensures
    c.jump_unless.ensures.jump c.patch.ensures c.in_ok-block.ensures.writes c.place-behind.ensures
    c.jump.ensures.jump c.patch-2.ensures

pub conditional-returns-then-takes-clause-writes : goal.conditional-returns-then-takes-clause-writes
conditional-returns-then-takes-clause-writes t c =
    on_ok_weaker c.alternative.result
    (either_written _ _ c.in_ok-test.test c.args.self.now c.expression.new.self c.hole.new.self
    c.block.new.self c.takes.new.self _ (instr Ret 0 0 0 0)
    c.in_ok-expression.ensures.writes c.in_ok-test.ensures.place c.in_ok-test.ensures.hole
    c.in_ok-block.ensures.writes (sym c.if-takes.ensures.next)
    c.takes.ensures.skips) c.alternative.ensures.writes

pub conditional-returns-clause-writes : goal.conditional-returns-clause-writes
conditional-returns-clause-writes t c =
    if_written _ _ c.in_ok-test.test c.place-behind.result c.args.self.now c.expression.new.self
    c.hole.new.self c.block.new.self c.takes.new.self _
    (instr Ret 0 0 0 0) c.jump_unless.result c.in_ok-expression.ensures.writes
    c.in_ok-test.ensures.place c.in_ok-test.ensures.hole
    c.in_ok-block.ensures.writes (sym c.if-takes.ensures.next) c.takes.ensures.skips
    c.place-behind.ensures c.jump_unless.ensures.jump c.patch.ensures

pub repetition-returns-clause-writes : goal.repetition-returns-clause-writes
repetition-returns-clause-writes t c =
    while_written _ _ c.in_ok-test.test c.place-begin.result c.place-behind.result c.args.self.now
    c.expression.new.self c.hole.new.self c.block.new.self
    c.append.new.self _ (instr Ret 0 0 0 0) c.jump.result c.jump_unless.result c.place-begin.ensures
    c.in_ok-expression.ensures.writes
    c.in_ok-test.ensures.place c.in_ok-test.ensures.hole c.in_ok-block.ensures.writes
    c.jump.ensures.jump c.in_ok-append.ensures c.place-behind.ensures
    c.jump_unless.ensures.jump c.patch.ensures

pub statements-loop-first-preserved : goal.statements-loop-first-preserved
statements-loop-first-preserved t c = record {
  leads = λ w h. c.loop-first.invariant.leads w
      (subst (λ x. WritesStatements c.args.names.now c.args.top x w)
      (sym c.in-Some.ensures.1)
      (c.in_ok-statement.ensures.leads w h));
  uses = search rules;
}

pub statements-returns-clause-writes : goal.statements-returns-clause-writes
statements-returns-clause-writes t c =
    let l = c.loop-first in
    let at = c.in_default.ensures in
    l.invariant.leads _
    (subst (WritesStatements c.args.names.now c.args.top l.self) (sym at.1)
    (none_left c.args.names.now c.args.top l.self at.0))
