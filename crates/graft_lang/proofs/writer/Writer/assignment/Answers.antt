use Rattle.std.proofs.Common.{sym}
use Rattle.std.proofs.lemmas.Result.{on_ok_weaker}
use Rattle.graft_lang.proofs.Writing.{value_leads, call_leads}
use Rattle.graft_lang.proofs.writer.Writer.assignment.Goals as goal

pub returns-in-Some-clause-leads : goal.returns-in-Some-clause-leads
returns-in-Some-clause-leads c =
    on_ok_weaker c.call.result
    (call_leads _ _ _ c.in-Some.id _ c.args.self.now c.skip.new.self c.takes_callable.new.self _
    c.number_of-to.ensures.number c.skip.ensures
    c.takes_callable.ensures.skips (sym c.in-Some.ensures.next)) c.call.ensures.writes

pub returns-in-None-clause-leads : goal.returns-in-None-clause-leads
returns-in-None-clause-leads c =
    on_ok_weaker c.assign.result
    (value_leads _ _ _ _ c.args.self.now c.skip.new.self c.takes_callable.new.self _
    c.number_of-to.ensures.number c.skip.ensures
    c.takes_callable.ensures.skips (sym c.in-None.ensures.next)) c.assign.ensures.writes
