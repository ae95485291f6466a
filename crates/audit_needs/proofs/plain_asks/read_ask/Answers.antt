use Rattle.audit_needs.proofs.plain_asks.read_ask.Goals as goal

pub returns-in-1 : goal.returns-in-1
returns-in-1 c = rw c.in-1.is c.ahead_ask.ensures
