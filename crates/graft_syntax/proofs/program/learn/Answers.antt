use Rattle.graft_syntax.proofs.NameMap.{with_name-insert}
use Rattle.graft_syntax.proofs.program.learn.Goals as goal

pub returns-in-Ok : goal.returns-in-Ok
returns-in-Ok c = rw c.in-Ok.ensures.entries (with_name-insert c.args.name c.args.names.now.entries)
