use Rattle.graft_lang.proofs.Statements as statements
use Rattle.graft_lang.proofs.laws.statements_run.Goals as goal

pub returns : goal.returns
returns c = statements.statements_run
