use Rattle.session_laws.proofs.SpendingLemmas.{instructions_are_paid_for}
use Rattle.session_laws.proofs.spending.instructions_are_paid_for.Goals as goal

pub returns : goal.returns
returns c = instructions_are_paid_for
