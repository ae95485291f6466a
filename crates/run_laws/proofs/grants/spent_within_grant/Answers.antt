use Rattle.run_laws.proofs.GrantRunLemmas.{spent_within_grant}
use Rattle.run_laws.proofs.grants.spent_within_grant.Goals as goal

pub returns : goal.returns
returns c = spent_within_grant
