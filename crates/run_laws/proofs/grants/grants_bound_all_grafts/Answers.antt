use Rattle.run_laws.proofs.GrantRunLemmas.{grants_bound_all_grafts}
use Rattle.run_laws.proofs.grants.grants_bound_all_grafts.Goals as goal

pub returns : goal.returns
returns c = grants_bound_all_grafts
