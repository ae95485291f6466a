use Rattle.run_laws.proofs.PieceSpendingLemmas.{all_calls_spend_no_steps}
use Rattle.run_laws.proofs.grants.all_calls_spend_no_steps.Goals as goal

pub returns : goal.returns
returns c = all_calls_spend_no_steps
