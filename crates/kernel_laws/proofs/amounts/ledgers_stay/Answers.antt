use Rattle.kernel_laws.proofs.AmountLemmas.{ledgers_stay}
use Rattle.kernel_laws.proofs.amounts.ledgers_stay.Goals as goal

pub returns : goal.returns
returns c = ledgers_stay
