use Rattle.kernel_laws.proofs.AmountLemmas.{grant_stays}
use Rattle.kernel_laws.proofs.amounts.grant_stays.Goals as goal

pub returns : goal.returns
returns c = grant_stays
