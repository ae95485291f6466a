use Rattle.graft_laws.proofs.UnaskedLemmas.{unasked_is_unseen}
use Rattle.graft_laws.proofs.histories.unasked_is_unseen.Goals as goal

pub returns : goal.returns
returns g c = unasked_is_unseen g.R.Rules.meaning
