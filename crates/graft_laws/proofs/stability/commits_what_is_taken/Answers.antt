use Rattle.graft_laws.proofs.StabilityLemmas.{commits_what_is_taken}
use Rattle.graft_laws.proofs.stability.commits_what_is_taken.Goals as goal

pub returns : goal.returns
returns g c = commits_what_is_taken g.R.Rules.meaning
