use Rattle.graft_laws.proofs.HistoryLaws.{in_place_reads}
use Rattle.graft_laws.proofs.store.in_place_reads.Goals as goal

pub returns : goal.returns
returns g c = in_place_reads g.R.Rules.meaning
