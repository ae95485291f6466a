use Rattle.session_laws.proofs.TickLineLemmas.{clock_counts_ticks}
use Rattle.session_laws.proofs.clock.clock_counts_ticks.Goals as goal

pub returns : goal.returns
returns c = clock_counts_ticks
