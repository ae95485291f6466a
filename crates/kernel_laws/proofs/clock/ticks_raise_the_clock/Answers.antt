use Rattle.kernel_laws.proofs.ClockLemmas.{ticks_raise_the_clock}
use Rattle.kernel_laws.proofs.clock.ticks_raise_the_clock.Goals as goal

pub returns : goal.returns
returns g c = ticks_raise_the_clock g.R.Rules.meaning
