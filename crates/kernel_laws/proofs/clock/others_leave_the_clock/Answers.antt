use Rattle.kernel_laws.proofs.ClockLemmas.{others_leave_the_clock}
use Rattle.kernel_laws.proofs.clock.others_leave_the_clock.Goals as goal

pub returns : goal.returns
returns g c = others_leave_the_clock g.R.Rules.meaning
