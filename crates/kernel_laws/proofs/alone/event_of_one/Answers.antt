use Rattle.kernel_model.specs.Quiet.{event_of_one}
use Rattle.kernel_laws.proofs.alone.event_of_one.Goals as goal

pub returns : goal.returns
returns g c = event_of_one g.R.Rules.meaning
