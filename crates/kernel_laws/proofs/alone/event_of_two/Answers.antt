use Rattle.kernel_model.specs.Quiet.{event_of_two}
use Rattle.kernel_laws.proofs.alone.event_of_two.Goals as goal

pub returns : goal.returns
returns g c = event_of_two g.R.Rules.meaning
