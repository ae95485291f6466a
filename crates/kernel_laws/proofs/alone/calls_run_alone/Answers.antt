use Rattle.kernel_model.specs.Alone.{calls_run_alone}
use Rattle.kernel_laws.proofs.alone.calls_run_alone.Goals as goal

pub returns : goal.returns
returns g c = calls_run_alone g.R.Rules.meaning g.R.Rules.laws
