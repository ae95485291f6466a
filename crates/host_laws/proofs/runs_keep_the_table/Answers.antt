use Rattle.vino_host.proofs.Kept.{run_kept}
use Rattle.host_laws.proofs.runs_keep_the_table.Goals as goal

pub returns : goal.returns
returns c = run_kept
