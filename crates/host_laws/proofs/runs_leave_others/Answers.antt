use Rattle.host_laws.proofs.Others.{runs_leave_others}
use Rattle.host_laws.proofs.runs_leave_others.Goals as goal

pub returns : goal.returns
returns c = runs_leave_others
