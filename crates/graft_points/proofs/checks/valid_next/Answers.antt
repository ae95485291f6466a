use Rattle.std.proofs.Common.{◌∙◌}
use Rattle.graft_points.proofs.Accepted.{next_accepted}
use Rattle.graft_points.proofs.checks.valid_next.Goals as goal

pub returns-clause-accepted : goal.returns-clause-accepted
returns-clause-accepted c = λ w q pt args r1 kind same.
    c.has_process.ensures ∙ next_accepted c.args.rows.now w q pt args c.args.p r1 kind same
