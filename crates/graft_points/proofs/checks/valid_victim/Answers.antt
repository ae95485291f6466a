use Rattle.std.proofs.Common.{◌∙◌}
use Rattle.graft_points.proofs.Accepted.{victim_accepted}
use Rattle.graft_points.proofs.checks.valid_victim.Goals as goal

pub returns-clause-accepted : goal.returns-clause-accepted
returns-clause-accepted c = λ w pt args r1 kind owners.
    c.has_frame.ensures ∙ victim_accepted c.args.rows.now w c.args.owner pt args c.args.f r1 kind owners
