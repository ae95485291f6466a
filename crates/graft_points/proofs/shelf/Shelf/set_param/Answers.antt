use Rattle.std.proofs.Common.{rules}
use Rattle.graft_points.proofs.Tuned.{values_after}
use Rattle.graft_points.proofs.shelf.Shelf.set_param.Goals as goal

pub returns-clause-policies : goal.returns-clause-policies
returns-clause-policies g c =
    values_after _ _ c.args.choice.now c.args.kind c.args.v
    (record {
      shelf = c.requires.shelf;
      kind_is = c.requires.kind;
      number = c.code.ensures.policy;
      range = c.requires.range;
      views = search rules;
    })
