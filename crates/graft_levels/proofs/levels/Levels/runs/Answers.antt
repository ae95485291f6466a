use Rattle.std.proofs.Common.{sym, ap, ◌∙◌}
use Rattle.graft_levels.specs.Chains.{is_running_in}
use Rattle.graft_levels.proofs.Listed.{any_reverse}
use Rattle.graft_levels.proofs.levels.Levels.runs.Goals as goal

pub returns : goal.returns
returns c =
    c.is_among.ensures ∙ ap (λ gs. is_running_in gs c.args.q c.args.pt) c.as_slice.ensures.value
    ∙ sym (any_reverse _ c.self.inside.list.items) ∙ ap (λ gs. is_running_in gs c.args.q c.args.pt) c.self.view_is
