use Rattle.std.proofs.Common.{ℕ, ap, ◌∙◌}
use Rattle.kernel_model.specs.Access.{in_range, param_top}
use Rattle.audit_pieces.specs.Stores.{objects_of, page_of}
use Rattle.audit_pieces.proofs.Store.takes.Goals as goal

pub returns : goal.returns
unfolding objects_of
returns c =
    c.in_range_of.ensures
    ∙ ap (λ (policy : ℕ). in_range (param_top c.args.kind policy) c.args.k c.args.v)
    (c.chosen.ensures (page_of c.args.self.now))
