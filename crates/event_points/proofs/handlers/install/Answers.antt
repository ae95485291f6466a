use Rattle.std.proofs.Common.{sym, ap, ◌∙◌}
use Rattle.kernel_model.specs.Objects.{Objects}
use Rattle.event_points.proofs.Granting.{nothing_there}
use Rattle.event_points.proofs.handlers.install.Goals as goal

pub install-requires-clause-free : goal.install-requires-clause-free
install-requires-clause-free g c =
    ap (λ (o : Objects). o.accounts.graft c.args.p c.args.pt) c.add_handler.ensures.changed.objects
    ∙ nothing_there _ (sym c.if-has_graft.false ∙ c.has_graft.ensures)
