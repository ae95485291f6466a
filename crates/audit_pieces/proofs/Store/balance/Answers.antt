use Rattle.std.proofs.Common.{ap, ◌∙◌}
use Rattle.kernel_model.specs.Objects.{AcctValue}
use Rattle.audit_pieces.specs.Stores.{objects_of}
use Rattle.audit_pieces.proofs.Store.balance.Goals as goal

pub returns : goal.returns
unfolding objects_of
returns c =
    c.of.ensures
    ∙ ap (λ (a : AcctValue). a.balance c.args.kind) c.account.ensures
