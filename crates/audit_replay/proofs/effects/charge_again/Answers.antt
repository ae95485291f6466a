use Rattle.std.proofs.Common.{Bool, ap, ◌∙◌}
use Rattle.kernel_model.specs.Charges.{charge}
use Rattle.kernel_model.specs.History as model
use Rattle.audit_state.specs.Accounts.{accounts_of}
use Rattle.audit_levels.specs.Levels.{config_of}
use Rattle.audit_replay.proofs.Going.{if_ok}
use Rattle.audit_replay.proofs.effects.charge_again.Goals as goal

pub returns : goal.returns
returns c =
    if_ok c.charge_if.result
    (λ made said bytes.
    let config = config_of bytes c.args.config.now in
    let paid = charge c.args.kind c.args.q c.args.pt (accounts_of c.args.config.now.accounts) in
    said bytes
    ∙ ap (λ (b : Bool). model.config_if b (model.with_accounts_of paid config))
    (c.is_chargeable-there.ensures bytes))
    c.charge_if.ensures
