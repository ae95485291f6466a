use Rattle.std.proofs.Common.{Bool, ap, ◌∙◌}
use Rattle.kernel_model.specs.Charges.{removed}
use Rattle.kernel_model.specs.History as model
use Rattle.audit_state.specs.Accounts.{accounts_of}
use Rattle.audit_levels.specs.Levels.{config_of}
use Rattle.audit_replay.proofs.Going.{if_ok}
use Rattle.audit_replay.proofs.effects.remove_again.Goals as goal

pub returns : goal.returns
returns c =
    if_ok c.remove_if.result
    (λ made said bytes.
    let config = config_of bytes c.args.config.now in
    let without = removed c.args.q c.args.pt (accounts_of c.args.config.now.accounts) in
    said bytes
    ∙ ap (λ (b : Bool). model.config_if b (model.with_accounts_of without config))
    (c.is_found-there.ensures bytes))
    c.remove_if.ensures
