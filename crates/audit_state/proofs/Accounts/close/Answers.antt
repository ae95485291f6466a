use Rattle.std.proofs.Common.{ap, ◌∙◌}
use Rattle.kernel_model.specs.Pieces.{account_closed}
use Rattle.audit_state.proofs.Accounts.close.Goals as goal

pub returns : goal.returns
returns c = c.in_ok-close_account.ensures ∙ ap (account_closed c.args.p) c.in_ok-remove_first.ensures
