use Rattle.std.proofs.Common.{ap, ◌∙◌}
use Rattle.kernel_model.specs.Pieces.{account_closed}
use Rattle.graft_accounts.proofs.Moves.{close_seen, close_totals}
use Rattle.graft_accounts.proofs.accounts.Accounts.close.Goals as goal

pub returns : goal.returns
returns c =
    record {
      value =
          close_seen c.remove_first.new.self c.close_account.new.self c.args.p
          c.close_account.ensures.was c.requires.process c.requires.not_root
          c.close_account.ensures.value
          ∙ ap (account_closed c.args.p) c.remove_first.ensures.value;
      sums =
          (λ j.
          close_totals c.remove_first.new.self c.close_account.new.self c.args.p
          c.close_account.ensures.value c.close_account.ensures.was
          c.close_account.ensures.sound j
          ∙ c.remove_first.ensures.sums j);
    }
