use Rattle.graft_accounts.proofs.Boot.{IsBoot, boot_table, boot_seen, boot_totals}
use Rattle.std.proofs.Common.{subst}
use Rattle.graft_accounts.specs.Sums.{IsSums}
use Rattle.graft_accounts.proofs.accounts.Accounts.new.Goals as goal

boot : (c : goal.After-new-4) → IsBoot (record {
  grafts = c.new.result;
  steps = c.new-2.result;
  records = c.new-3.result;
  locks = c.new-4.result;
}) c.args.grant
boot c =
    record {
      grafts = c.new.ensures;
      steps = c.new-2.ensures.value;
      records = c.new-3.ensures.value;
      locks = c.new-4.ensures.value;
      sound = subst IsSums c.new-2.ensures.value c.new-2.ensures.sound;
    }

pub invariant_of-result : goal.invariant_of-result
invariant_of-result c = boot_table _ _ (boot c)

pub returns-clause-value : goal.returns-clause-value
returns-clause-value c = boot_seen _ _ (boot c)

pub returns-clause-sums : goal.returns-clause-sums
returns-clause-sums c = boot_totals _ _ (boot c)
