use Rattle.std.proofs.Common.{sym, ◌∙◌}
use Rattle.graft_accounts.proofs.Moves.{account_charge_seen, graft_charge_seen}
use Rattle.graft_accounts.proofs.Ledgers.{account_charge_ledgers, graft_charge_ledgers, same_totals}
use Rattle.graft_accounts.proofs.accounts.Accounts.charge.Goals as goal

pub returns-in-Some-clause-changed : goal.returns-in-Some-clause-changed
returns-in-Some-clause-changed c =
    record {
      value =
          (let stands = rw c.place.ensures.value at (sym c.standing.ensures ∙ c.in-Some.is) in
          account_charge_seen c.args.self.now c.charge_account.new.self c.args.k c.args.at.process
          c.args.at.point c.in-Some.standing c.charge_account.result
          c.charge_account.ensures.changed.was c.args.at.is_process c.args.at.is_point stands
          c.if-standing.true c.charge_account.ensures.changed.value);
      sums =
          same_totals c.args.self.now c.charge_account.new.self
          (account_charge_ledgers c.args.self.now c.charge_account.new.self c.args.k
          c.args.at.process c.charge_account.result
          c.charge_account.ensures.changed.was c.charge_account.ensures.changed.sound
          c.args.at.is_process c.charge_account.ensures.answer
          c.charge_account.ensures.changed.value);
    }

pub returns-in-Some-clause-ledgers : goal.returns-in-Some-clause-ledgers
returns-in-Some-clause-ledgers c =
    account_charge_ledgers c.args.self.now c.charge_account.new.self c.args.k c.args.at.process c.charge_account.result
    c.charge_account.ensures.changed.was c.charge_account.ensures.changed.sound c.args.at.is_process
    c.charge_account.ensures.answer c.charge_account.ensures.changed.value

pub returns-in-Some-2-clause-changed : goal.returns-in-Some-2-clause-changed
returns-in-Some-2-clause-changed c =
    record {
      value =
          (let stands = rw c.place.ensures.value at (sym c.standing.ensures ∙ c.in-Some.is) in
          graft_charge_seen c.args.self.now c.charge_graft.new.self c.args.k c.args.at.process
          c.args.at.point c.in-Some.standing c.charge_graft.result
          c.charge_graft.ensures.changed.was c.args.at.is_process c.args.at.is_point stands
          c.if-standing.false c.charge_graft.ensures.changed.value);
      sums =
          same_totals c.args.self.now c.charge_graft.new.self
          (graft_charge_ledgers c.args.self.now c.charge_graft.new.self c.args.k c.args.at.process
          c.args.at.point c.charge_graft.result
          c.charge_graft.ensures.changed.was c.charge_graft.ensures.changed.sound
          c.args.at.is_process c.args.at.is_point
          c.charge_graft.ensures.answer c.charge_graft.ensures.changed.value);
    }

pub returns-in-Some-2-clause-ledgers : goal.returns-in-Some-2-clause-ledgers
returns-in-Some-2-clause-ledgers c =
    graft_charge_ledgers c.args.self.now c.charge_graft.new.self c.args.k c.args.at.process
    c.args.at.point c.charge_graft.result
    c.charge_graft.ensures.changed.was c.charge_graft.ensures.changed.sound c.args.at.is_process c.args.at.is_point
    c.charge_graft.ensures.answer c.charge_graft.ensures.changed.value
