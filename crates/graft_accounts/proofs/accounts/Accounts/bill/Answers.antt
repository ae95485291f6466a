use Rattle.std.proofs.Common.{sym, ◌∙◌}
use Rattle.graft_accounts.proofs.Moves.{bill_seen, put_totals}
use Rattle.graft_accounts.proofs.accounts.Accounts.bill.Goals as goal

pub returns-in-Some : goal.returns-in-Some
returns-in-Some c =
    record {
      value =
          (let stands = rw c.place.ensures.value at (sym c.standing.ensures ∙ c.in-Some.is) in
          bill_seen c.args.self.now c.put.new.self c.args.at.process c.args.at.point
          c.in-Some.standing c.put.ensures.was
          c.args.at.is_process c.args.at.is_point stands c.put.ensures.value);
      sums =
          put_totals c.args.self.now c.put.new.self _ _ c.put.ensures.value c.put.ensures.was c.put.ensures.sound;
    }
