use Rattle.std.proofs.Common.{arith, refl}
use Rattle.graft_accounts.specs.Points.{place_of}
use Rattle.graft_accounts.specs.Sums.{funded_at}
use Rattle.graft_accounts.specs.Table.{sums_of}
use Rattle.graft_accounts.proofs.Moves.{fund_stands}
use Rattle.graft_accounts.proofs.Totals.{totals_with}
use Rattle.graft_accounts.proofs.accounts.Accounts.fund.Goals as goal

pub returns-clause-changed : goal.returns-clause-changed
returns-clause-changed c =
    record {
      value =
          (let moved = rw c.from-2.ensures at c.fund_at.ensures.value in
          fund_stands c.args.self.now c.fund_at.new.self c.args.k c.args.at.process c.args.at.point
          c.args.n c.fund_at.ensures.was
          c.args.at.is_process c.args.at.is_point c.requires.stands (omega arith) moved);
      sums =
          totals_with c.args.self.now c.fund_at.new.self c.args.k (funded_at c.args.at.process
          (place_of c.args.at) c.from-2.result (sums_of c.args.self.now c.args.k))
          c.fund_at.ensures.value refl c.fund_at.ensures.was c.fund_at.ensures.sound;
    }
