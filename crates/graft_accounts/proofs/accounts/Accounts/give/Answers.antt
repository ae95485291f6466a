use Rattle.std.proofs.Common.{arith, refl}
use Rattle.graft_accounts.specs.Sums.{given}
use Rattle.graft_accounts.specs.Table.{sums_of}
use Rattle.graft_accounts.proofs.Moves.{give_seen}
use Rattle.graft_accounts.proofs.Totals.{totals_with}
use Rattle.graft_accounts.proofs.accounts.Accounts.give.Goals as goal

pub returns-clause-changed : goal.returns-clause-changed
returns-clause-changed c =
    record {
      value =
          (let moved = rw c.from-2.ensures at c.move_amount.ensures.value in
          give_seen c.args.self.now c.move_amount.new.self c.args.k c.args.p c.args.q c.args.n c.move_amount.ensures.was
          c.requires.from c.requires.to (omega arith) moved);
      sums =
          totals_with c.args.self.now c.move_amount.new.self c.args.k
          (given c.args.p c.args.q c.from-2.result (sums_of c.args.self.now c.args.k))
          c.move_amount.ensures.value refl c.move_amount.ensures.was c.move_amount.ensures.sound;
    }
