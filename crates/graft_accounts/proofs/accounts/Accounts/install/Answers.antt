use Rattle.std.proofs.Common.{refl}
use Rattle.graft_accounts.proofs.Moves.{install_seen, put_totals}
use Rattle.graft_accounts.proofs.accounts.Accounts.install.Goals as goal

pub returns : goal.returns
returns c =
    record {
      value =
          install_seen c.args.self.now c.put.new.self c.args.at.process c.args.at.point c.args.image
          c.args.limit _ c.put.ensures.was
          c.args.at.is_process c.args.at.is_point c.requires.free refl c.put.ensures.value;
      sums =
          put_totals c.args.self.now c.put.new.self _ _ c.put.ensures.value c.put.ensures.was c.put.ensures.sound;
    }
