use Rattle.std.proofs.Common.{is_some, ap, sym, ◌∙◌}
use Rattle.graft_accounts.proofs.Moves.{remove_stands, remove_totals}
use Rattle.graft_accounts.proofs.accounts.Accounts.remove.Goals as goal

pub returns-then-is_some : goal.returns-then-is_some
returns-then-is_some c =
    record {
      value =
          (let stands = rw c.place.ensures.value at
          (ap is_some (sym c.standing.ensures) ∙ sym c.is_some.ensures ∙ c.if-is_some.true) in
          remove_stands c.args.self.now c.take_out.new.self c.args.at.process c.args.at.point
          c.take_out.ensures.was c.args.at.is_process c.args.at.is_point stands
          c.take_out.ensures.value);
      sums =
          remove_totals c.args.self.now c.take_out.new.self _ _ c.take_out.ensures.value
          c.take_out.ensures.was c.take_out.ensures.sound;
    }
