use Rattle.std.proofs.Common.{◌-◌, ◌+◌, arith}
use Rattle.kernel_model.specs.Pieces.{without_grafts}
use Rattle.audit_state.specs.Accounts.{accounts_of}
use Rattle.audit_state.proofs.Charging.{one_less_point, no_point}
use Rattle.audit_state.proofs.Accounts.remove_first.Goals as goal

pub loop-i-preserved : goal.loop-i-preserved
loop-i-preserved c =
    one_less_point c.args.p (c.args.count - c.loop-i.i) (c.args.count - 1 - c.loop-i.i)
    (c.args.count - (c.loop-i.i + 1)) (accounts_of c.loop-i.self) (accounts_of c.remove.new.self) _
    (omega arith) (omega arith) c.in_ok-remove.ensures c.loop-i.invariant

pub returns : goal.returns
returns c =
    no_point c.args.p (c.args.count - c.loop-i.i) (accounts_of c.loop-i.self)
    (without_grafts c.args.p c.args.count (accounts_of c.args.self.now)) (omega arith) c.loop-i.invariant
