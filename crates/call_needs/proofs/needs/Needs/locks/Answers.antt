use Rattle.kernel_model.specs.declared.Object.TheVariants.{Lock}
use Rattle.kernel_model.specs.Needs.{exclusive}
use Rattle.call_needs.proofs.NeedLists.{grown, has_room}
use Rattle.call_needs.proofs.needs.Needs.locks.Goals as goal

pub exclusive-requires : goal.exclusive-requires
exclusive-requires c =
    has_room (λ u. exclusive (Lock u)) c.args.self.now c.loop-u.self c.loop-u.u 16 44
    c.loop-u.invariant c.loop-u-test.true c.requires

pub loop-u-preserved : goal.loop-u-preserved
loop-u-preserved c =
    grown (λ u. exclusive (Lock u)) c.args.self.now c.loop-u.self c.exclusive.new.self c.loop-u.u
    c.loop-u.invariant c.exclusive.ensures
