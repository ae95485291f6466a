use Rattle.kernel_model.specs.declared.Object.TheVariants.{Cell}
use Rattle.kernel_model.specs.Needs.{exclusive}
use Rattle.call_needs.proofs.NeedLists.{grown, has_room}
use Rattle.call_needs.proofs.needs.Needs.cells.Goals as goal

pub exclusive-requires : goal.exclusive-requires
exclusive-requires c =
    has_room (λ k. exclusive (Cell c.args.p k)) c.args.self.now c.loop-k.self c.loop-k.k 4 44
    c.loop-k.invariant c.loop-k-test.true c.requires

pub loop-k-preserved : goal.loop-k-preserved
loop-k-preserved c =
    grown (λ k. exclusive (Cell c.args.p k)) c.args.self.now c.loop-k.self c.exclusive.new.self
    c.loop-k.k c.loop-k.invariant c.exclusive.ensures
