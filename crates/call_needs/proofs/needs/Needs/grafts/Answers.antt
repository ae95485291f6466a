use Rattle.kernel_model.specs.declared.Object.TheVariants.{Graft}
use Rattle.kernel_model.specs.Needs.{exclusive}
use Rattle.call_needs.proofs.NeedLists.{grown, has_room}
use Rattle.call_needs.proofs.needs.Needs.grafts.Goals as goal

pub exclusive-requires : goal.exclusive-requires
exclusive-requires c =
    has_room (λ pt. exclusive (Graft c.args.p pt)) c.args.self.now c.loop-pt.self c.loop-pt.pt 16 44
    c.loop-pt.invariant c.loop-pt-test.true c.requires

pub loop-pt-preserved : goal.loop-pt-preserved
loop-pt-preserved c =
    grown (λ pt. exclusive (Graft c.args.p pt)) c.args.self.now c.loop-pt.self c.exclusive.new.self
    c.loop-pt.pt c.loop-pt.invariant c.exclusive.ensures
