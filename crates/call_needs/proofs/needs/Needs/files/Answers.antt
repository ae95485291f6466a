use Rattle.kernel_model.specs.declared.Object.TheVariants.{OpenFile}
use Rattle.kernel_model.specs.Needs.{exclusive}
use Rattle.call_needs.proofs.NeedLists.{grown, has_room}
use Rattle.call_needs.proofs.needs.Needs.files.Goals as goal

pub exclusive-requires : goal.exclusive-requires
exclusive-requires c =
    has_room (λ fd. exclusive (OpenFile c.args.p fd)) c.args.self.now c.loop-fd.self c.loop-fd.fd 4
    44 c.loop-fd.invariant c.loop-fd-test.true c.requires

pub loop-fd-preserved : goal.loop-fd-preserved
loop-fd-preserved c =
    grown (λ fd. exclusive (OpenFile c.args.p fd)) c.args.self.now c.loop-fd.self
    c.exclusive.new.self c.loop-fd.fd c.loop-fd.invariant c.exclusive.ensures
