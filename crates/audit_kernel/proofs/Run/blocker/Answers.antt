use Rattle.audit_kernel.specs.Runs.{kernel_of}
use Rattle.audit_kernel.proofs.Holding.{same_list}
use Rattle.audit_kernel.proofs.Run.blocker.Goals as goal

pub blocker_among-requires-clause-all : goal.blocker_among-requires-clause-all
blocker_among-requires-clause-all c =
    same_list (kernel_of c.args.self.now) c.in_ok-holders.holders.items c.as_slice.result.now
    c.as_slice.ensures.value c.in_ok-holders.ensures
