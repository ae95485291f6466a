use Rattle.std.proofs.Common.{Some, None, sym, ◌∙◌}
use Rattle.audit_kernel.specs.Runs.{kernel_of}
use Rattle.audit_kernel.proofs.Holding.{same_list}
use Rattle.audit_kernel.proofs.Settling.{free_of}
use Rattle.audit_kernel.proofs.Run.first_free.Goals as goal

pub first_of-requires-clause-all : goal.first_of-requires-clause-all
first_of-requires-clause-all c =
    same_list (kernel_of c.args.self.now) c.in_ok-holders.holders.items c.as_slice.result.now
    c.as_slice.ensures.value c.in_ok-holders.ensures

pub returns-in-None-clause-free : goal.returns-in-None-clause-free
returns-in-None-clause-free c =
    let r = c.args.self.now in
    free_of (kernel_of r) c.as_slice-2.result.now r.order.items None
    (sym c.in-None.is ∙ c.in_ok-first_of.ensures.free) c.as_slice-2.ensures.value

pub returns-in-Some-clause-free : goal.returns-in-Some-clause-free
returns-in-Some-clause-free c =
    let r = c.args.self.now in
    free_of (kernel_of r) c.as_slice-2.result.now r.order.items (Some c.in-Some.p)
    (sym c.in-Some.is ∙ c.in_ok-first_of.ensures.free) c.as_slice-2.ensures.value
