use Rattle.std.proofs.Common.{ℕ}
use Rattle.kernel_model.specs.declared.Object.TheVariants.{OpenFile}
use Rattle.kernel_model.specs.Needs.{exclusive}
use Rattle.audit_needs.proofs.NeedLists.{grown}
use Rattle.audit_needs.proofs.lists.files.Goals as goal

pub loop-fd-preserved : goal.loop-fd-preserved
loop-fd-preserved c =
    grown (λ (fd : ℕ). exclusive (OpenFile c.args.p fd)) c.args.out.now.items c.loop-fd.out.items
    c.exclusive.new.out.items c.loop-fd.fd c.loop-fd.invariant c.in_ok-exclusive.ensures
