use Rattle.std.proofs.Common.{ℕ}
use Rattle.kernel_model.specs.declared.Object.TheVariants.{Graft}
use Rattle.kernel_model.specs.Needs.{exclusive}
use Rattle.audit_needs.proofs.NeedLists.{grown}
use Rattle.audit_needs.proofs.lists.grafts.Goals as goal

pub loop-pt-preserved : goal.loop-pt-preserved
loop-pt-preserved c =
    grown (λ (pt : ℕ). exclusive (Graft c.args.p pt)) c.args.out.now.items c.loop-pt.out.items
    c.exclusive.new.out.items c.loop-pt.pt c.loop-pt.invariant c.in_ok-exclusive.ensures
