use Rattle.std.proofs.Common.{ℕ}
use Rattle.kernel_model.specs.declared.Object.TheVariants.{Lock}
use Rattle.kernel_model.specs.Needs.{exclusive}
use Rattle.audit_needs.proofs.NeedLists.{grown}
use Rattle.audit_needs.proofs.lists.locks.Goals as goal

pub loop-u-preserved : goal.loop-u-preserved
loop-u-preserved c =
    grown (λ (u : ℕ). exclusive (Lock u)) c.args.out.now.items c.loop-u.out.items
    c.exclusive.new.out.items c.loop-u.u c.loop-u.invariant c.in_ok-exclusive.ensures
