use Rattle.std.proofs.Common.{ℕ}
use Rattle.kernel_model.specs.declared.Object.TheVariants.{Cell}
use Rattle.kernel_model.specs.Needs.{exclusive}
use Rattle.audit_needs.proofs.NeedLists.{grown}
use Rattle.audit_needs.proofs.lists.cells.Goals as goal

pub loop-k-preserved : goal.loop-k-preserved
loop-k-preserved c =
    grown (λ (k : ℕ). exclusive (Cell c.args.p k)) c.args.out.now.items c.loop-k.out.items
    c.exclusive.new.out.items c.loop-k.k c.loop-k.invariant c.in_ok-exclusive.ensures
