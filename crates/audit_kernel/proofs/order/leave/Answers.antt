use Rattle.std.proofs.Common.{Bool, ◌==◌, not, List, map, rules, ap, ◌∙◌}
use Rattle.audit_table.proofs.Filtering.{kept_by}
use Rattle.audit_kernel.specs.declared.Waiter.{Waiter}
use Rattle.audit_kernel.specs.Runs.{waiter_of}
use Rattle.audit_kernel.proofs.Ordering.{left_out}
use Rattle.audit_kernel.proofs.order.leave.Goals as goal

pub returns : goal.returns
returns c =
    let test : Waiter → Bool = λ e. not (e.process == c.args.p) in
    ap (λ (es : List Waiter). map waiter_of es)
    (kept_by _ test _ (λ x b h called. search rules) _ _ c.retain.ensures.filtered)
    ∙ left_out c.args.p c.args.order.now.items
