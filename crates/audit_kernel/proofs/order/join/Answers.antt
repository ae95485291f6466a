use Rattle.std.proofs.Common.{List, [], ◌∷◌, None, map, ap, ◌∙◌}
use Rattle.std.proofs.lemmas.List.{map-append}
use Rattle.audit_kernel.specs.declared.Waiter.{Waiter}
use Rattle.audit_kernel.specs.Runs.{waiter_of}
use Rattle.audit_kernel.proofs.order.join.Goals as goal

pub returns : goal.returns
returns c =
    ap (λ (es : List Waiter). map waiter_of es) c.in_ok-put_last.ensures
    ∙ map-append waiter_of c.args.order.now.items
    (record { process = c.args.p; blocker = None; count = 0 } ∷ [])
