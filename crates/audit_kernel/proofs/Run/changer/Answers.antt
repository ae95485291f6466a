use Rattle.std.proofs.Common.{Option, ap, ◌∙◌}
use Rattle.kernel_model.specs.History.{Trace}
use Rattle.kernel_model.specs.Blocking.{config_in}
use Rattle.audit_pieces.specs.Stores.{page_of}
use Rattle.audit_kernel.specs.Sights.{changing}
use Rattle.audit_kernel.proofs.Run.changer.Goals as goal

pub returns : goal.returns
returns c =
    c.changing.ensures (page_of c.args.self.now.store)
    ∙ ap (λ (t : Option Trace). changing c.args.object (config_in t)) c.trace.ensures
