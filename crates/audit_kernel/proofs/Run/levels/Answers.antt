use Rattle.std.proofs.Common.{Option, ap, ◌∙◌}
use Rattle.kernel_model.specs.History.{Trace}
use Rattle.kernel_model.specs.Blocking.{levels_in, config_in}
use Rattle.audit_pieces.specs.Stores.{page_of}
use Rattle.audit_kernel.proofs.Run.levels.Goals as goal

pub returns : goal.returns
returns c =
    c.levels_in.ensures (page_of c.args.self.now.store)
    ∙ ap (λ (t : Option Trace). levels_in (config_in t)) c.trace.ensures
