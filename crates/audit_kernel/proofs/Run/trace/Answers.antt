use Rattle.std.proofs.Common.{Option, ap, ◌∙◌}
use Rattle.audit_pieces.specs.Stores.{page_of}
use Rattle.audit_kernel.specs.declared.Flight.{Flight}
use Rattle.audit_kernel.specs.Runs.{call_at, kernel_of, kept_trace}
use Rattle.audit_kernel.proofs.Holding.{leads_is}
use Rattle.audit_kernel.proofs.Run.trace.Goals as goal

pub returns : goal.returns
returns c =
    let r = c.args.self.now in
    let bytes = page_of r.store in
    c.kept.ensures bytes
    ∙ ap (λ (f : Option Flight). kept_trace bytes f) c.flight.ensures
    ∙ c.requires.kept c.args.p
    ∙ leads_is (kernel_of r) c.args.p (call_at r.flights.items c.args.p)
