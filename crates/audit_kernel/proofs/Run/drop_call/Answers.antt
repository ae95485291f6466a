use Rattle.std.proofs.Common.{ℕ, Option, sym, ap, ◌∙◌}
use Rattle.kernel_model.specs.AllCalls.{all_calls}
use Rattle.kernel_model.specs.Events.{drop_call}
use Rattle.audit_kernel.specs.Runs.{run_of, call_at}
use Rattle.audit_kernel.proofs.Taking.{no_level}
use Rattle.audit_kernel.proofs.Run.drop_call.Goals as goal

pub returns-in-None-clause-run : goal.returns-in-None-clause-run
returns-in-None-clause-run c =
    let r = run_of c.args.self.now in
    let call = call_at c.args.self.now.flights.items c.args.p in
    sym (no_level c.args.p call c.args.cause r)
    ∙ ap (λ (d : Option ℕ). drop_call all_calls c.args.p call d c.args.cause r) (sym c.in-None.is)
