use Rattle.std.proofs.Common.{List, Option, None, slice_index_or, sym, ap, ◌∙◌}
use Rattle.kernel_model.specs.Kernel.{has_level}
use Rattle.audit_kernel.specs.declared.Flight.{Flight}
use Rattle.audit_kernel.specs.Runs.{call_at}
use Rattle.audit_kernel.proofs.Rerunning.{kept_without}
use Rattle.audit_kernel.proofs.flights.run_again.Goals as goal

pub returns-else-has_history-clause-kept : goal.returns-else-has_history-clause-kept
returns-else-has_history-clause-kept c =
    let p = c.args.p in
    let bare = sym c.has_history.ensures ∙ c.if-has_history.false in
    kept_without c.args.setting.now c.args.store.now p (slice_index_or c.args.flights.now.items p None)
    (ap (λ (fs : List (Option Flight)). has_level (call_at fs p)) (sym c.deref.ensures.value) ∙ bare)
