use Rattle.std.proofs.Common.{◌≡◌, ◌+◌, true, ap, subst, sym, ◌∙◌}
use Rattle.std.specs.List.{list_all}
use Rattle.kernel_model.specs.Handlers.{handlers_at}
use Rattle.kernel_model.specs.EventPoints.{is_of_port}
use Rattle.event_points.proofs.HandlerLists.{of_port}
use Rattle.event_points.proofs.serving.take_handlers.Goals as goal

pub returns-clause-of_port : goal.returns-clause-of_port
returns-clause-of_port g c =
    let port = c.args.port in
    subst (λ hs. list_all (is_of_port port) hs ≡ true)
    (sym (c.copy_handlers.ensures ∙ ap (handlers_at (6 + port)) c.handlers.ensures.value))
    (of_port port c.args.store.now.procs.handlers c.handlers_are_few.ensures.processes)
