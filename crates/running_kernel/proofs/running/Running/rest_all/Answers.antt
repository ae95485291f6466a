-- The order with its blockers.
use Rattle.std.proofs.Common.{◌≡◌, ◌++◌, List, ap, sym, ◌∙◌}
use Rattle.kernel_model.specs.Kernel.{Waiter}
use Rattle.placed_laws.specs.PlacedSteps.{placed_rested_order}
use Rattle.running_kernel.specs.declared.order.Waiting.{Waiting}
use Rattle.running_kernel.specs.Orders.{order_of}
use Rattle.running_kernel.specs.Views.{placed_of, run_of}
use Rattle.running_kernel.proofs.running.Running.rest_all.Goals as goal

pub returns-clause-value : goal.returns-clause-value
returns-clause-value g c = λ notes blocks io.
    let m = g.C.Meaning.Rules.meaning in
    let x = placed_of c.args.self.now in
    let rested : order_of c.rest_behind.new.done ≡ placed_rested_order m x x.order =
    c.rest_behind.ensures.value
    ∙ ap (λ (ws : List Waiting). order_of ws ++ placed_rested_order m x
    (order_of c.entries.result.now)) c.new-rested.ensures
    ∙ ap (λ (ws : List Waiting). placed_rested_order m x (order_of ws)) c.entries.ensures.value in
    ap (λ (es : List Waiter). run_of (record x { order = es }) blocks notes io) (sym rested)
