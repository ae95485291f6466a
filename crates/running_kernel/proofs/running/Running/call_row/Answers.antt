-- The row of a call is that of its flight.
use Rattle.std.proofs.Common.{◌≡◌, ◌∙◌, ◌==◌, ap, sym}
use Rattle.kernel_model.specs.Kernel.{Waiter}
use Rattle.kernel_model.specs.RawRows.{top_of, wait_by}
use Rattle.lock_table.specs.Masks.{held}
use Rattle.graft_levels.specs.Chains.{levels_in}
use Rattle.call_pieces.specs.Stores.{objects_of}
use Rattle.running_kernel.specs.declared.running.Flight.{Flight}
use Rattle.running_kernel.specs.Orders.{order_of}
use Rattle.running_kernel.specs.Views.{flight_of}
use Rattle.running_kernel.proofs.ShownLemmas.{call_row_is}
use Rattle.std.specs.Prelude.{find, option_copied}
use Rattle.running_kernel.proofs.running.Running.call_row.Goals as goal

pub returns : goal.returns
returns g c =
    let x = c.args.self.now in
    let s = objects_of x.store in
    let fl : c.flight-flight.result.now ≡ flight_of x.calls.items c.args.p = c.flight-flight.ensures
    ∙ ap (λ fs. flight_of fs c.args.p) c.deref.ensures.value in
    call_row_is x c.args.p c.in-Some.call.now c.wait_row-waits.result c.top_row.result
    (sym (ap (λ (f : Flight). f.call) fl) ∙ (sym c.get.ensures ∙ ap option_copied c.in-Some.is))
    (c.wait_row-waits.ensures ∙ ap (λ ws. wait_by
    (find (λ (e : Waiter). e.process == c.args.p) (order_of ws))) c.entries.ensures.value)
    (c.top_row.ensures c.args.p x.store.ram (held x.locks) c.flight-flight.result.now.chain.undo s.things
    ∙ ap (λ (f : Flight). top_of
    (levels_in c.args.p x.store.ram (held x.locks) f.chain.levels f.chain.undo s.things)) fl)
