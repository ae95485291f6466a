use Rattle.std.proofs.Common.{List, ◌∙◌, ◌==◌, not, length, ap}
use Rattle.lock_table.specs.Masks.{held}
use Rattle.call_pieces.specs.Stores.{objects_of}
use Rattle.running_kernel.specs.declared.running.Flight.{Flight}
use Rattle.running_kernel.specs.Views.{flight_of}
use Rattle.running_kernel.proofs.QueryLemmas.{some_in_place}
use Rattle.running_kernel.proofs.running.Running.in_graft.Goals as goal

pub returns : goal.returns
returns g c =
    let x = c.args.self.now in
    let ch = (flight_of x.calls.items c.args.p).chain in
    ap (λ n. not (n == 0)) (c.count_of.ensures.value ∙ ap
    (λ (fs : List Flight). length (flight_of fs c.args.p).chain.levels) c.deref.ensures.value)
    ∙ some_in_place c.args.p x.store.ram (held x.locks) ch.levels ch.undo (objects_of x.store).things
