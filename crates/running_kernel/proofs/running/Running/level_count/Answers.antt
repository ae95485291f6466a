use Rattle.std.proofs.Common.{List, ◌∙◌, length, ap, sym}
use Rattle.lock_table.specs.Masks.{held}
use Rattle.call_pieces.specs.Stores.{objects_of}
use Rattle.running_kernel.specs.declared.running.Flight.{Flight}
use Rattle.running_kernel.specs.Views.{flight_of}
use Rattle.running_kernel.proofs.QueryLemmas.{many_bare}
use Rattle.running_kernel.proofs.running.Running.level_count.Goals as goal

pub returns-clause-value : goal.returns-clause-value
returns-clause-value g c =
    let x = c.args.self.now in
    let ch = (flight_of x.calls.items c.args.p).chain in
    c.count_of.ensures.value ∙ ap
    (λ (fs : List Flight). length (flight_of fs c.args.p).chain.levels) c.deref.ensures.value
    ∙ sym (many_bare c.args.p x.store.ram (held x.locks) ch.levels ch.undo (objects_of x.store).things)

pub returns-clause-chain : goal.returns-clause-chain
returns-clause-chain g c =
    let x = c.args.self.now in
    c.count_of.ensures.value ∙ ap
    (λ (fs : List Flight). length (flight_of fs c.args.p).chain.levels) c.deref.ensures.value
