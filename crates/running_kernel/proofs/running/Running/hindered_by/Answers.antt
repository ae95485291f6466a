use Rattle.std.proofs.Common.{◌≡◌, ◌∙◌, ap}
use Rattle.lock_table.specs.Masks.{held}
use Rattle.call_pieces.specs.Stores.{objects_of}
use Rattle.running_kernel.specs.Views.{flight_of}
use Rattle.running_kernel.proofs.HinderLemmas.{needs_hinder}
use Rattle.running_kernel.proofs.running.Running.hindered_by.Goals as goal

pub returns : goal.returns
returns g c =
    let x = c.args.self.now in
    let fl : c.flight.result.now ≡ flight_of x.calls.items c.args.p = c.flight.ensures
    ∙ ap (λ fs. flight_of fs c.args.p) c.deref.ensures.value in
    let s = objects_of x.store in
    c.first_hindrance.ensures
    ∙ needs_hinder g.C.Meaning.Rules.meaning x c.args.p c.lock_user-user.result c.args.needs.now c.flight.result.now
    c.requires.running fl (c.lock_user-user.ensures c.args.p x.store.ram (held x.locks)
    c.flight.result.now.chain.undo s.things) c.requires.value
