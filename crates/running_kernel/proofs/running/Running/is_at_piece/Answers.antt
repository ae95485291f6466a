use Rattle.std.proofs.Common.{◌≡◌, ◌==◌, ◌∙◌, ap, sym, refl, length}
use Rattle.lock_table.specs.Masks.{held}
use Rattle.call_pieces.specs.Stores.{objects_of}
use Rattle.running_kernel.specs.declared.running.Flight.{Flight}
use Rattle.running_kernel.specs.Views.{flight_of}
use Rattle.running_kernel.proofs.QueryLemmas.{at_piece_is}
use Rattle.std.specs.Prelude.{◌&&◌, is_some, option_copied}
use Rattle.running_kernel.proofs.running.Running.is_at_piece.Goals as goal

pub returns-in-Some : goal.returns-in-Some
returns-in-Some g c =
    let x = c.args.self.now in
    let fl : c.flight-flight.result.now ≡ flight_of x.calls.items c.args.p = c.flight-flight.ensures
    ∙ ap (λ fs. flight_of fs c.args.p) c.deref.ensures.value in
    let chain = (flight_of x.calls.items c.args.p).chain in
    sym (at_piece_is (flight_of x.calls.items c.args.p).call c.args.p x.store.ram (held x.locks)
    chain.levels chain.undo (objects_of x.store).things (length chain.levels == 0) refl
    ∙ ap (λ b. b && (length chain.levels == 0)) (ap is_some (sym (ap (λ (f : Flight). f.call) fl)
    ∙ (sym c.get.ensures ∙ ap option_copied c.in-Some.is)))
    ∙ ap (λ n. n == 0) (sym (ap (λ (f : Flight). length f.chain.levels) fl) ∙ sym c.count.ensures.value))

pub returns-in-None : goal.returns-in-None
returns-in-None g c =
    let x = c.args.self.now in
    let fl : c.flight-flight.result.now ≡ flight_of x.calls.items c.args.p = c.flight-flight.ensures
    ∙ ap (λ fs. flight_of fs c.args.p) c.deref.ensures.value in
    let chain = (flight_of x.calls.items c.args.p).chain in
    sym (at_piece_is (flight_of x.calls.items c.args.p).call c.args.p x.store.ram (held x.locks)
    chain.levels chain.undo (objects_of x.store).things (length chain.levels == 0) refl
    ∙ ap (λ b. b && (length chain.levels == 0)) (ap is_some (sym (ap (λ (f : Flight). f.call) fl)
    ∙ (sym c.get.ensures ∙ ap option_copied c.in-None.is))))
