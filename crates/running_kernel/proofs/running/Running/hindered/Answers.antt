use Rattle.std.proofs.Common.{◌≡◌, ◌<◌, length, arith, ap, sym, ◌∙◌}
use Rattle.std.proofs.lemmas.Bool.Decides.{nat_tests}
use Rattle.kernel_model.specs.GraftStep.{next_needs, lock_user}
use Rattle.kernel_model.specs.Locks.{first_hindrance}
use Rattle.lock_table.specs.Masks.{held}
use Rattle.graft_levels.specs.Slots.{table_of}
use Rattle.graft_levels.specs.Chains.{levels_in}
use Rattle.call_pieces.specs.Stores.{world_of_store, objects_of}
use Rattle.call_pieces.specs.Works.{stage_of}
use Rattle.placed_laws.proofs.Laws.{sound_in_place}
use Rattle.running_kernel.specs.declared.running.Flight.{Flight}
use Rattle.running_kernel.specs.Views.{flight_of}
use Rattle.running_kernel.proofs.HinderLemmas.{stands, may_come, piece_hindered, graft_hindered}
use Rattle.std.specs.Prelude.{option_copied}
use Rattle.running_kernel.proofs.running.Running.hindered.Goals as goal

pub piece_hindrance-requires-clause-ready : goal.piece_hindrance-requires-clause-ready
piece_hindrance-requires-clause-ready g c =
    let x = c.args.self.now in
    let m = g.C.Meaning.Rules.meaning in
    let fl : c.flight-flight.result.now ≡ flight_of x.calls.items c.args.p = c.flight-flight.ensures
    ∙ ap (λ fs. flight_of fs c.args.p) c.deref.ensures.value in
    may_come m g.C.Meaning.Rules.laws (world_of_store x.store) (table_of x.images)
    (objects_of x.store) c.in-Some.call.now.work.caller (stage_of c.in-Some.call.now.work)
    (stands m (sound_in_place m g.C.Meaning.Rules.laws) x c.args.p c.in-Some.call.now
    c.requires.running c.requires.abstraction
    (sym (ap (λ (f : Flight). f.call) fl) ∙ (sym c.get.ensures ∙ ap option_copied c.in-Some.is)))

pub piece_hindrance-requires-clause-range : goal.piece_hindrance-requires-clause-range
piece_hindrance-requires-clause-range g c =
    let x = c.args.self.now in
    let m = g.C.Meaning.Rules.meaning in
    let fl : c.flight-flight.result.now ≡ flight_of x.calls.items c.args.p = c.flight-flight.ensures
    ∙ ap (λ fs. flight_of fs c.args.p) c.deref.ensures.value in
    λ n has. g.C.Meaning.Rules.laws.need.ranges (world_of_store x.store) (table_of x.images)
    (objects_of x.store) c.in-Some.call.now.work.caller (stage_of c.in-Some.call.now.work) n
    (stands m (sound_in_place m g.C.Meaning.Rules.laws) x c.args.p c.in-Some.call.now
    c.requires.running c.requires.abstraction
    (sym (ap (λ (f : Flight). f.call) fl) ∙ (sym c.get.ensures ∙ ap option_copied c.in-Some.is))) has

pub returns-then-count-eq0 : goal.returns-then-count-eq0
returns-then-count-eq0 g c =
    let x = c.args.self.now in
    let m = g.C.Meaning.Rules.meaning in
    let fl : c.flight-flight.result.now ≡ flight_of x.calls.items c.args.p = c.flight-flight.ensures
    ∙ ap (λ fs. flight_of fs c.args.p) c.deref.ensures.value in
    c.piece_hindrance.ensures
    ∙ piece_hindered m x c.args.p c.in-Some.call.now c.requires.running
    (sym (ap (λ (f : Flight). f.call) fl) ∙ (sym c.get.ensures ∙ ap option_copied c.in-Some.is))
    (sym (ap (λ (f : Flight). length f.chain.levels) fl) ∙ sym c.count.ensures.value ∙ c.if-count-eq0.true)

pub returns : goal.returns
returns g c =
    let x = c.args.self.now in
    let m = g.C.Meaning.Rules.meaning in
    let s = objects_of x.store in
    let fl : c.flight-flight.result.now ≡ flight_of x.calls.items c.args.p = c.flight-flight.ensures
    ∙ ap (λ fs. flight_of fs c.args.p) c.deref.ensures.value in
    let many : length c.flight-flight.result.now.chain.levels ≡ length (flight_of x.calls.items
    c.args.p).chain.levels = ap (λ (f : Flight). length f.chain.levels) fl in
    let some : 0 < length (flight_of x.calls.items c.args.p).chain.levels =
    grind (arith, nat_tests, many, c.count.ensures.value, c.if-count-eq0.false) in
    c.graft_hindrance.ensures x.store.ram (held x.locks) c.flight-flight.result.now.chain.undo s.things
    ∙ ap (λ (f : Flight). let ls = levels_in c.args.p x.store.ram (held x.locks) f.chain.levels f.chain.undo s.things in
    first_hindrance (held x.locks) s.things.lock c.args.p (lock_user c.args.p ls)
    (next_needs (world_of_store x.store) (table_of x.images) s.accounts ls)) fl
    ∙ graft_hindered m x c.args.p c.in-Some.call.now c.requires.running
    (sym (ap (λ (f : Flight). f.call) fl) ∙ (sym c.get.ensures ∙ ap option_copied c.in-Some.is)) some

pub piece_hindrance-requires-clause-user : goal.piece_hindrance-requires-clause-user
piece_hindrance-requires-clause-user g c =
    let x = c.args.self.now in
    let m = g.C.Meaning.Rules.meaning in
    let fl : c.flight-flight.result.now ≡ flight_of x.calls.items c.args.p = c.flight-flight.ensures
    ∙ ap (λ fs. flight_of fs c.args.p) c.deref.ensures.value in
    let stood = stands m (sound_in_place m g.C.Meaning.Rules.laws) x c.args.p c.in-Some.call.now
    c.requires.running c.requires.abstraction
    (sym (ap (λ (f : Flight). f.call) fl) ∙ (sym c.get.ensures ∙ ap option_copied c.in-Some.is)) in
    λ n has. g.C.Meaning.Rules.laws.need.user (world_of_store x.store) (objects_of x.store)
    c.in-Some.call.now.work.caller (stage_of c.in-Some.call.now.work) n stood.fits has
