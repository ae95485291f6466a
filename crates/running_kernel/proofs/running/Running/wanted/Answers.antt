use Rattle.std.proofs.Common.{◌≡◌, ◌<◌, ◌∙◌, length, arith, ap, sym}
use Rattle.std.proofs.lemmas.Bool.Decides.{nat_tests}
use Rattle.kernel_model.specs.Events.{wanted}
use Rattle.lock_table.specs.Masks.{held}
use Rattle.kernel_model.specs.GraftStep.{next_needs}
use Rattle.graft_levels.specs.Slots.{table_of}
use Rattle.graft_levels.specs.Chains.{levels_in}
use Rattle.call_pieces.specs.Stores.{world_of_store, objects_of}
use Rattle.call_pieces.specs.Works.{stage_of}
use Rattle.placed_laws.proofs.Laws.{sound_in_place}
use Rattle.running_kernel.specs.declared.running.Flight.{Flight}
use Rattle.running_kernel.specs.Views.{flight_of}
use Rattle.running_kernel.proofs.HinderLemmas.{stands, may_come, piece_needs, graft_needs_are}
use Rattle.std.specs.Prelude.{option_copied}
use Rattle.running_kernel.proofs.running.Running.wanted.Goals as goal

pub need-requires : goal.need-requires
need-requires g c =
    let m = g.C.Meaning.Rules.meaning in
    let x = c.args.self.now in
    let call = c.in-Some.call.now in
    let fl : c.flight-flight.result.now ≡ flight_of x.calls.items c.args.p = c.flight-flight.ensures
    ∙ ap (λ fs. flight_of fs c.args.p) c.deref.ensures.value in
    let there = sym (ap (λ (f : Flight). f.call) fl) ∙ (sym c.get.ensures ∙ ap option_copied c.in-Some.is) in
    record {
      ready = may_come m g.C.Meaning.Rules.laws (world_of_store x.store) (table_of x.images)
          (objects_of x.store) call.work.caller (stage_of call.work) (stands m (sound_in_place m
          g.C.Meaning.Rules.laws) x c.args.p call c.requires.running c.requires.abstraction there);
    }

pub returns-then-count-eq0 : goal.returns-then-count-eq0
returns-then-count-eq0 g c =
    let x = c.args.self.now in
    let call = c.in-Some.call.now in
    let fl : c.flight-flight.result.now ≡ flight_of x.calls.items c.args.p = c.flight-flight.ensures
    ∙ ap (λ fs. flight_of fs c.args.p) c.deref.ensures.value in
    let there = sym (ap (λ (f : Flight). f.call) fl) ∙ (sym c.get.ensures ∙ ap option_copied c.in-Some.is) in
    c.wanted_in.ensures ∙ ap (wanted c.args.object) (c.as_slice.ensures ∙ c.need.ensures
    ∙ piece_needs g.C.Meaning.Rules.meaning x c.args.p call c.requires.running there
    (sym (ap (λ (f : Flight). length f.chain.levels) fl) ∙ sym c.count.ensures.value ∙ c.if-count-eq0.true))

pub returns : goal.returns
returns g c =
    let x = c.args.self.now in
    let call = c.in-Some.call.now in
    let fl : c.flight-flight.result.now ≡ flight_of x.calls.items c.args.p = c.flight-flight.ensures
    ∙ ap (λ fs. flight_of fs c.args.p) c.deref.ensures.value in
    let there = sym (ap (λ (f : Flight). f.call) fl) ∙ (sym c.get.ensures ∙ ap option_copied c.in-Some.is) in
    let s = (objects_of x.store) in
    let many : length c.flight-flight.result.now.chain.levels ≡ length (flight_of x.calls.items
    c.args.p).chain.levels = ap (λ (f : Flight). length f.chain.levels) fl in
    let some : 0 < length (flight_of x.calls.items c.args.p).chain.levels =
    grind (arith, nat_tests, many, c.count.ensures.value, c.if-count-eq0.false) in
    c.wanted_in-2.ensures
    ∙ ap (wanted c.args.object) (c.as_slice-2.ensures.value ∙ c.needs-needs.ensures.value
    c.args.p x.store.ram (held x.locks) c.flight-flight.result.now.chain.undo s.things
    ∙ ap (λ (f : Flight). next_needs (world_of_store x.store) (table_of x.images) s.accounts
    (levels_in c.args.p x.store.ram (held x.locks) f.chain.levels f.chain.undo s.things)) fl
    ∙ graft_needs_are g.C.Meaning.Rules.meaning x c.args.p call there some)
