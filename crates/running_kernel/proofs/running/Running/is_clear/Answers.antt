use Rattle.std.proofs.Common.{◌≡◌, true, false, length, ap, sym, ◌∙◌, arith}
use Rattle.std.specs.Prelude.{option_copied}
use Rattle.call_pieces.specs.Stores.{objects_of}
use Rattle.call_pieces.specs.Works.{call_of}
use Rattle.placed_laws.proofs.Laws.{sound_in_place}
use Rattle.running_kernel.specs.declared.running.Flight.{Flight}
use Rattle.running_kernel.specs.Views.{flight_of}
use Rattle.running_kernel.proofs.FreeLemmas.{other_free}
use Rattle.running_kernel.proofs.PlainLemmas.{plain_unblocked}
use Rattle.running_kernel.proofs.running.Running.is_clear.Goals as goal

pub returns-then-count-eq0 : goal.returns-then-count-eq0
returns-then-count-eq0 g c =
    λ clear.
    let x = c.args.self.now in
    let m = g.C.Meaning.Rules.meaning in
    let work = c.in-Some.call.now.work in
    let fl : c.flight-flight.result.now ≡ flight_of x.calls.items c.args.p = c.flight-flight.ensures
    ∙ ap (λ fs. flight_of fs c.args.p) c.deref.ensures.value in
    let there = sym (ap (λ (f : Flight). f.call) fl) ∙ (sym c.get.ensures ∙ ap option_copied c.in-Some.is) in
    let none = sym (ap (λ (f : Flight). length f.chain.levels) fl) ∙ sym c.count.ensures.value ∙ c.if-count-eq0.true in
    let free : c.is_free.result ≡ true = grind (arith, c.if-not-is_free.false) in
    let said : c.is_lock.result ≡ false = grind (arith, clear) in
    let plain = other_free (objects_of x.store).things.lock c.args.p (call_of work)
    (sym (c.is_lock.ensures work.bytes.items) ∙ said) in
    plain_unblocked m (sound_in_place m g.C.Meaning.Rules.laws) g.C.Meaning.Rules.laws
    x c.args.p c.in-Some.call.now c.requires.at.running c.requires.at.abstraction
    (c.is_free.ensures.0 free) there plain none
