use Rattle.std.proofs.Common.{◌≡◌, length, ap, sym, ◌∙◌, arith}
use Rattle.std.proofs.lemmas.Bool.{eqb-true}
use Rattle.std.specs.Prelude.{option_copied}
use Rattle.placed_laws.proofs.Laws.{sound_in_place}
use Rattle.running_kernel.specs.declared.running.Flight.{Flight}
use Rattle.running_kernel.specs.Views.{flight_of}
use Rattle.running_kernel.proofs.StillLemmas.{takes_it}
use Rattle.running_kernel.proofs.running.Running.takes_alone.Goals as goal

pub returns-in-Some-lock_taken : goal.returns-in-Some-lock_taken
returns-in-Some-lock_taken g c =
    λ said.
    let x = c.args.self.now in
    let m = g.C.Meaning.Rules.meaning in
    let fl : c.flight-flight.result.now ≡ flight_of x.calls.items c.args.p = c.flight-flight.ensures
    ∙ ap (λ fs. flight_of fs c.args.p) c.deref.ensures.value in
    let there = sym (ap (λ (f : Flight). f.call) fl) ∙ (sym c.get.ensures ∙ ap option_copied c.in-Some.is) in
    let none = sym (ap (λ (f : Flight). length f.chain.levels) fl) ∙ sym c.count.ensures.value
    ∙ omega (arith, c.if-count-gt0.false) in
    takes_it m (sound_in_place m g.C.Meaning.Rules.laws) g.C.Meaning.Rules.laws x c.args.p
    c.in-Some.call.now c.in-Some-lock_taken.taken c.args.u c.requires.running c.requires.abstraction
    there none (rw c.in-Some-lock_taken.is at c.lock_taken.ensures)
    (eqb-true c.in-Some-lock_taken.taken c.from.result said ∙ c.from.ensures)
