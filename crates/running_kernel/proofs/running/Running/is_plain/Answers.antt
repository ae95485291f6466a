use Rattle.std.proofs.Common.{◌≡◌, length, ap, sym, ◌∙◌, arith}
use Rattle.std.specs.Prelude.{option_copied}
use Rattle.running_kernel.specs.declared.running.Flight.{Flight}
use Rattle.running_kernel.specs.Views.{flight_of}
use Rattle.running_kernel.proofs.PlainLemmas.{no_level}
use Rattle.running_kernel.proofs.running.Running.is_plain.Goals as goal

pub returns-in-Some : goal.returns-in-Some
returns-in-Some g c =
    λ plain.
    let x = c.args.self.now in
    let fl : c.flight-flight.result.now ≡ flight_of x.calls.items c.args.p = c.flight-flight.ensures
    ∙ ap (λ fs. flight_of fs c.args.p) c.deref.ensures.value in
    record {
      none =
          no_level (flight_of x.calls.items c.args.p).chain.levels
          (sym (ap (λ (f : Flight). length f.chain.levels) fl) ∙ sym c.count.ensures.value
          ∙ omega (arith, c.if-count-gt0.false));
      nowhere = c.has_grafts.ensures.none c.if-has_grafts.false;
      flight = c.in-Some.call.now;
      stands = sym (ap (λ (f : Flight). f.call) fl) ∙ (sym c.get.ensures ∙ ap option_copied c.in-Some.is);
      user = c.is_free_of_users.ensures c.in-Some.call.now.work.bytes.items plain;
    }
