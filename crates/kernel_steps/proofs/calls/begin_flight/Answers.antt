use Rattle.std.proofs.Common.{◌≡◌, ap, ◌∙◌}
use Rattle.running_kernel.specs.declared.running.Flight.{Flight}
use Rattle.running_kernel.specs.Views.{flight_of, no_flight}
use Rattle.kernel_steps.proofs.CallLemmas.{with_call_of}
use Rattle.kernel_steps.proofs.MoveLemmas.{any_default}
use Rattle.kernel_steps.proofs.calls.begin_flight.Goals as goal

pub returns : goal.returns
returns g c =
    let fs = c.args.flights.now.items in
    let l = c.index_mut-flight.result.now in
    let fl : l ≡ flight_of fs c.args.p = c.index_mut-flight.ensures.value
    ∙ any_default fs c.args.p l no_flight c.requires.process in
    record {
      slot = c.begin_in.new.slot;
      flights = ap (λ (f : Flight). with_call_of fs c.args.p c.begin_in.new.slot f) fl;
      says = c.begin_in.ensures;
    }
