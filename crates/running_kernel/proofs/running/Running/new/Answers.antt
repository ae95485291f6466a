use Rattle.running_kernel.proofs.StartLemmas.{just_begun}
use Rattle.running_kernel.proofs.running.Running.new.Goals as goal

pub returns-in-Ok-no_flights-clause-running : goal.returns-in-Ok-no_flights-clause-running
returns-in-Ok-no_flights-clause-running g c =
    just_begun (record {
      store = c.args.store;
      clock = 0;
      images = c.args.images;
      locks = c.in-Ok.locks;
      calls = c.in-Ok-no_flights.calls;
      order = c.new-in-Ok-no_flights.result;
      table = _;
    })
    c.in-Ok-no_flights.ensures c.in-Ok.ensures c.new-in-Ok-no_flights.ensures c.requires.loaded
