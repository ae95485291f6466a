-- So many are made.
use Rattle.std.proofs.Common.{◌≡◌, replicate}
use Rattle.running_kernel.specs.Views.{no_flight}
use Rattle.running_kernel.proofs.running.no_flights.Given as goal

abbrev pub invariant-loop : goal.invariant-loop
invariant-loop l = (l.flights.items ≡ replicate l.counter no_flight) × (l.flights.room ≡ l.count)
