-- A kernel that is booted runs.
use Rattle.lab_trace.proofs.looks.state_of.Goals as goal

pub add_flights-requires : goal.add_flights-requires
add_flights-requires g c = (c.requires.within.kernel c.if-slow.true).running
