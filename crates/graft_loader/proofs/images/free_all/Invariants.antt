use Rattle.std.proofs.Common.{◌≡◌, map, take, drop, ◌++◌}
use Rattle.graft_loader.specs.Slots.{free_in_place}
use Rattle.graft_loader.proofs.images.free_all.Given as goal

abbrev pub invariant-loop-slot : goal.invariant-loop-slot
invariant-loop-slot l =
    l.slots ≡ map free_in_place (take l.slot-index l.initial.slots) ++ drop l.slot-index
    l.initial.slots
