use Rattle.std.proofs.Common.{◌≡◌, ◌-◌}
use Rattle.kernel_model.specs.FilePieces.{free_descriptor}
use Rattle.kernel_state.specs.Stores.{objects_of}
use Rattle.kernel_state.proofs.Store.free_descriptor.Given as goal

abbrev pub invariant-loop-fd : goal.invariant-loop-fd
invariant-loop-fd g l =
    free_descriptor (objects_of l.self).things l.p (4 - l.fd) l.fd
    ≡ free_descriptor (objects_of l.self).things l.p 4 0
