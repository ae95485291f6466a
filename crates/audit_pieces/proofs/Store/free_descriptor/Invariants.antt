-- What is left leads where all of it leads.
use Rattle.std.proofs.Common.{◌≡◌, ◌-◌}
use Rattle.kernel_model.specs.FilePieces.{free_descriptor}
use Rattle.audit_pieces.specs.Stores.{objects_of}
use Rattle.audit_pieces.proofs.Store.free_descriptor.Given as goal

abbrev pub invariant-loop-fd : goal.invariant-loop-fd
invariant-loop-fd l =
    free_descriptor (objects_of l.self).things l.p (4 - l.fd) l.fd
    ≡ free_descriptor (objects_of l.self).things l.p 4 0
