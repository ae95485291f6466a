use Rattle.graft_loader.specs.Slots.{table_of}
use Rattle.audit_state.specs.Worlds.{world_of}
use Rattle.audit_pieces.specs.Stores.{objects_of}
use Rattle.audit_kernel.proofs.Beginning.{kernel_is}
use Rattle.audit_kernel.proofs.Run.boot.Goals as goal

pub returns-clause-kernel : goal.returns-clause-kernel
returns-clause-kernel c =
    kernel_is (world_of c.args.world) (table_of c.in_ok-images.images) (objects_of c.in_ok-store.store)
    c.from.result c.in_ok-flights.flights.items c.new-2.result.items c.in_ok-images.ensures.table
    c.in_ok-store.ensures.objects c.from.ensures c.in_ok-flights.ensures c.new-2.ensures.items
