-- No graft stands.
use Rattle.graft_loader.specs.Slots.{table_of}
use Rattle.call_pieces.specs.Stores.{objects_of}
use Rattle.kernel_core.proofs.BootLemmas.{opening_loaded}
use Rattle.kernel_core.proofs.kernel.Kernel.new.Goals as goal

pub new-requires-2 : goal.new-requires-2
new-requires-2 g c =
    record {
      loaded = opening_loaded (table_of c.args.images) (objects_of c.new-store.result)
          c.args.setup.grant c.new-store.ensures.objects;
    }
