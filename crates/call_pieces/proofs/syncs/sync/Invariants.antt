use Rattle.std.proofs.Common.{◌≡◌}
use Rattle.kernel_state.specs.Calls.{CallsExtend}
use Rattle.kernel_state.specs.Stores.{world_of_store, objects_of, queue_of}
use Rattle.call_pieces.proofs.SyncLaws.{Midway}
use Rattle.call_pieces.proofs.syncs.sync.Given as goal

abbrev pub invariant-loop-f : goal.invariant-loop-f
invariant-loop-f g l = record {
  so_far : Midway l.initial.store.setup.frames l.f l.written (objects_of l.initial.store)
      (objects_of l.store) (g.D.Disk.seen l.initial.disk).known (g.D.Disk.seen l.disk).known l.log;
  calls : CallsExtend (g.D.Disk.seen l.initial.disk) (g.D.Disk.seen l.disk) l.initial.log l.log;
  queue : queue_of l.store ≡ queue_of l.initial.store;
  world : world_of_store l.store ≡ world_of_store l.initial.store;
  disk : l.store.size ≡ (g.D.Disk.seen l.disk).size;
  ram : l.store.ram ≡ l.initial.store.ram;
}
