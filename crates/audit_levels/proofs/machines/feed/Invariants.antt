use Rattle.std.proofs.Common.{◌≡◌, length, take}
use Rattle.kernel_model.specs.Machine.{fed}
use Rattle.audit_table.specs.Tables.{by_place}
use Rattle.audit_levels.proofs.machines.feed.Given as goal

abbrev pub invariant-loop-i : goal.invariant-loop-i
invariant-loop-i l = record {
  bytes : by_place l.memory.items ≡ fed (take l.i l.bytes) (by_place l.fn.memory.items);
  size : length l.memory.items ≡ length l.fn.memory.items;
}
