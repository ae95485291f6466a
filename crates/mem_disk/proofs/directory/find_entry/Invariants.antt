use Rattle.std.proofs.Common.{◌≡◌, drop}
use Rattle.kernel_data.specs.World.{entry_named}
use Rattle.mem_disk.proofs.directory.find_entry.Given as goal

abbrev pub invariant-loop-i : goal.invariant-loop-i
invariant-loop-i l = entry_named l.name 0 l.rows ≡ entry_named l.name l.i (drop l.i l.rows)
