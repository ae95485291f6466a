use Rattle.kernel_data.specs.declared.FileRow.{FileRow}
use Rattle.std.proofs.Common.{◌≡◌, ℕ, length, get_or, None, Some, true}
use Rattle.kernel_data.specs.Directory.{entries, lies_on_disk}
use Rattle.mem_disk.proofs.directory.read_entries.Given as goal

abbrev pub invariant-loop-i : goal.invariant-loop-i
invariant-loop-i l = record {
  value : l.rows.items ≡ entries l.size l.block l.i;
  count : length l.rows.items ≡ l.i;
  files : (n : ℕ) (r : FileRow) → get_or l.rows.items n None ≡ Some r → lies_on_disk l.size r ≡ true;
}
