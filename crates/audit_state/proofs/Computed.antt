-- The directory of the sample disk, computed.
use Rattle.std.proofs.Common.{refl}
use Rattle.kernel_model.specs.Directory.{sample_directory, entries, is_usable, entry_row}
use Rattle.audit_state.specs.Worlds.{RowsAre, sample_rows}

pub computed : RowsAre
unfolding sample_directory entries is_usable entry_row sample_rows
computed = refl
