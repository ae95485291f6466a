-- What the calls of this kernel mean: counters, combined with the plain calls.
use Rattle.kernel_model.specs.Beside.{beside}
use Rattle.kernel_model.specs.Meaning.{Meaning}
use Rattle.kernel_model.specs.Pieces.{plain_calls}
use Rattle.quick_calls.specs.QuickTables.{quick_meaning}
use Rattle.counters.specs.Table.{is_own, counters}

-- counters, and all plain calls except `poke` and `peek`
abbrev pub counting : Meaning
counting = beside is_own (quick_meaning counters) plain_calls
