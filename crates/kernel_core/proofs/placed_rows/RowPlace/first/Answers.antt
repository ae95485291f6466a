-- All rows are left.
use Rattle.kernel_core.proofs.RowPlaceLemmas.{from_first, most_first}
use Rattle.kernel_core.proofs.placed_rows.RowPlace.first.Goals as goal

pub returns-clause-rows : goal.returns-clause-rows
returns-clause-rows c = from_first

pub returns-clause-most : goal.returns-clause-most
returns-clause-most c = most_first
