use Rattle.std.proofs.Common.{rules}
use Rattle.lock_table.proofs.Places.{alike}
use Rattle.lock_table.proofs.rows.nothing_held.Goals as goal

pub returns-clause-free : goal.returns-clause-free
returns-clause-free c = search (rules, alike)
