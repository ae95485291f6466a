use Rattle.std.proofs.Common.{rules}
use Rattle.lock_table.proofs.TakerLemmas.{alike}
use Rattle.lock_table.proofs.taking.nobody.Goals as goal

pub returns-clause-free : goal.returns-clause-free
returns-clause-free c = search (rules, alike)
