use Rattle.std.proofs.Common.{◌≤◌, length, ap, sym, ◌∙◌, arith}
use Rattle.std.proofs.lemmas.Bool.Decides.{nat_tests}
use Rattle.lock_table.specs.Masks.{is_used}
use Rattle.lock_table.proofs.Used.{no_holds-unused}
use Rattle.lock_table.proofs.NotedLemmas.{beyond}
use Rattle.lock_table.proofs.rows.is_used_at.Goals as goal

pub returns-in-None : goal.returns-in-None
returns-in-None c =
    let out : length c.args.masks.now ≤ c.args.number = grind (arith, nat_tests, c.in-None.ensures.lookup) in
    sym (ap is_used (beyond c.args.masks.now c.args.number out) ∙ no_holds-unused)
