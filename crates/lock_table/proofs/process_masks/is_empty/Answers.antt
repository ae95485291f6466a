use Rattle.std.proofs.Common.{◌≡◌, ◌<◌, ℕ, ap, ◌∙◌, arith}
use Rattle.std.proofs.lemmas.Bool.Decides.{nat_tests}
use Rattle.lock_table.specs.Takers.{has_process}
use Rattle.lock_table.proofs.ProcessMasks.{empty, some_process}
use Rattle.lock_table.proofs.process_masks.is_empty.Goals as goal

pub returns-clause-none : goal.returns-clause-none
returns-clause-none c is q =
    let none : c.args.mask ≡ 0 = grind (arith, nat_tests, is) in
    ap (λ (m : ℕ). has_process m q) none ∙ empty q

pub returns-clause-some : goal.returns-clause-some
returns-clause-some c is =
    let low : c.args.mask < 65536 = c.ranges.mask.fits in
    some_process c.args.mask (grind (arith, nat_tests, is)) low
