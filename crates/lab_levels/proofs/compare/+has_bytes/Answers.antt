use Rattle.std.proofs.Common.{◌≡◌, length, arith}
use Rattle.std.proofs.lemmas.Bool.Decides.{nat_tests}
use Rattle.ram_space.proofs.Lists.{has_none}
use Rattle.lab_levels.proofs.compare.+has_bytes.Goals as goal

pub returns-then-is_empty : goal.returns-then-is_empty
returns-then-is_empty _ c =
    has_none c.args.a c.args.wanted.now c.args.memory.now
    (let e : length c.args.wanted.now ≡ 0 = grind (arith, nat_tests, c.is_empty.ensures, c.if-is_empty.true) in e)
